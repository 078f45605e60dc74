-- `reading::greatest` meets its contract: a sound board is not refused.
use Rattle.board.specs.Lent.{lists}
use Rattle.history.proofs.Boards.{exact-weight, exact-serves}
use Rattle.history.proofs.reading.greatest.Goals as goal

pub returns-in_default : goal.returns-in_default
returns-in_default c = absurd (exact-serves c.args.board.now c.requires (lists _ _ _) _ c.exact.ensures.outcome _ c.in_default.is)

pub returns : goal.returns
returns c = exact-weight c.args.board.now c.requires (lists _ _ _) _ c.exact.ensures.outcome _ c.in-Ok.is
