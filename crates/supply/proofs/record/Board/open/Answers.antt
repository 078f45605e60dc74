-- `Board::open` meets its contract: what is opened has counts that are kept.
use mathlib.Core.Path.{sym, ◌∙◌}
use Rattle.supply.proofs.Openings.{opened-counts}
use Rattle.supply.proofs.record.Board.open.Goals as goal

pub empty_board-requires : goal.empty_board-requires
empty_board-requires c = (opened-counts _ _ _ _ (sym c.open_verdict.ensures ∙ c.in_ok-open_verdict.was)).kept
