-- `wall::put_board` meets its contract.
use native.Mathlib.Omega.{arith}
use Rattle.history.proofs.Walls.{board-put, board-refused}
use Rattle.history.proofs.wall.put_board.Goals as goal

pub returns-in_default : goal.returns-in_default
returns-in_default c = absurd (board-refused c.args.board.now c.requires _ _ (omega arith) _ c.write_page.ensures _ c.in_default.is)

pub returns : goal.returns
returns c = board-put c.args.board.now c.requires _ _ (omega arith) _ c.write_page.ensures _ c.in-Ok.is
