-- `lent::write` meets its contract: so many cells are written.
use native.Mathlib.Omega.{arith}
use Rattle.board.proofs.Written.{written-front}
use Rattle.board.proofs.lent.write.Goals as goal

pub returns : goal.returns
returns c = written-front _ _ _ _ c.copy_from_slice.ensures.after (omega arith) (omega arith)
