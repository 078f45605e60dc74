-- `writing::weights_held` meets its contract.
use native.Mathlib.Omega.{arith}
use Rattle.board.proofs.Filling.{filled_more}
use Rattle.page.proofs.writing.weights_held.Goals as goal

pub weight_held-requires : goal.weight_held-requires
weight_held-requires c = record { bidder = omega arith; place = c.requires.plan _ (omega arith) }

pub loop-i-preserved : goal.loop-i-preserved
loop-i-preserved c = filled_more c.loop-i.invariant (omega arith) c.weight_held.ensures
