-- `sound::no_edges` meets its contract.
use native.Mathlib.Omega.{arith}
use Rattle.duality.proofs.Decide.{true-is, false-is}
use Rattle.board.proofs.SoundPass.{empty-decides}
use Rattle.board.proofs.sound.no_edges.Goals as goal

pub returns-then-weights-k-ne0 : goal.returns-then-weights-k-ne0
returns-then-weights-k-ne0 c = false-is _ (empty-decides _ _) (λ h. c.if-weights-k-ne0.true (h _ (omega arith) (omega arith)))

pub returns : goal.returns
returns c = true-is (empty-decides _ _) (λ j a l. c.loop-k.invariant j a (omega arith))
