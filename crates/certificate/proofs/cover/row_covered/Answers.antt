-- `cover::row_covered` meets its contract: each live edge is covered, or the first is told that is not.
use native.Mathlib.Omega.{arith}
use Rattle.duality.proofs.Decide.{true-is, false-is}
use Rattle.certificate.proofs.Tests.{covered-decides}
use Rattle.certificate.proofs.cover.row_covered.Goals as goal

pub returns-then-least-gain : goal.returns-then-least-gain
returns-then-least-gain c =
    false-is _ (covered-decides _ _ _ _ _ _) (λ h. let e = rw c.weight.ensures.live at c.least.ensures in omega (arith, h c.loop-k.k (omega arith)))

pub returns : goal.returns
returns c = true-is (covered-decides _ _ _ _ _ _) (λ j l. c.loop-k.invariant j (omega arith))
