-- `sweep` meets its contract: each item that is passed is relaxed, the others are as they were, and the fall is the least excess so far.
use mathlib.Core.Path.{refl}
use native.Mathlib.Omega.{arith}
use Rattle.hungarian.proofs.Relaxing.{swept-more}
use Rattle.hungarian.proofs.tree.sweep.Goals as goal
use Rattle.hungarian.proofs.tree.sweep.Goals.{then-now-fall, else-now-fall}

pub loop-j-preserved : goal.loop-j-preserved
loop-j-preserved c =
    let relaxed = rw c.from-k.ensures at c.relax-now.ensures.relaxed in
    let now = rw c.from-k.ensures at c.relax-now.ensures.excess in
    elim c.if-now-fall.branch [
      | then-now-fall w ↦ rw (w.cell-is, w.fall-is) (swept-more c.loop-j.invariant c.requires.left (omega arith) relaxed
          (λ _. refl, λ h. absurd (omega (arith, now, w.if-now-fall.true)))
          (λ _. now, λ h. absurd (omega (arith, now, w.if-now-fall.true))))
      | else-now-fall w ↦ rw (w.cell-is, w.fall-is) (swept-more c.loop-j.invariant c.requires.left (omega arith) relaxed
          (λ h. absurd (omega (arith, now, w.if-now-fall.false)), λ _. refl)
          (λ h. absurd (omega (arith, now, w.if-now-fall.false)), λ _. refl))
    ]
