-- `clash::plan_verdict` meets its contract: the first cell that does not hold is told.
use mathlib.Core.Path.{sym, ◌∙◌}
use native.Mathlib.Numerals.{add-one}
use native.Mathlib.Omega.{arith}
use Rattle.refusals.proofs.Places.{first_at, none_at}
use Rattle.matching.proofs.clash.plan_verdict.Goals as goal

pub returns-then-not-cell_holds-clause-verdict : goal.returns-then-not-cell_holds-clause-verdict
returns-then-not-cell_holds-clause-verdict c =
    rw add-one (first_at _ _ _ c.loop-i.i (omega arith) c.loop-i.invariant.0 (sym c.cell_holds.ensures.test ∙ c.if-not-cell_holds.true))

pub returns-clause-verdict : goal.returns-clause-verdict
returns-clause-verdict c = none_at _ _ _ (λ j l. c.loop-i.invariant.0 j (omega arith))
