-- `cover::prices_verdict` meets its contract: the first price that does not hold is told.
use mathlib.Core.Path.{sym, ◌∙◌}
use native.Mathlib.Numerals.{add-one}
use native.Mathlib.Omega.{arith}
use Rattle.certificate.specs.Check.{price_test}
use Rattle.refusals.proofs.Places.{first_at, none_at}
use Rattle.certificate.proofs.cover.prices_verdict.Goals as goal

pub returns-then-not-price_holds-clause-verdict : goal.returns-then-not-price_holds-clause-verdict
unfolding price_test
returns-then-not-price_holds-clause-verdict c =
    rw add-one (first_at _ _ _ c.loop-k.k (omega arith) c.loop-k.invariant (rw (← c.is_gone.ensures) (sym c.price_holds.ensures ∙ c.if-not-price_holds.true)))

pub returns-clause-verdict : goal.returns-clause-verdict
unfolding price_test
returns-clause-verdict c = none_at _ _ _ (λ j l. c.loop-k.invariant j (omega arith))
