-- `cover::cover_verdict` meets its contract: the first bidder that is not covered is told.
use mathlib.Core.Path.{sym, ◌∙◌}
use native.Mathlib.Numerals.{add-one}
use native.Mathlib.Omega.{arith}
use Rattle.refusals.proofs.Places.{first_at, none_at}
use Rattle.certificate.proofs.cover.cover_verdict.Goals as goal

pub returns-then-not-row_covered : goal.returns-then-not-row_covered
returns-then-not-row_covered c =
    rw add-one (first_at _ _ _ c.loop-i.i (omega arith) c.loop-i.invariant (sym c.row_covered.ensures ∙ c.if-not-row_covered.true))

pub returns : goal.returns
returns c = none_at _ _ _ (λ j l. c.loop-i.invariant j (omega arith))
