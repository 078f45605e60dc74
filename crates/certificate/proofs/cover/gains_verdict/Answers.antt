-- `cover::gains_verdict` meets its contract: the first gain above the limit is told.
use native.Mathlib.Numerals.{add-one}
use native.Mathlib.Omega.{arith}
use borrow.Author.Tests.{lt-leb}
use Rattle.refusals.proofs.Places.{first_at, none_at}
use Rattle.certificate.proofs.cover.gains_verdict.Goals as goal

pub returns-then-gain-gt-MAX_PRICE-clause-verdict : goal.returns-then-gain-gt-MAX_PRICE-clause-verdict
returns-then-gain-gt-MAX_PRICE-clause-verdict c = rw add-one (first_at _ _ _ c.loop-i.i (omega arith) c.loop-i.invariant (lt-leb _ _ c.if-gain-gt-MAX_PRICE.true))

pub returns-clause-verdict : goal.returns-clause-verdict
returns-clause-verdict c = none_at _ _ _ (λ j l. c.loop-i.invariant j (omega arith))
