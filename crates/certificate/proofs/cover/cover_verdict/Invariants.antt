-- `cover::cover_verdict`: the bidders passed are covered.
use mathlib.Core.Path.{◌≡◌}
use mathlib.Core.Bool.{true}
use Prim.Native.Nat.{ℕ, ◌<◌}
use lib.ListN.{length}
use Rattle.duality.specs.Lists.{cells}
use Rattle.supply.specs.ByItem.{live}
use Rattle.certificate.specs.Check.{covered_test}
use Rattle.certificate.proofs.cover.cover_verdict.Given as goal

abbrev pub invariant-loop-i : goal.invariant-loop-i
invariant-loop-i l =
    (j : ℕ) → j < l.i → covered_test (length l.prices) (live l.sheet j) l.slack.p l.slack.q (cells l.prices) (cells l.gains j) ≡ true
