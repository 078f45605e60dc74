-- (g) The tests decide what they are tests of.
use Rattle.std.specs.Prelude.{ℕ}
use Rattle.duality.specs.Matching.{IsMatching}
use Rattle.duality.specs.Cover.{Covers}
use Rattle.duality.specs.Decide.{Decides}
use Rattle.duality.specs.Tests.{matching_test, covers_test}

abbrev pub MatchingTestDecides : Type 0
MatchingTestDecides = (n m : ℕ) (w : ℕ → ℕ → ℕ) (matching : ℕ → ℕ) → Decides (matching_test n m w matching) (IsMatching n m w matching)

abbrev pub CoversTestDecides : Type 0
CoversTestDecides =
    (n m : ℕ) (w : ℕ → ℕ → ℕ) (c : ℕ) (price gain : ℕ → ℕ) → Decides (covers_test n m w c price gain) (Covers n m w c price gain)
