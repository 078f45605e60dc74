-- (b) Tightness.
use Rattle.std.specs.Prelude.{◌≡◌, ℕ, ◌*◌}
use Rattle.duality.specs.Matching.{IsMatching, weight_of}
use Rattle.duality.specs.Cover.{Tight, total}

-- A matching and prices and gains that are tight at d: the total is d times the weight
abbrev pub Tightness : Type 0
Tightness =
    (n m : ℕ) (w : ℕ → ℕ → ℕ) (d : ℕ) (matching price gain : ℕ → ℕ) →
    IsMatching n m w matching → Tight n m w d matching price gain → total n m price gain ≡ d * weight_of n w matching
