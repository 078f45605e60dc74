-- (c) The share.
use Rattle.std.specs.Prelude.{ℕ, ◌*◌, ◌≤◌}
use Rattle.duality.specs.Matching.{IsMatching, weight_of}
use Rattle.duality.specs.Cover.{Covers, Tight}

-- A matching that is tight at d with prices and gains that cover at c weighs at least c/d of any other
abbrev pub Share : Type 0
Share =
    (n m : ℕ) (w : ℕ → ℕ → ℕ) (c d : ℕ) (matching price gain other : ℕ → ℕ) →
    IsMatching n m w matching → Tight n m w d matching price gain → Covers n m w c price gain →
    IsMatching n m w other → c * weight_of n w other ≤ d * weight_of n w matching
