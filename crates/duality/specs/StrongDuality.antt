-- (d) Strong duality.
use Rattle.std.specs.Prelude.{◌≡◌, ℕ}
use Rattle.duality.specs.Matching.{IsMatching, weight_of}
use Rattle.duality.specs.Cover.{Covers, total}

-- A matching and a cover in whole numbers with equal totals
pub record Equal (n m : ℕ) (w : ℕ → ℕ → ℕ) (matching price gain : ℕ → ℕ) : Type 0 where
  pub matches : IsMatching n m w matching
  pub covers : Covers n m w 1 price gain
  pub same : weight_of n w matching ≡ total n m price gain

-- There is such a pair, whatever the weights
abbrev pub StrongDuality : Type 0
StrongDuality =
    (n m : ℕ) (w : ℕ → ℕ → ℕ) →
    (matching : ℕ → ℕ) × (price : ℕ → ℕ) × (gain : ℕ → ℕ) × Equal n m w matching price gain
