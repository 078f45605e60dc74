-- (f) The greatest weight is what its name says.
use Rattle.std.specs.Prelude.{◌≡◌, ℕ, ◌≤◌}
use Rattle.duality.specs.Matching.{IsMatching, weight_of}
use Rattle.duality.specs.Cover.{total}
use Rattle.duality.specs.Greatest.{greatest_weight}
use Rattle.duality.specs.StrongDuality.{Equal}

-- No matching weighs more, one weighs as much, and the total of an equal pair is just that
pub record IsGreatest (n m : ℕ) (w : ℕ → ℕ → ℕ) : Type 0 where
  pub bound : (matching : ℕ → ℕ) → IsMatching n m w matching → weight_of n w matching ≤ greatest_weight n m w
  pub attained : (matching : ℕ → ℕ) × IsMatching n m w matching × (weight_of n w matching ≡ greatest_weight n m w)
  pub equal : (matching price gain : ℕ → ℕ) → Equal n m w matching price gain → total n m price gain ≡ greatest_weight n m w

abbrev pub GreatestWeight : Type 0
GreatestWeight = (n m : ℕ) (w : ℕ → ℕ → ℕ) → IsGreatest n m w
