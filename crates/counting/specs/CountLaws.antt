-- What the slow count comes to, of any numbers of bidders, items and places.
use Rattle.std.specs.Prelude.{◌≡◌, ◌↔◌, ℕ, ◌≤◌}
use Rattle.duality.specs.Matching.{weight_of}
use Rattle.duality.specs.Greatest.{greatest_weight}
use Rattle.places.specs.Places.{Ones}
use Rattle.places.specs.Plan.{IsPlan}
use Rattle.places.specs.GreatestWeightWith.{greatest_with}
use Rattle.counting.specs.Count.{Trial, count_with}

-- It is the greatest of all that may be tried
pub record IsBestTrial (n m : ℕ) (free : ℕ → ℕ) (w : ℕ → ℕ → ℕ) : Type 0 where
  pub tried : Trial m n free w (count_with n m free w)
  pub best : (x : ℕ) → Trial m n free w x → x ≤ count_with n m free w

abbrev pub CountIsBestTrial : Type 0
CountIsBestTrial = (n m : ℕ) (free : ℕ → ℕ) (w : ℕ → ℕ → ℕ) → IsBestTrial n m free w

-- What a trial adds up to is what a plan weighs, and nothing else is: "A plan gives each batch one kettle or none, only along entries", and "may name a kettle
-- once per place" (document 02, R-6)
abbrev pub TrialsArePlans : Type 0
TrialsArePlans =
    (n m : ℕ) (free : ℕ → ℕ) (w : ℕ → ℕ → ℕ) (x : ℕ) →
    Trial m n free w x ↔ ((plan : ℕ → ℕ) × IsPlan n m free w plan × (weight_of n w plan ≡ x))

-- "It returns the greatest worth": no plan weighs more, and one weighs as much
pub record IsCount (n m : ℕ) (count : ℕ → ℕ) (w : ℕ → ℕ → ℕ) : Type 0 where
  pub bound : (plan : ℕ → ℕ) → IsPlan n m count w plan → weight_of n w plan ≤ count_with n m count w
  pub attained : (plan : ℕ → ℕ) × IsPlan n m count w plan × (weight_of n w plan ≡ count_with n m count w)

abbrev pub CountMeans : Type 0
CountMeans = (n m : ℕ) (count : ℕ → ℕ) (w : ℕ → ℕ → ℕ) → IsCount n m count w

-- The count by free places of items is the greatest weight of a matching over all places, which the exact level answers
abbrev pub CountIsGreatest : Type 0
CountIsGreatest = (n m : ℕ) (count : ℕ → ℕ) (w : ℕ → ℕ → ℕ) → count_with n m count w ≡ greatest_with n m count w

-- With one place each it is the greatest weight of a matching over items, counted by columns that are struck out
abbrev pub CountOfOnes : Type 0
CountOfOnes = (n m : ℕ) (count : ℕ → ℕ) (w : ℕ → ℕ → ℕ) → Ones m count → count_with n m count w ≡ greatest_weight n m w
