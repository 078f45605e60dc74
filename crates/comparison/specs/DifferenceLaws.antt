-- The difference of two plans is that of their weights, as whole numbers.
use Rattle.std.specs.Prelude.{◌≡◌, List, ◌↔◌, ℕ, suc, ◌+◌, ◌≤◌, ◌<◌, pos, negsuc, neg_ℤ, nat_abs, ◌<ℤ◌}
use Rattle.supply.specs.declared.record.Board.{Board}
use Rattle.matching.specs.Plans.{weight_on}
use Rattle.comparison.specs.Compare.{difference_of}
use Rattle.comparison.specs.Demand1.{TwoPlans}

pub record Difference (b : Board) (first second : List ℕ) : Type 0 where
  -- d pence, or minus d + 1 pence: just so much more, or less, does the first weigh
  pub more : (d : ℕ) → (difference_of b first second ≡ pos d) ↔ (weight_on b first ≡ weight_on b second + d)
  pub less : (d : ℕ) → (difference_of b first second ≡ negsuc d) ↔ (weight_on b second ≡ weight_on b first + suc d)
  -- 0 exactly where both weigh the same
  pub none : (difference_of b first second ≡ pos 0) ↔ (weight_on b first ≡ weight_on b second)
  -- "negative where the first is worth less", and nowhere else
  pub negative : (difference_of b first second <ℤ pos 0) ↔ (weight_on b first < weight_on b second)
  pub positive : (pos 0 <ℤ difference_of b first second) ↔ (weight_on b second < weight_on b first)
  -- The plans exchanged, it is negated
  pub swapped : difference_of b second first ≡ neg_ℤ (difference_of b first second)

abbrev pub DifferenceExact : Type 0
DifferenceExact = (b : Board) (first second : List ℕ) → Difference b first second

-- Of two plans on a sound board's live sheet it is 64,000,000 pence at most, either way: 64 places at 1,000,000
abbrev pub DifferenceWithin : Type 0
DifferenceWithin = (b : Board) (first second : List ℕ) → TwoPlans b first second → nat_abs (difference_of b first second) ≤ 64000000
