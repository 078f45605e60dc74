-- The order of plans: what it means, apart from how it is computed; and that it is total.
use Rattle.std.specs.Prelude.{◌≡◌, List, ◌↔◌, ◌⊎◌, ℕ, ◌<◌, pos, ◌<ℤ◌}
use Rattle.duality.specs.Lists.{cells}
use Rattle.supply.specs.declared.record.Board.{Board}
use Rattle.matching.specs.Plans.{PlanOn, weight_on}
use Rattle.std.specs.declared.cmp.Ordering.{Ordering}
use Rattle.std.specs.declared.cmp.Ordering.TheVariants.{Less, Equal, Greater}
use Rattle.comparison.specs.Compare.{difference_of, order_of}

-- ---- What it means

-- The first comes before the second
pub data Precedes (b : Board) (first second : List ℕ) : Type 0 where
  -- "the greater worth first"
  heavier : weight_on b second < weight_on b first → Precedes b first second
  -- "then by the plan's cells, the first smaller cell making the earlier plan": all cells before it are alike
  smaller : (i : ℕ) → i < b.market.arrived → weight_on b first ≡ weight_on b second → ((h : ℕ) → h < i → cells first h ≡ cells second h) →
      cells first i < cells second i → Precedes b first second

-- The same cells, one for each bidder
abbrev pub SameCells : Board → List ℕ → List ℕ → Type 0
SameCells b first second = (i : ℕ) → i < b.market.arrived → cells first i ≡ cells second i

pub record Ordered (b : Board) (first second : List ℕ) : Type 0 where
  pub earlier : (order_of b first second ≡ Less) ↔ Precedes b first second
  pub later : (order_of b first second ≡ Greater) ↔ Precedes b second first
  -- "equal means the same cells"
  pub same : (order_of b first second ≡ Equal) ↔ SameCells b first second

abbrev pub OrderMeans : Type 0
OrderMeans = (b : Board) (first second : List ℕ) → Ordered b first second

-- ---- "The order must be total, and equal means the same cells"

-- The first plan is earlier, or the same
abbrev pub NotLater : Board → List ℕ → List ℕ → Type 0
NotLater b first second = order_of b first second ≡ Greater → ⊥

-- The answer where the plans are exchanged
abbrev pub turned : Ordering → Ordering
turned Less = Greater
turned Equal = Equal
turned Greater = Less

pub record TotalOrder (b : Board) : Type 0 where
  pub total : (first second : List ℕ) → NotLater b first second ⊎ NotLater b second first
  pub antisymmetric : (first second : List ℕ) → PlanOn b first → PlanOn b second → NotLater b first second → NotLater b second first → first ≡ second
  pub transitive : (first second third : List ℕ) → NotLater b first second → NotLater b second third → NotLater b first third
  -- The same of "earlier" alone
  pub strict : (first second third : List ℕ) → order_of b first second ≡ Less → order_of b second third ≡ Less → order_of b first third ≡ Less
  -- "equal means the same cells": of two plans, the same list
  pub same : (first second : List ℕ) → PlanOn b first → PlanOn b second → (order_of b first second ≡ Equal) ↔ (first ≡ second)
  -- A plan of greater weight is always earlier
  pub heavier : (first second : List ℕ) → weight_on b second < weight_on b first → order_of b first second ≡ Less
  pub swapped : (first second : List ℕ) → order_of b second first ≡ turned (order_of b first second)

abbrev pub OrderTotal : Type 0
OrderTotal = (b : Board) → TotalOrder b

-- ---- Difference and order together

-- The sign of the difference tells the order: more is earlier, less is later; and the same plan has none
pub record SignTells (b : Board) (first second : List ℕ) : Type 0 where
  pub above : pos 0 <ℤ difference_of b first second → order_of b first second ≡ Less
  pub below : difference_of b first second <ℤ pos 0 → order_of b first second ≡ Greater
  pub same : order_of b first second ≡ Equal → difference_of b first second ≡ pos 0

abbrev pub SignsTell : Type 0
SignsTell = (b : Board) (first second : List ℕ) → SignTells b first second
