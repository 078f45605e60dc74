-- Matchings of bidders to items along edges, and their weight (document 01: plans, and their worth).
--
-- Weights are n, how many bidders there are; m, how many items; and w, where w i k is the weight of the edge that joins bidder i + 1 to
-- item k + 1, and 0 where there is no edge. A matching is read cell by cell: the cell of bidder i + 1 is 0 where it has no item, and k + 1
-- where it has item k + 1.
use Rattle.std.specs.Prelude.{◌≡◌, ℕ, zero, suc, ◌<◌}
use Rattle.duality.specs.Sums.{sum_to}

-- What f says of the item that a cell names, and 0 where the cell names none
abbrev pub at_cell : (ℕ → ℕ) → ℕ → ℕ
at_cell f zero = 0
at_cell f (suc k) = f k

-- "A plan gives each batch one kettle or none, only along entries, and no kettle to two batches"
pub record IsMatching (n m : ℕ) (w : ℕ → ℕ → ℕ) (matching : ℕ → ℕ) : Type 0 where
  pub along : (i k : ℕ) → i < n → matching i ≡ suc k → (k < m) × (0 < w i k)
  pub once : (h i k : ℕ) → h < n → i < n → matching h ≡ suc k → matching i ≡ suc k → h ≡ i

-- "Its worth is the sum of the entries used"
abbrev pub weight_of : ℕ → (ℕ → ℕ → ℕ) → (ℕ → ℕ) → ℕ
weight_of n w matching = sum_to n (λ i. at_cell (w i) (matching i))
