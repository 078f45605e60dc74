-- What the count is lent: the live edges of few bidders at few items, row by row, and the free places of each item.
use Rattle.std.specs.Prelude.{◌≡◌, cond, List, ℕ, ◌+◌, ◌*◌, ◌≤◌, ◌<◌, length, get_or, ltb}
use Rattle.board.specs.Limits.{max_weight}
use Rattle.supply.specs.declared.record.Items.{Items}
use Rattle.supply.specs.Board.{places_in}
use Rattle.counting.specs.Limits.{max_counted}

-- The weight of the edge that joins bidder i + 1 to item k + 1: a row has 6 cells
abbrev pub rows_at : List ℕ → ℕ → ℕ → ℕ
rows_at rows i k = get_or rows (i * max_counted + k) 0

-- A row for each of n bidders, at most 6, with a cell for each of m items, at most 6. No weight is above the limit
pub record Countable (n m : ℕ) (rows : List ℕ) : Type 0 where
  pub bidders : n ≤ max_counted
  pub items : m ≤ max_counted
  pub size : n * max_counted ≤ length rows
  pub light : (i k : ℕ) → i < n → k < m → rows_at rows i k ≤ max_weight

-- What w says of bidder i + 1 and item k + 1, 0 where there is no such item
abbrev pub if_item : Items → (ℕ → ℕ → ℕ) → ℕ → ℕ → ℕ
if_item items w i k = cond (ltb k items.count) (w i k) 0

-- Rows of the first 6 bidders at the first 6 items, of the weights w
pub record RowsOf (items : Items) (w : ℕ → ℕ → ℕ) (rows : List ℕ) : Type 0 where
  pub size : length rows ≡ max_counted * max_counted
  pub each : (i k : ℕ) → i < max_counted → k < max_counted → rows_at rows i k ≡ if_item items w i k

-- The places of the first 6 items
abbrev pub FreeOf : Items → List ℕ → Type 0
FreeOf items free = (k : ℕ) → k < max_counted → get_or free k 0 ≡ places_in items k
