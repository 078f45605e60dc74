-- A board's live edges, as the solver is lent them.
use Rattle.std.specs.Prelude.{◌≡◌, cond, List, ◌≢◌, ℕ, ◌≤◌, ◌<◌, length}
use Rattle.board.specs.Limits.{max_items, max_bidders}
use Rattle.board.specs.Cells.{flag_at}
use Rattle.hungarian.specs.Weights.{matrix_at}

-- The first n bidders have no edge at an item, and every other edge is as it was
pub record Cleared (item n : ℕ) (before after : List ℕ) : Type 0 where
  pub size : length after ≡ length before
  pub gone : (i : ℕ) → i < n → matrix_at after i item ≡ 0
  pub later : (i : ℕ) → n ≤ i → matrix_at after i item ≡ matrix_at before i item
  pub others : (i k : ℕ) → k < max_items → k ≢ item → matrix_at after i k ≡ matrix_at before i k

-- At the first n items, edges are live: there are none where the item is withdrawn. Every other edge is as it was
pub record LiveTo (n : ℕ) (weights withdrawn after : List ℕ) : Type 0 where
  pub size : length after ≡ length weights
  pub live : (i k : ℕ) → i < max_bidders → k < n → matrix_at after i k ≡ cond (flag_at withdrawn k) 0 (matrix_at weights i k)
  pub later : (i k : ℕ) → n ≤ k → k < max_items → matrix_at after i k ≡ matrix_at weights i k
