-- The end of an insertion: prices and gains are changed as the search asks.
use Rattle.std.specs.Prelude.{◌≡◌, Bool, true, List, ℕ, ◌+◌, ◌-◌, ◌≤◌, ◌<◌, ◌^◌, length}
use Rattle.duality.specs.Lists.{cells}
use Rattle.board.specs.Limits.{max_items, max_bidders}
use Rattle.board.specs.Cells.{flag_at}
use Rattle.hungarian.specs.Settled.{Holds, Once}
use Rattle.hungarian.specs.Tree.{risen}

-- There is a holder for each visited item, and room for the change
pub record Adjustable (price gain holder : ℕ → ℕ) (visited : ℕ → Bool) (excess : ℕ → ℕ) (fall : ℕ) : Type 0 where
  pub once : Once holder max_bidders
  pub held : (k : ℕ) → visited k ≡ true → (i : ℕ) × Holds holder k i
  pub early : (k : ℕ) → visited k ≡ true → excess k ≤ fall
  pub small : (k : ℕ) → visited k ≡ true → price k + (fall - excess k) < 2 ^ 32
  pub enough : (k i : ℕ) → visited k ≡ true → Holds holder k i → fall - excess k ≤ gain i

-- Prices as they are by now at the first n items, and the gains of the holders of those that are visited lowered to match
pub record Adjusted (price gain holder : ℕ → ℕ) (visited : ℕ → Bool) (excess : ℕ → ℕ) (fall : ℕ) (price' gain' : ℕ → ℕ) (n : ℕ) : Type 0 where
  pub prices : (k : ℕ) → k < n → price' k ≡ risen price visited excess fall k
  pub further : (k : ℕ) → n ≤ k → price' k ≡ price k
  pub gains : (k i : ℕ) → k < n → visited k ≡ true → Holds holder k i → gain' i ≡ gain i - (fall - excess k)
  pub others : (i : ℕ) → ((k : ℕ) → k < n → visited k ≡ true → Holds holder k i → ⊥) → gain' i ≡ gain i

-- The same of lists, which have a cell for each item and bidder and stay as long as they were; all items are adjusted
pub record AdjustableIn (price gain holder visited excess : List ℕ) (fall : ℕ) : Type 0 where
  pub prices : length price ≡ max_items
  pub gains : length gain ≡ max_bidders
  pub able : Adjustable (cells price) (cells gain) (cells holder) (flag_at visited) (cells excess) fall

pub record AdjustedIn (price gain holder visited excess : List ℕ) (fall : ℕ) (price' gain' : List ℕ) : Type 0 where
  pub prices : length price' ≡ length price
  pub gains : length gain' ≡ length gain
  pub adjusted : Adjusted (cells price) (cells gain) (cells holder) (flag_at visited) (cells excess) fall (cells price') (cells gain') max_items
