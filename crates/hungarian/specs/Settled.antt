-- Bidders that are settled.
--
-- Holders are read item by item: the cell of item k + 1 is 0 where nobody holds it, and i + 1 where bidder i + 1 does.
use Rattle.std.specs.Prelude.{◌≡◌, List, ℕ, suc, ◌+◌, ◌≤◌, ◌<◌, length}
use Rattle.duality.specs.Lists.{cells}
use Rattle.hungarian.specs.declared.solver.Assignment.{Assignment}
use Rattle.board.specs.Limits.{max_items, max_bidders, max_weight}
use Rattle.hungarian.specs.Weights.{matrix_at}

-- Bidder i + 1 holds item k + 1
abbrev pub Holds : (ℕ → ℕ) → ℕ → ℕ → Type 0
Holds holder k i = holder k ≡ suc i

-- No bidder holds two items, and each is one of so many
pub record Once (holder : ℕ → ℕ) (n : ℕ) : Type 0 where
  pub known : (k i : ℕ) → Holds holder k i → (k < max_items) × (i < n)
  pub once : (j k i : ℕ) → Holds holder j i → Holds holder k i → j ≡ k

-- "an entry is tight where gain plus price equals worth"
pub record TightEdge (w : ℕ → ℕ → ℕ) (price gain : ℕ → ℕ) (i k : ℕ) : Type 0 where
  pub edge : 0 < w i k
  pub even : gain i + price k ≡ w i k

-- Each of the first n bidders holds an item over a tight edge, or has gain 0 and may be left out; every edge of theirs is covered, and what nobody
-- holds has price 0
pub record Settled (w : ℕ → ℕ → ℕ) (price gain holder : ℕ → ℕ) (n : ℕ) : Type 0 where
  pub held : Once holder n
  pub tight : (k i : ℕ) → Holds holder k i → TightEdge w price gain i k
  pub placed : (i : ℕ) → i < n → 0 < gain i → (k : ℕ) × Holds holder k i
  pub unheld : (k : ℕ) → k < max_items → holder k ≡ 0 → price k ≡ 0
  pub covers : (i k : ℕ) → i < n → k < max_items → w i k ≤ gain i + price k
  pub low : (i : ℕ) → i < n → gain i ≤ max_weight

-- The same of lent lists, which have a cell for each item, bidder and item, over a matrix of weights
pub record SettledIn (weights price gain holder : List ℕ) (n : ℕ) : Type 0 where
  pub prices : length price ≡ max_items
  pub gains : length gain ≡ max_bidders
  pub holders : length holder ≡ max_items
  pub settled : Settled (matrix_at weights) (cells price) (cells gain) (cells holder) n

-- The same of an assignment, over a matrix of weights
abbrev pub SettledBy : List ℕ → Assignment → ℕ → Type 0
SettledBy weights a n = Settled (matrix_at weights) (cells a.price) (cells a.gain) (cells a.holder) n
