-- A bidder is reached, and its edges are looked at.
use Rattle.std.specs.Prelude.{◌≡◌, Bool, true, false, List, ◌≢◌, ◌⊎◌, ℕ, ◌+◌, ◌-◌, ◌≤◌, ◌<◌, ◌^◌, length}
use Rattle.duality.specs.Lists.{cells}
use Rattle.board.specs.Limits.{max_items, max_bidders}
use Rattle.board.specs.Cells.{flag_at}
use Rattle.hungarian.specs.declared.tree.Front.{Front}
use Rattle.hungarian.specs.Tree.{Tree, visited_at, excess_at}

-- The bidder's edges are covered, by numbers that the code can add, and the lists have a cell for each item
pub record Fits (w : ℕ → ℕ → ℕ) (price : ℕ → ℕ) (bidder level : ℕ) (excess parent : List ℕ) : Type 0 where
  pub long : length excess ≡ max_items
  pub long₂ : length parent ≡ max_items
  pub near : bidder < max_bidders
  pub covered : (k : ℕ) → k < max_items → w bidder k ≤ level + price k
  pub small : (k : ℕ) → k < max_items → level + price k < 2 ^ 32

-- r is x or y, as a or b is less, and y where they are equal
abbrev pub Picks : ℕ → ℕ → ℕ → ℕ → ℕ → Type 0
Picks a b x y r = (a < b → r ≡ x) × (b ≤ a → r ≡ y)

-- The excess of an item is the lesser of what it was and of the bidder's own edge, and the parent goes with it
abbrev pub Lesser : ℕ → ℕ → ℕ → ℕ → ℕ → ℕ → Type 0
Lesser own bidder excess parent excess' parent' = Picks own excess own excess excess' × Picks own excess bidder parent parent'

-- So it is of item k + 1, whose own edge's excess is `own`; nothing else is another
pub record RelaxedAt (k own bidder : ℕ) (excess parent excess' parent' : List ℕ) : Type 0 where
  pub long : length excess' ≡ length excess
  pub long₂ : length parent' ≡ length parent
  pub here : Lesser own bidder (cells excess k) (cells parent k) (cells excess' k) (cells parent' k)
  pub others : (j : ℕ) → j ≢ k → (cells excess' j ≡ cells excess j) × (cells parent' j ≡ cells parent j)

-- So it is for each item, visited or not, of lists that stay as long as they were
pub record Relaxed (w : ℕ → ℕ → ℕ) (price : ℕ → ℕ) (bidder level : ℕ) (excess parent excess' parent' : List ℕ) : Type 0 where
  pub long : length excess' ≡ length excess
  pub long₂ : length parent' ≡ length parent
  pub lesser : (k : ℕ) → k < max_items → Lesser (level + price k - w bidder k) bidder (cells excess k) (cells parent k) (cells excess' k) (cells parent' k)

-- The fall is the least excess of an unvisited item among the first n, met at the item next; or it is low, if that is no more, and next is no item
pub record Least (visited : ℕ → Bool) (excess : ℕ → ℕ) (low next fall n : ℕ) : Type 0 where
  pub least : (k : ℕ) → k < n → visited k ≡ false → fall ≤ excess k
  pub below : fall ≤ low
  pub found : ((next ≡ max_items) × (fall ≡ low)) ⊎ ((next < n) × (visited next ≡ false) × (excess next ≡ fall) × (fall < low))

-- A list of items, each once, in the first `count` cells
pub record ItemList (left : List ℕ) (count : ℕ) : Type 0 where
  pub few : count ≤ max_items
  pub within : (j : ℕ) → j < count → cells left j < max_items
  pub once : (i j : ℕ) → i < count → j < count → cells left i ≡ cells left j → i ≡ j

-- The first n of them are relaxed, and nothing else. The fall is the least of their excesses, met at cell `at`; or it is low, if that is no more, and the cell is
-- none
pub record Swept (w : ℕ → ℕ → ℕ) (price : ℕ → ℕ) (bidder level : ℕ) (left excess parent excess' parent' : List ℕ) (low cell fall n : ℕ) : Type 0 where
  pub long : length excess' ≡ length excess
  pub long₂ : length parent' ≡ length parent
  pub lesser : (j : ℕ) → j < n → let k = cells left j in
      Lesser (level + price k - w bidder k) bidder (cells excess k) (cells parent k) (cells excess' k) (cells parent' k)
  pub further : (k : ℕ) → ((j : ℕ) → j < n → cells left j ≢ k) → (cells excess' k ≡ cells excess k) × (cells parent' k ≡ cells parent k)
  pub least : (j : ℕ) → j < n → fall ≤ cells excess' (cells left j)
  pub below : fall ≤ low
  pub found : ((cell ≡ max_items) × (fall ≡ low)) ⊎ ((cell < n) × (cells excess' (cells left cell) ≡ fall) × (fall < low))

-- The item in a cell, or none
abbrev pub ItemAt : List ℕ → ℕ → ℕ → Type 0
ItemAt left cell item = (cell ≡ max_items → item ≡ max_items) × (cell < max_items → item ≡ cells left cell)

-- All items of a tree are relaxed; the fall is the least excess of the unvisited ones; and the low level too is the lesser of what it was and of the bidder's own
pub record Looked (w : ℕ → ℕ → ℕ) (price : ℕ → ℕ) (bidder level : ℕ) (t r : Tree) : Type 0 where
  pub root : r.root ≡ t.root
  pub holder : r.holder ≡ t.holder
  pub visited : r.visited ≡ t.visited
  pub lowest : Lesser level bidder t.low t.lowest r.low r.lowest
  pub mover : r.mover ≡ r.lowest
  pub relaxed : Relaxed w price bidder level t.excess t.parent r.excess r.parent
  pub least : Least (visited_at t) (excess_at r) r.low r.next r.fall max_items

-- No edge of the bidder to a visited item has less than the item's excess
abbrev pub Dear : (ℕ → ℕ → ℕ) → (ℕ → ℕ) → ℕ → ℕ → List ℕ → List ℕ → Type 0
Dear w price bidder level visited excess = (k : ℕ) → k < max_items → flag_at visited k ≡ true → cells excess k ≤ level + price k - w bidder k

-- The item that is next stands in its cell among those left
abbrev pub NextAt : List ℕ → ℕ → Front → Type 0
NextAt left count f = f.next ≢ max_items → (f.cell < count) × (cells left f.cell ≡ f.next)
