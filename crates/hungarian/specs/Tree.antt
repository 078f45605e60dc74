-- The alternating tree while it is searched: what its numbers stand for.
use Rattle.std.specs.Prelude.{◌≡◌, List, [], ◌∷◌, Bool, true, false, cond, ℕ, zero, suc, ◌+◌, ◌-◌, ◌≤◌, ◌<◌, length}
use Rattle.duality.specs.Lists.{cells}
use Rattle.board.specs.Limits.{max_items}
use Rattle.board.specs.Cells.{flag_at}
use Rattle.hungarian.specs.declared.tree.Front.{Front}
use Rattle.hungarian.specs.declared.tree.Search.{Search}
use Rattle.hungarian.specs.Settled.{Holds}

-- A tree: what it has for each item, in the four lists, and what it has besides
pub record Tree : Type 0 where
  pub root : ℕ
  pub holder : List ℕ
  pub visited : List ℕ
  pub excess : List ℕ
  pub parent : List ℕ
  pub low : ℕ
  pub lowest : ℕ
  pub fall : ℕ
  pub next : ℕ
  pub mover : ℕ

-- The same of the lists as they are lent
abbrev pub tree_of : List ℕ → List ℕ → List ℕ → List ℕ → Front → Tree
tree_of holder visited excess parent f =
    record {
      root = f.root;
      holder = holder;
      visited = visited;
      excess = excess;
      parent = parent;
      low = f.low;
      lowest = f.lowest;
      fall = f.fall;
      next = f.next;
      mover = f.mover;
    }

-- The same of a search
abbrev pub tree_in : Search → Tree
tree_in s = tree_of s.holders s.visited s.edges.excess s.edges.parents s.front

-- Another bidder at which the path starts, as far as it is known
abbrev pub moved_to : Front → ℕ → Front
moved_to f i = record { root = f.root; low = f.low; lowest = f.lowest; fall = f.fall; next = f.next; cell = f.cell; mover = i }

-- Each list has a cell for each item, as every array of that type has
pub record Sized (t : Tree) : Type 0 where
  pub holder : length t.holder ≡ max_items
  pub visited : length t.visited ≡ max_items
  pub excess : length t.excess ≡ max_items
  pub parent : length t.parent ≡ max_items

-- Whether item k + 1 is visited
abbrev pub visited_at : Tree → ℕ → Bool
visited_at t k = flag_at t.visited k

abbrev pub Visited : Tree → ℕ → Type 0
Visited t k = visited_at t k ≡ true

abbrev pub Unvisited : Tree → ℕ → Type 0
Unvisited t k = visited_at t k ≡ false

-- "the number of unvisited kettles falls": how many items are unvisited
unfoldable pub unvisited : List ℕ → ℕ
unvisited [] = 0
unvisited (zero ∷ marks) = suc (unvisited marks)
unvisited (suc n ∷ marks) = unvisited marks

-- The unvisited items, each once, are the first `count` cells of a list
pub record Remaining (visited left : List ℕ) (count : ℕ) : Type 0 where
  pub few : count ≤ max_items
  pub long : length left ≡ max_items
  pub within : (j : ℕ) → j < count → (cells left j < max_items) × (flag_at visited (cells left j) ≡ false)
  pub all : (k : ℕ) → k < max_items → flag_at visited k ≡ false → (j : ℕ) × (j < count) × (cells left j ≡ k)
  pub once : (i j : ℕ) → i < count → j < count → cells left i ≡ cells left j → i ≡ j

-- The items that a search has left are the unvisited ones
abbrev pub Remains : Search → Type 0
Remains s = Remaining s.visited s.left.items s.left.count

-- Item k + 1's excess and parent, as the tree has them
abbrev pub excess_at : Tree → ℕ → ℕ
excess_at t k = cells t.excess k

abbrev pub parent_at : Tree → ℕ → ℕ
parent_at t k = cells t.parent k

-- Bidder i + 1 is in the tree, as its root or as who holds a visited item. Its level is its gain by now and the fall so far: as the one falls the
-- other grows, so the level stays what it was when the bidder was reached
pub data InTree (gain holder : ℕ → ℕ) (t : Tree) (i level : ℕ) : Type 0 where
  as-root : i ≡ t.root → level ≡ gain i → InTree gain holder t i level
  as-holder : (k : ℕ) → Visited t k → Holds holder k i → level ≡ gain i + excess_at t k → InTree gain holder t i level

-- An item's price by now: since its visit it has risen by as much as the fall has grown
abbrev pub risen : (ℕ → ℕ) → (ℕ → Bool) → (ℕ → ℕ) → ℕ → ℕ → ℕ
risen price visited excess fall k = cond (visited k) (price k + (fall - excess k)) (price k)

abbrev pub price_now : (ℕ → ℕ) → Tree → ℕ → ℕ
price_now price t k = risen price (visited_at t) (excess_at t) t.fall k

-- The edge from a reached bidder is tight by now: gain plus price equals weight
pub record TightNow (w : ℕ → ℕ → ℕ) (price gain holder : ℕ → ℕ) (t : Tree) (i k : ℕ) : Type 0 where
  pub level : ℕ
  pub reached : InTree gain holder t i level
  pub edge : 0 < w i k
  pub even : level - t.fall + price_now price t k ≡ w i k

-- A reached bidder has gain 0 by now
abbrev pub IdleNow : (ℕ → ℕ) → (ℕ → ℕ) → Tree → ℕ → Type 0
IdleNow gain holder t i = InTree gain holder t i t.fall
