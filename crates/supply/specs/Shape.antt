-- Which place belongs to which item, as lists that code makes once.
use Rattle.std.specs.Prelude.{◌≡◌, List, ℕ, zero, suc, ◌+◌, ◌≤◌, ◌<◌, length, get_or, set}
use Rattle.board.specs.Limits.{max_items}
use Rattle.supply.specs.declared.record.Items.{Items}
use Rattle.supply.specs.Board.{all_places, start_in, item_at}

-- The first place of each item
abbrev pub Starts : Items → List ℕ → Type 0
Starts items starts = (k : ℕ) → k < items.count → get_or starts k 0 ≡ start_in items k

-- The item of each place
abbrev pub Belongs : Items → List ℕ → Type 0
Belongs items owner = (s : ℕ) → s < all_places items → get_or owner s 0 ≡ item_at items s

-- The first place of each item, which is one of 64
pub record Located (items : Items) (starts : List ℕ) : Type 0 where
  pub count : items.count ≤ max_items
  pub first : Starts items starts
  pub below : (k : ℕ) → k < items.count → start_in items k < max_items

-- Items that lists of this length can hold: 64 at most, and 64 places in all
pub record Fits (items : Items) : Type 0 where
  pub formed : length items.places ≡ max_items
  pub count : items.count ≤ max_items
  pub all : all_places items ≤ max_items

-- A list with v in n cells, from cell a on
unfoldable pub filled : List ℕ → ℕ → ℕ → ℕ → List ℕ
filled l a zero v = l
filled l a (suc n) v = set (filled l a n v) (a + n) v
