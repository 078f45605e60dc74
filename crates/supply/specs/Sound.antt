-- When a board is sound (document 02, R-6): "Soundness is read place by place."
use Rattle.std.specs.Prelude.{◌≡◌, ℕ, ◌≤◌, ◌<◌, length, get_or}
use Rattle.board.specs.Limits.{max_items}
use Rattle.board.specs.Ranges.{Within}
use Rattle.board.specs.Cells as place
use Rattle.board.specs.Sound as placed
use Rattle.supply.specs.declared.record.Board.{Board}
use Rattle.supply.specs.declared.record.Items.{Items}
use Rattle.supply.specs.Board.{max_places, auction_of, places_in, all_places, start_in, item_at}
use Rattle.supply.specs.ByItem.{weight_at}

-- The items and their places, of so many places in all
pub record Laid (items : Items) (places : ℕ) : Type 0 where
  -- The list has the length of the record's array, as every board has that code can make
  pub formed : length items.places ≡ max_items
  -- "counts .. are within limits": the items, and the places of each
  pub count : Within 1 max_items items.count
  pub each : (k : ℕ) → k < items.count → Within 1 max_places (places_in items k)
  -- "unused cells are 0"
  pub unused : (k : ℕ) → items.count ≤ k → k < max_items → places_in items k ≡ 0
  pub all : places ≡ all_places items

-- A place has the edges of its item's first place, and is withdrawn where that is
pub record Alike (b : Board) (s : ℕ) : Type 0 where
  pub flag : get_or b.market.withdrawn s 0 ≡ get_or b.market.withdrawn (start_in b.items (item_at b.items s)) 0
  pub edges : (i : ℕ) → i < b.market.arrived → place.weight_at (auction_of b) i s ≡ weight_at b i (item_at b.items s)

pub record Sound (b : Board) : Type 0 where
  pub laid : Laid b.items b.market.items
  -- Document 01's sentence, of the auction over places: at most 64 in all
  pub auction : placed.Sound (auction_of b)
  -- Edges and withdrawals are of all places of an item
  pub alike : (s : ℕ) → s < b.market.items → Alike b s
