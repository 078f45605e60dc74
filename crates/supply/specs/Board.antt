-- The record of a board, and the auction under it. Item k + 1 is cell k, and so are places and bidders.
use Rattle.std.specs.Prelude.{List, ℕ, get_or}
use Rattle.places.specs.Places.{places_to, item_of}
use Rattle.board.specs.declared.record.Auction.{Auction}
use Rattle.board.specs.declared.record.Market.{Market}
use Rattle.board.specs.declared.record.State.{State}
use Rattle.board.specs.Cells.{auction}
use Rattle.supply.specs.declared.record.Board.{Board}
use Rattle.supply.specs.declared.record.Items.{Items}

-- "Some kettles have inserts and cook up to eight batches"
abbrev pub max_places : ℕ
max_places = 8

-- A board of its parts
abbrev pub board : Items → Market → List ℕ → State → Board
board items market weights state = record { items = items; market = market; state = state; weights = weights }

-- "As in source document 001 each place has its own price; a batch compares places": the auction over places, whose items are the places of all items
abbrev pub auction_of : Board → Auction
auction_of b = auction b.market b.weights b.state

-- The board of the same items with another auction
abbrev pub on_items : Items → Auction → Board
on_items items a = board items a.market a.weights a.state

-- How many places item k + 1 has
abbrev pub places_in : Items → ℕ → ℕ
places_in items k = get_or items.places k 0

abbrev pub places_at : Board → ℕ → ℕ
places_at b = places_in b.items

-- How many places there are in all
abbrev pub all_places : Items → ℕ
all_places items = places_to (places_in items) items.count

-- The first place of item k + 1, from 0
abbrev pub start_in : Items → ℕ → ℕ
start_in items k = places_to (places_in items) k

-- The item that place s + 1 belongs to, from 0
abbrev pub item_at : Items → ℕ → ℕ
item_at items s = item_of (places_in items) items.count s
