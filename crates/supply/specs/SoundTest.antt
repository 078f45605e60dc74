-- The test that a board is sound, computed, and that it decides soundness.
use Rattle.std.specs.Prelude.{Bool, cond, ◌&&◌, ℕ, length, get_or, eqb, ltb}
use Rattle.duality.specs.Decide.{Decides, all_below}
use Rattle.board.specs.Limits.{max_items}
use Rattle.board.specs.Ranges.{within_test}
use Rattle.board.specs.Cells as place
use Rattle.board.specs.SoundTest as placed
use Rattle.supply.specs.declared.record.Board.{Board}
use Rattle.supply.specs.declared.record.Items.{Items}
use Rattle.supply.specs.Board.{max_places, auction_of, places_in, all_places, start_in, item_at}
use Rattle.supply.specs.Sound.{Sound}

-- The places of an item: "1 to 8", and past the count "unused cells are 0"
unfoldable pub count_test : Bool → ℕ → Bool
count_test used n = cond used (within_test max_places n) (eqb n 0)

unfoldable pub counts_test : Items → Bool
counts_test items = all_below max_items (λ k. count_test (ltb k items.count) (places_in items k))

unfoldable pub laid_test : Items → ℕ → Bool
laid_test items places =
    eqb (length items.places) max_items && (within_test max_items items.count && (counts_test items && eqb places (all_places items)))

-- Two cells of each of n rows hold the same weight
unfoldable pub column_test : Board → ℕ → ℕ → Bool
column_test b s t = all_below b.market.arrived (λ i. eqb (place.weight_at (auction_of b) i s) (place.weight_at (auction_of b) i t))

-- A place is as its item's first place
unfoldable pub alike_test : Board → ℕ → Bool
alike_test b s =
    eqb (get_or b.market.withdrawn s 0) (get_or b.market.withdrawn (start_in b.items (item_at b.items s)) 0) &&
    column_test b s (start_in b.items (item_at b.items s))

unfoldable pub sound_test : Board → Bool
sound_test b = laid_test b.items b.market.items && (placed.sound_test (auction_of b) && all_below b.market.items (alike_test b))

abbrev pub SoundTestDecides : Type 0
SoundTestDecides = (b : Board) → Decides (sound_test b) (Sound b)
