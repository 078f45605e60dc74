-- What is said of items, said of their places: a new bidder's row, and a list of items.
use Rattle.std.specs.Prelude.{List, [], ◌++◌, ◌∷◌, ℕ, zero, suc, ◌+◌, ◌-◌, ◌<◌, get_or, replicate}
use Rattle.board.specs.Limits.{max_items}
use Rattle.board.specs.Ranges.{Within}
use Rattle.board.specs.Lent.{written}
use Rattle.supply.specs.declared.record.Items.{Items}
use Rattle.supply.specs.Board.{places_in, all_places, start_in, item_at}

-- "a batch compares places": each place has the weight of its item
unfoldable pub spread_row : Items → List ℕ → List ℕ
spread_row items row = written (all_places items) (λ s. get_or row (item_at items s) 0) (replicate max_items 0)

-- n numbers, the first of which is above a by one
unfoldable pub numbers_from : ℕ → ℕ → List ℕ
numbers_from a zero = []
numbers_from a (suc n) = numbers_from a n ++ (suc (a + n) ∷ [])

-- "A withdrawal removes all places": the places of item number k
abbrev pub places_of_item : Items → ℕ → List ℕ
places_of_item items k = numbers_from (start_in items (k - 1)) (places_in items (k - 1))

-- The places of the first n items of a list, whose cells `item` reads
unfoldable pub places_named : Items → (ℕ → ℕ) → ℕ → List ℕ
places_named items item zero = []
places_named items item (suc n) = places_named items item n ++ places_of_item items (item n)

-- A list that can be withdrawn: items of the board, "strictly rising"
pub record Listable (items : Items) (item : ℕ → ℕ) (n : ℕ) : Type 0 where
  pub within : (i : ℕ) → i < n → Within 1 items.count (item i)
  pub rising : (i : ℕ) → suc i < n → item i < item (suc i)
