-- A row of a page: where a bidder stands, with its weight there and its gain.
use Rattle.std.specs.Prelude.{◌≡◌, ℕ, ◌≤◌, Bool, true, ◌&&◌, ◌||◌, List, [], ◌∷◌, length, leb, eqb}
use Rattle.text.specs.Bytes.{within}
use Rattle.board.specs.Limits.{max_items, max_bidders, max_weight}
use Rattle.layout.specs.declared.row.Row.{Row}
use Rattle.layout.specs.Limits.{max_gain}

-- The item is 0 where the bidder has none
abbrev pub row_is : ℕ → ℕ → ℕ → Row
row_is item weight gain = record { item = item; weight = weight; gain = gain }

abbrev pub unplaced : Row
unplaced = row_is 0 0 0

-- "0 if unplaced", of weight and gain both
abbrev pub is_unplaced : Row → Bool
is_unplaced r = eqb r.item 0 && (eqb r.weight 0 && eqb r.gain 0)

-- "kettles 1 to 64, worths within limits, gains at most 2,000,000,000"
abbrev pub is_placed : Row → Bool
is_placed r = within 1 max_items r.item && (within 1 max_weight r.weight && leb r.gain max_gain)

abbrev pub row_fits : Row → Bool
row_fits r = is_unplaced r || is_placed r

abbrev pub EachFits : List Row → Type 0
EachFits [] = Unit {0}
EachFits (r ∷ rs) = (row_fits r ≡ true) × EachFits rs

-- "batches running from 1 to at most 128 without a gap": rows within the limits. "a page read may name a kettle more than once"
pub record RowsFit (rows : List Row) : Type 0 where
  pub few : length rows ≤ max_bidders
  pub each : EachFits rows
