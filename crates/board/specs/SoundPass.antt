-- How the code reads a board in the test that it is sound. What it makes on the way is said here, in terms of the test's own parts.
use Rattle.std.specs.Prelude.{◌≡◌, Bool, true, false, cond, Option, MatchOption, ◌&&◌, ◌||◌, List, ℕ, suc, ◌+◌, ◌-◌, ◌*◌, ◌≤◌, ◌<◌, min, get_or, eqb, ltb, leb}
use Rattle.duality.specs.Decide.{all_below}
use Rattle.board.specs.declared.record.Auction.{Auction}
use Rattle.board.specs.declared.units.Scaled.{Scaled}
use Rattle.board.specs.Limits.{max_items, max_bidders, max_weight, max_q}
use Rattle.board.specs.Cells.{scaled_at, flag_at}
use Rattle.board.specs.Live.{held_by, matching_of}
use Rattle.board.specs.SoundTest.{holders_test, limit_at, row_test, place_test}

-- Who has which item, found in one pass over the items' cells: each bidder's cell of the matching, where these pass their test
pub record Apart (holder : List ℕ) (items arrived : ℕ) (item : List ℕ) : Type 0 where
  pub apart : holders_test holder items arrived ≡ true
  pub held : (i : ℕ) → i < max_bidders → get_or item (suc i) 0 ≡ held_by holder items i

abbrev pub PlacingOf : List ℕ → ℕ → ℕ → Option (List ℕ) → Type 0
PlacingOf holder items arrived r = MatchOption r (holders_test holder items arrived ≡ false) (Apart holder items arrived)

-- The most that an edge within limits asks of gain and price: q - p times its weight is no more
abbrev pub max_need : ℕ
max_need = max_q * max_weight

-- What a price lacks of that, and nothing where the item is withdrawn
abbrev pub lack_of : ℕ → Bool → ℕ
lack_of price withdrawn = cond withdrawn 0 (max_need - price)

-- An edge is covered where its need and the lack of its item's price add up to no more than this
abbrev pub room_of : ℕ → ℕ
room_of gain = min gain max_need + max_need

-- The limit and the lack of each item, made once for all bidders
abbrev pub LimitsOf : ℕ → List ℕ → Type 0
LimitsOf items limit = (k : ℕ) → k < max_items → get_or limit k 0 ≡ limit_at items k

abbrev pub LacksOf : List Scaled → List ℕ → List ℕ → Type 0
LacksOf price withdrawn lack = (k : ℕ) → k < max_items → get_or lack k 0 ≡ lack_of (scaled_at price k) (flag_at withdrawn k)

-- Both are bounded, so that need and lack can be added
pub record Bounded (limit lack : List ℕ) : Type 0 where
  pub limits : (k : ℕ) → k < max_items → get_or limit k 0 ≤ max_weight
  pub lacks : (k : ℕ) → k < max_items → get_or lack k 0 ≤ max_need

-- An edge within its limit and covered
unfoldable pub need_test : ℕ → ℕ → ℕ → ℕ → ℕ → Bool
need_test c limit lack room w = leb w limit && leb (c * w + lack) room

-- The row that begins at a cell
unfoldable pub needs_test : ℕ → List ℕ → ℕ → List ℕ → List ℕ → ℕ → Bool
needs_test c weights from limit lack room =
    all_below max_items (λ k. need_test c (get_or limit k 0) (get_or lack k 0) room (get_or weights (from + k) 0))

-- No edge from a cell on
unfoldable pub empty_test : List ℕ → ℕ → Bool
empty_test weights from = all_below (max_bidders * max_items) (λ k. ltb k from || eqb (get_or weights k 0) 0)

-- The rows of the bidders that have arrived, and no edge of any other
unfoldable pub rows_test : ℕ → List ℕ → List ℕ → List ℕ → List Scaled → ℕ → Bool
rows_test c weights limit lack gain arrived =
    empty_test weights (arrived * max_items) &&
    all_below arrived (λ i. needs_test c weights (i * max_items) limit lack (room_of (scaled_at gain i)))

-- Every edge is within limits and covered
abbrev pub RowsHold : Auction → Type 0
RowsHold b = (i : ℕ) → i < max_bidders → row_test b i ≡ true

-- Each bidder's cell of the matching, by the bidder's number
abbrev pub Placed : List ℕ → Auction → Type 0
Placed item b = (i : ℕ) → i < max_bidders → get_or item (i + 1) 0 ≡ matching_of b i

-- Every bidder's place holds
abbrev pub PlacesHold : Auction → Type 0
PlacesHold b = (i : ℕ) → i < max_bidders → place_test b i (matching_of b i) ≡ true
