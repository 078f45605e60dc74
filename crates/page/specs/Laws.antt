-- What the page promises a cook: it is all there, and it reads back.
use Rattle.std.specs.Prelude.{◌≡◌, ◌↔◌, List, ℕ, ◌<◌, ◌≤◌, length, take, Err, Ok}
use Rattle.duality.specs.Sums.{sum_to}
use Rattle.refusals.specs.declared.Refusal.TheVariants.{Short, Spoilt, Line, Long}
use Rattle.supply.specs.declared.record.Board.{Board}
use Rattle.board.specs.Limits.{max_text}
use Rattle.supply.specs.ByItem.{gain_at, matching_of, matching_weight}
use Rattle.board.specs.Lent.{written}
use Rattle.supply.specs.Sound.{Sound}
use Rattle.layout.specs.declared.row.Row.{Row}
use Rattle.layout.specs.Limits.{max_page, page_bytes}
use Rattle.layout.specs.Page.{IsPageOf}
use Rattle.layout.specs.Stored.{RowLists, row_lists, rows_stored}
use Rattle.layout.specs.Statements.{FirstBad}
use Rattle.page.specs.Rows.{weight_held, board_rows, board_page}
use Rattle.page.specs.Writing.{WriteOutcome, wrote, page_over, write_page_of}
use Rattle.page.specs.Reading.{RowsOutcome, Room, read, read_page_of}

-- A sound board's page is the page of its rows, within the limits: "gains at most 2,000,000,000" holds of every sound board
abbrev pub BoardIsPage : Type 0
BoardIsPage = (b : Board) → Sound b → IsPageOf (board_page b) (board_rows b)

-- So many bytes, 3,435 at most: a page of so many cells is never too short
pub record BoardBytes (b : Board) : Type 0 where
  pub bytes : length (board_page b) ≡ page_bytes b.market.arrived
  pub most : length (board_page b) ≤ max_page

abbrev pub BoardsFit : Type 0
BoardsFit = (b : Board) → Sound b → BoardBytes b

-- The weights on the page are those of the plan: their sum is its weight
abbrev pub WeightsAdd : Type 0
WeightsAdd = (b : Board) → sum_to b.market.arrived (weight_held b) ≡ matching_weight b

-- ---- What the two calls answer, case by case, apart from any order of tests

-- "8 if the lent page is too short, after 13. Writing returns the bytes written"
pub data WritesAs (b : Board) (page : List ℕ) : WriteOutcome → Type 0 where
  spoilt : (Sound b → ⊥) → WritesAs b page (wrote (Err Spoilt) page)
  short : Sound b → length page < length (board_page b) → WritesAs b page (wrote (Err Short) page)
  bytes : Sound b → length (board_page b) ≤ length page → WritesAs b page (wrote (Ok (length (board_page b))) (page_over b page))

abbrev pub WritesSaid : Type 0
WritesSaid = (b : Board) (page : List ℕ) (o : WriteOutcome) → (write_page_of b page ≡ o) ↔ WritesAs b page o

-- "a text not of this form is 14 at its first bad line .., after 15, then 8 for lists too short"; a page's rows stand in the lists
pub data ReadsAs (s : List ℕ) (l : RowLists) : RowsOutcome → Type 0 where
  long : max_text < length s → ReadsAs s l (read (Err Long) l)
  line : {j : ℕ} → length s ≤ max_text → FirstBad s j → ReadsAs s l (read (Err (Line j)) l)
  short : {rows : List Row} → IsPageOf s rows → (Room (length rows) l → ⊥) → ReadsAs s l (read (Err Short) l)
  rows : {rows : List Row} → IsPageOf s rows → Room (length rows) l → ReadsAs s l (read (Ok (length rows)) (rows_stored (length rows) rows l))

abbrev pub ReadsSaid : Type 0
ReadsSaid = (s : List ℕ) (l : RowLists) (o : RowsOutcome) → (read_page_of s l ≡ o) ↔ ReadsAs s l o

-- "The page must read back to the same plan, worths and gains": what writing leaves of any board that it serves, read into lists with room
abbrev pub ReadsBack : Type 0
ReadsBack =
    (b : Board) (page after : List ℕ) (n : ℕ) (l : RowLists) →
    write_page_of b page ≡ wrote (Ok n) after → Room b.market.arrived l →
    read_page_of (take n after) l ≡ read (Ok b.market.arrived) (row_lists
    (written b.market.arrived (matching_of b) l.plan)
    (written b.market.arrived (weight_held b) l.weights)
    (written b.market.arrived (gain_at b) l.gains))
