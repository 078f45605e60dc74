-- The rows and the page of a board.
use Rattle.std.specs.Prelude.{List, ℕ}
use Rattle.duality.specs.Matching.{at_cell}
use Rattle.supply.specs.declared.record.Board.{Board}
use Rattle.supply.specs.ByItem.{live, gain_at, matching_of}
use Rattle.layout.specs.declared.row.Row.{Row}
use Rattle.layout.specs.Row.{row_is}
use Rattle.layout.specs.Page.{page_of}
use Rattle.layout.specs.Written.{rows_of}

-- "worth (7, 0 if unplaced)": the weight of the live edge at the item that bidder i + 1 has
abbrev pub weight_held : Board → ℕ → ℕ
weight_held b i = at_cell (live b i) (matching_of b i)

-- "batch (3 columns), kettle (2, or `--`), worth (7, 0 if unplaced) and gain (10, 0 if unplaced)": what stands after bidder i + 1's number
abbrev pub board_row : Board → ℕ → Row
board_row b i = row_is (matching_of b i) (weight_held b i) (gain_at b i)

-- "Each line": a row for each bidder that has arrived
abbrev pub board_rows : Board → List Row
board_rows b = rows_of (board_row b) b.market.arrived

unfoldable pub board_page : Board → List ℕ
board_page b = page_of (board_rows b)
