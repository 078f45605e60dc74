-- The rows that a page is written of, one after the other.
use Rattle.std.specs.Prelude.{◌≡◌, true, List, [], ◌∷◌, ◌++◌, ℕ, zero, suc, ◌<◌, ◌≤◌, length, get_or}
use Rattle.board.specs.Limits.{max_bidders}
use Rattle.layout.specs.declared.row.Row.{Row}
use Rattle.layout.specs.Limits.{page_bytes}
use Rattle.layout.specs.Row.{row_is, row_fits, RowsFit}
use Rattle.layout.specs.Page.{page_of}
use Rattle.layout.specs.Read.{got, read_of}

-- The first n rows, counted from 0
abbrev pub rows_of : (ℕ → Row) → ℕ → List Row
rows_of row zero = []
rows_of row (suc n) = rows_of row n ++ (row n ∷ [])

-- Row k of a list for each column
abbrev pub row_among : List ℕ → List ℕ → List ℕ → ℕ → Row
row_among items weights gains k = row_is (get_or items k 0) (get_or weights k 0) (get_or gains k 0)

-- So many rows are within the limits
pub record Writable (row : ℕ → Row) (n : ℕ) : Type 0 where
  pub few : n ≤ max_bidders
  pub each : (k : ℕ) → k < n → row_fits (row k) ≡ true

-- "The page must read back to the same plan, worths and gains": what is written of rows
abbrev pub WrittenReads : Type 0
WrittenReads = (row : ℕ → Row) (n : ℕ) → Writable row n → read_of (page_of (rows_of row n)) ≡ got (rows_of row n)

-- The length of a page is that of the number of its rows
abbrev pub PageBytes : Type 0
PageBytes = (rows : List Row) → RowsFit rows → length (page_of rows) ≡ page_bytes (length rows)
