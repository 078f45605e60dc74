-- What code reads of a page, a step at a time.
use Rattle.std.specs.Prelude.{◌≡◌, true, List, ℕ, length, take, drop}
use Rattle.layout.specs.Limits.{line_bytes}
use Rattle.layout.specs.declared.row.Row.{Row}
use Rattle.layout.specs.Stored.{rows_got}
use Rattle.layout.specs.Read.{Read, got, bad, row_read, is_row}

-- how many rows a text is the page of, and 0 where it is none
abbrev pub rows_in : Read → ℕ
rows_in r = length (rows_got r)

-- the first bad line, and 0 where there is none
abbrev pub line_in : Read → ℕ
line_in (got rs) = 0
line_in (bad j) = j

-- row n with its line at the front of a text, and the rest
pub record RowFront (s : List ℕ) (n : ℕ) (row : Row) (rest : List ℕ) : Type 0 where
  pub is : is_row n (take line_bytes s) ≡ true
  pub read : row ≡ row_read (take line_bytes s)
  pub after : rest ≡ drop line_bytes s
