-- What reading a page answers, line by line and column by column.
use Rattle.std.specs.Prelude.{ℕ, zero, suc, ◌+◌, Bool, true, false, ◌&&◌, List, [], ◌∷◌, length, take, drop}
use Rattle.std.specs.Str.{bytes_eq}
use Rattle.text.specs.Number.{value_of}
use Rattle.board.specs.Limits.{max_bidders}
use Rattle.layout.specs.Limits.{number_columns, item_columns, weight_columns, gain_columns, line_bytes}
use Rattle.layout.specs.declared.row.Row.{Row}
use Rattle.layout.specs.Row.{row_fits}
use Rattle.layout.specs.Page.{heading, next_heading, row_line, breaks}

-- the rows, or the first bad line
pub data Read : Type 0 where
  got : List Row → Read
  bad : ℕ → Read

abbrev pub equal : List ℕ → List ℕ → Bool
equal = bytes_eq

-- the number in a column at the front: blanks and dashes count as 0, being below the digits
abbrev pub column_value : ℕ → List ℕ → ℕ
column_value width s = value_of 0 (take width s)

-- past a column and the byte that closes it
abbrev pub past : ℕ → List ℕ → List ℕ
past width s = drop (width + 1) s

-- the row that a line can only be the line of: what it reads is printed again and compared
unfoldable pub row_read : List ℕ → Row
row_read s = record {
  item = column_value item_columns (past number_columns s);
  weight = column_value weight_columns (past item_columns (past number_columns s));
  gain = column_value gain_columns (past weight_columns (past item_columns (past number_columns s)));
}

-- a good line before what is read after it
abbrev pub lined : (List Row → List Row) → Read → Read
lined f (got rs) = got (f rs)
lined f (bad j) = bad (suc j)

-- what is read after a line that passes; line 1 is bad where it fails
abbrev pub checked : Bool → (List Row → List Row) → (List ℕ → Read) → List ℕ → Read
checked true f next rest = lined f (next rest)
checked false f next rest = bad 1

-- a line that must be this one
unfoldable pub read_fixed : List ℕ → (List ℕ → Read) → List ℕ → Read
read_fixed line next s = checked (equal (take (length line) s) line) (λ rs. rs) next (drop (length line) s)

-- the line of row n
abbrev pub is_row : ℕ → List ℕ → Bool
is_row n line = row_fits (row_read line) && equal line (row_line n (row_read line))

unfoldable pub read_row : ℕ → (List ℕ → Read) → List ℕ → Read
read_row n next s = checked (is_row n (take line_bytes s)) (λ rs. row_read (take line_bytes s) ∷ rs) next (drop line_bytes s)

-- row n, with the heading before it where one is due
abbrev pub read_entry : Bool → ℕ → (List ℕ → Read) → List ℕ → Read
read_entry true n next s = read_fixed next_heading (λ t. read_row n next t) s
read_entry false n next s = read_row n next s

-- a text may end here
abbrev pub unless_ended : List ℕ → Read → Read
unless_ended [] r = got []
unless_ended (b ∷ bs) r = r

-- at most so many rows, after the first i
abbrev pub read_rows : ℕ → ℕ → List ℕ → Read
read_rows zero i s = unless_ended s (bad 1)
read_rows (suc left) i s = unless_ended s (read_entry (breaks i) (suc i) (λ t. read_rows left (suc i) t) s)

unfoldable pub read_of : List ℕ → Read
read_of s = read_fixed heading (λ t. read_rows max_bidders 0 t) s
