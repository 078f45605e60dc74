-- The line at a position of a text: a letter, and the numbers of its fields. Assumes nothing.
use Rattle.std.specs.Prelude.{ℕ, Option, Some, None, zero, suc, ◌+◌, cond, List, [], ◌∷◌, length, get_or, replicate, eqb}
use Rattle.std.proofs.lemmas.List.Edits.{sets}
use Rattle.text.specs.Bytes.{tab, newline, is_letter}
use Rattle.text.specs.Limits.{kept}
use Rattle.text.specs.Number.{field_at}
use Rattle.text.specs.declared.scan.Field.{Field}
use Rattle.text.specs.declared.line.Line.{Line}

-- the fields of a line: all their numbers, with the position of the next line; or not of the form
pub data Fields : Type 0 where
  all : List ℕ → ℕ → Fields
  bad : Fields

-- a number before further fields
abbrev pub prepend : ℕ → Fields → Fields
prepend v (all ns next) = all (v ∷ ns) next
prepend v bad = bad

-- a field and those that follow from the position after it
abbrev pub follow : Option Field → (ℕ → Fields) → Fields
follow (Some f) rest = prepend f.number (rest f.next)
follow None rest = bad

-- "fields parted by one tab, each line closed by byte 10": the fields from a position on, fewer than fuel of them
abbrev pub fields_from : ℕ → List ℕ → ℕ → Fields
fields_from zero s i = bad
fields_from (suc fuel) s i =
    cond (eqb (get_or s i 0) newline) (all [] (i + 1))
    (cond (eqb (get_or s i 0) tab) (follow (field_at s (i + 1)) (λ n. fields_from fuel s n)) bad)

-- the fields from a position on: a text has fewer fields than bytes
unfoldable pub fields_at : List ℕ → ℕ → Fields
fields_at s at = fields_from (length s) s at

-- a line not of the form
abbrev pub bad_line : Line
bad_line = record { letter = 0; next = 0; count = 0; numbers = replicate kept 0 }

-- a letter with its fields: their count, and the first numbers; `sets` past the last cell changes nothing
abbrev pub line_with : ℕ → Fields → Line
line_with c (all ns next) = record { letter = c; next = next; count = length ns; numbers = sets (replicate kept 0) 0 ns }
line_with c bad = bad_line

-- "One record a line": a letter, and its fields
unfoldable pub line_at : List ℕ → ℕ → Line
line_at s at = cond (is_letter (get_or s at 0)) (line_with (get_or s at 0) (fields_at s (at + 1))) bad_line
