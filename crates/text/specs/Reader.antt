-- What a reader meets: the field at its position, its number, and where it ends. Assumes nothing.
use Rattle.std.specs.Prelude.{ℕ, ◌+◌, Option, Some, None, cond, List, get_or, eqb}
use Rattle.text.specs.Bytes.{tab}
use Rattle.text.specs.Number.{field_at}
use Rattle.text.specs.declared.scan.Field.{Field}

-- "fields parted by one tab": a tab at a position, and the number after it
abbrev pub tabbed_at : List ℕ → ℕ → Option Field
tabbed_at s at = cond (eqb (get_or s at 0) tab) (field_at s (at + 1)) None

-- the number of a field
abbrev pub number_in : Option Field → Option ℕ
number_in (Some f) = Some f.number
number_in None = None

-- "moves forward field by field": the position after a field at a position; where there is none, that position
abbrev pub after_of : Option Field → ℕ → ℕ
after_of (Some f) at = f.next
after_of None at = at
