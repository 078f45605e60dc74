-- The limits of a text, each said once. Assumes nothing.
use Rattle.std.specs.Prelude.{ℕ, ◌+◌, ◌*◌}

-- "Numbers have 1 to 7 decimal digits"
abbrev pub max_digits : ℕ
max_digits = 7

-- the numbers of a line that are kept: 65 pairs decide every refusal
abbrev pub kept : ℕ
kept = 130

-- the last position at which a line is written
abbrev pub max_at : ℕ
max_at = 1000000

-- the most fields of a line that is written: `P`, `T`
abbrev pub line_fields : ℕ
line_fields = 3

-- "numbers of any length": one of 64 bits has at most 20 digits
abbrev pub wide_digits : ℕ
wide_digits = 20

-- the most bytes of a line that is written: a letter, its fields each after a tab, the byte 10
abbrev pub max_line : ℕ
max_line = 1 + line_fields * (1 + wide_digits) + 1
