-- The bytes of a text's form. Assumes nothing.
use Rattle.std.specs.Prelude.{ℕ, Bool, ◌&&◌, leb}

-- "fields parted by one tab"
abbrev pub tab : ℕ
tab = 9

-- "each line closed by byte 10"
abbrev pub newline : ℕ
newline = 10

-- a byte from low to high
abbrev pub within : ℕ → ℕ → ℕ → Bool
within low high b = leb low b && leb b high

-- a decimal digit
abbrev pub is_digit : ℕ → Bool
is_digit b = within 48 57 b

-- the letter of a record
abbrev pub is_letter : ℕ → Bool
is_letter b = within 65 90 b
