-- The number that starts at a position of a text. Assumes nothing.
use Rattle.std.specs.Prelude.{ℕ, Option, Some, ◌+◌, ◌*◌, ◌-◌, Bool, true, false, ◌&&◌, ◌||◌, not, List, [], ◌∷◌, length, get_or, drop, leb, eqb}
use Rattle.std.specs.Bool.{then_some}
use Rattle.text.specs.Bytes.{is_digit}
use Rattle.text.specs.Limits.{max_digits}
use Rattle.text.specs.declared.scan.Field.{Field}

-- the digits that stand together at the front of a list
abbrev pub digits : List ℕ → List ℕ
digits [] = []
digits (b ∷ bs) = elim (is_digit b) [ true ↦ b ∷ digits bs | false ↦ [] ]

-- the value of digits, after digits of the value v
abbrev pub value_of : ℕ → List ℕ → ℕ
value_of v [] = v
value_of v (b ∷ bs) = value_of (v * 10 + (b - 48)) bs

-- "Numbers have 1 to 7 decimal digits, no leading zero but in 0 itself": n digits, the first of which is b
abbrev pub is_number : ℕ → ℕ → Bool
is_number b n = (leb 1 n && leb n max_digits) && (eqb n 1 || not (eqb b 48))

-- the digits at a position
abbrev pub digits_at : List ℕ → ℕ → List ℕ
digits_at s at = digits (drop at s)

-- a number, with the position after it
abbrev pub field : ℕ → ℕ → Field
field v next = record { number = v; next = next }

abbrev pub number : ℕ → ℕ → Option Field
number v next = Some (field v next)

-- the number of the digits ds at a position, with the position after it
abbrev pub number_of : ℕ → List ℕ → Option Field
number_of at ds = then_some (is_number (get_or ds 0 0) (length ds)) (field (value_of 0 ds) (at + length ds))

-- "The reader .. moves forward field by field": the number that starts at a position
unfoldable pub field_at : List ℕ → ℕ → Option Field
field_at s at = number_of at (digits_at s at)
