-- What a number and a line are, apart from how they are read. Assumes nothing.
use Rattle.std.specs.Prelude.{◌≡◌, ◌⊎◌, ℕ, ◌+◌, ◌<◌, ◌≤◌, true, false, List, [], ◌∷◌, ◌++◌, length, get_or, drop}
use Rattle.text.specs.Bytes.{tab, newline, is_digit, is_letter}
use Rattle.text.specs.Limits.{max_digits}
use Rattle.text.specs.Number.{value_of, number, field_at}
use Rattle.text.specs.Line.{all, line_with, bad_line, line_at}
use Rattle.text.specs.Print.{decimal}

-- the digits of a number have its value, and only 0 starts with the digit 0
abbrev pub DecimalValue : Type 0
DecimalValue = (n : ℕ) → value_of 0 (decimal n) ≡ n

abbrev pub DecimalFirst : Type 0
DecimalFirst = (n : ℕ) → 0 < n → 48 < get_or (decimal n) 0 0

-- every byte of a list is a digit
abbrev pub AllDigits : List ℕ → Type 0
AllDigits ds = (i : ℕ) → i < length ds → is_digit (get_or ds i 0) ≡ true

-- each byte of a printed number is a digit
abbrev pub DecimalDigits : Type 0
DecimalDigits = (n : ℕ) → AllDigits (decimal n)

-- n in "decimal digits, no leading zero but in 0 itself", told by what the digits are and not by how they are made
pub record Printed (n : ℕ) (ds : List ℕ) : Type 0 where
  pub digit : AllDigits ds
  pub some : 0 < length ds
  pub value : value_of 0 ds ≡ n
  pub first : get_or ds 0 0 ≡ 48 → length ds ≡ 1

-- no other digits than those that are printed do
abbrev pub DecimalOnly : Type 0
DecimalOnly = (n : ℕ) (ds : List ℕ) → Printed n ds → ds ≡ decimal n

-- and those do
abbrev pub DecimalPrinted : Type 0
DecimalPrinted = (n : ℕ) → Printed n (decimal n)

-- "Numbers have 1 to 7 decimal digits, no leading zero but in 0 itself": v as it is printed, and no digit after it
pub record NumberAt (s : List ℕ) (at : ℕ) (v : ℕ) (next : ℕ) : Type 0 where
  pub printed : drop at s ≡ decimal v ++ drop next s
  pub few : length (decimal v) ≤ max_digits
  pub after : next ≡ at + length (decimal v)
  pub ends : is_digit (get_or s next 0) ≡ false

-- "fields parted by one tab, each line closed by byte 10": the numbers ns from a position on, and the next line
pub data FieldsAt (s : List ℕ) : ℕ → List ℕ → ℕ → Type 0 where
  closed : {i : ℕ} → get_or s i 0 ≡ newline → FieldsAt s i [] (i + 1)
  field : {i v n next : ℕ} {ns : List ℕ} → get_or s i 0 ≡ tab → NumberAt s (i + 1) v n → FieldsAt s n ns next → FieldsAt s i (v ∷ ns) next

-- "One record a line": a letter, and its fields
pub record LineForm (s : List ℕ) (at : ℕ) (ns : List ℕ) (next : ℕ) : Type 0 where
  pub letter : is_letter (get_or s at 0) ≡ true
  pub fields : FieldsAt s (at + 1) ns next

-- what `field_at` reads is a number, and every number is read
abbrev pub NumberSound : Type 0
NumberSound = (s : List ℕ) (at v n : ℕ) → field_at s at ≡ number v n → NumberAt s at v n

abbrev pub NumberComplete : Type 0
NumberComplete = (s : List ℕ) (at v n : ℕ) → NumberAt s at v n → field_at s at ≡ number v n

-- what `line_at` reads is a line or is bad as a whole, and every line is read
abbrev pub LineOrBad : List ℕ → ℕ → Type 0
LineOrBad s at = (line_at s at ≡ bad_line) ⊎ ((ns : List ℕ) × (next : ℕ) × LineForm s at ns next)

abbrev pub LineSound : Type 0
LineSound = (s : List ℕ) (at : ℕ) → LineOrBad s at

abbrev pub LineComplete : Type 0
LineComplete = (s : List ℕ) (at : ℕ) (ns : List ℕ) (next : ℕ) → LineForm s at ns next → line_at s at ≡ line_with (get_or s at 0) (all ns next)

-- a line has one list of numbers and one end
abbrev pub LineOnce : Type 0
LineOnce = (s : List ℕ) (at : ℕ) (ns ms : List ℕ) (next end : ℕ) → LineForm s at ns next → LineForm s at ms end → (ns ≡ ms) × (next ≡ end)

-- a line ends after it starts, in the text
abbrev pub LineAhead : Type 0
LineAhead = (s : List ℕ) (at : ℕ) (ns : List ℕ) (next : ℕ) → LineForm s at ns next → (at < next) × (next ≤ length s)
