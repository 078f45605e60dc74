-- Laws of columns: what is printed in one has its width, no byte 10, and its value.
use mathlib.Core.Path.{◌≡◌, refl, sym, ◌∙◌, ap}
use Prim.Native.Nat.{ℕ, zero, suc, ◌+◌, ◌-◌, ◌/◌, ◌%◌, ◌^◌, ◌<◌, ◌≤◌}
use native.Mathlib.Omega.{arith}
use mathlib.Core.List.{List, [], ◌∷◌, ◌++◌, append_assoc}
use lib.ListN.{length, drop, replicate, length-append, length-replicate}
use lib.Seq.{take_at, drop-append-add}
use borrow.Author.Tests.{ne_eqb}
use Rattle.text.specs.Bytes.{newline}
use Rattle.text.specs.Number.{value_of}
use Rattle.text.specs.Print.{decimal}
use Rattle.text.proofs.Decimals.{small, large, short, by-tenths, value-decimal}
use Rattle.layout.specs.Limits.{item_columns, blank, dash}
use Rattle.layout.specs.Page.{padded, item_text}
use Rattle.layout.specs.Lines.{line_count}
use Rattle.layout.specs.Read.{column_value, past}
use Rattle.layout.proofs.Lines.{count-append}

-- ---- no byte 10
count-blanks : (n : ℕ) → line_count (replicate n blank) ≡ 0
count-blanks zero = refl
count-blanks (suc n) = count-blanks n

pub count-padded : (width : ℕ) (text : List ℕ) → line_count text ≡ 0 → line_count (padded width text) ≡ 0
unfolding padded
count-padded width text e = count-append (replicate (width - length text) blank) text ∙ rw (count-blanks (width - length text), e)

count-digit : (d : ℕ) → line_count ((48 + d) ∷ []) ≡ 0
count-digit d = rw (line_count, ne_eqb (48 + d) newline (λ e. omega arith))

pub count-decimal : (n : ℕ) → line_count (decimal n) ≡ 0
count-decimal = by-tenths (λ n. line_count (decimal n) ≡ 0) (λ n h. rw (small n h) (count-digit n))
    (λ n h rec. rw (large n h, count-append (decimal (n / 10)) ((48 + n % 10) ∷ []), rec, count-digit (n % 10)))

pub count-item : (k : ℕ) → line_count (item_text k) ≡ 0
count-item zero = refl
count-item (suc k) = count-decimal (suc k)

-- ---- widths
pub length-padded : (width : ℕ) (text : List ℕ) → length text ≤ width → length (padded width text) ≡ width
unfolding padded
length-padded width text h = rw (length-append (replicate (width - length text) blank) text, length-replicate (width - length text) blank) (omega arith)

-- ---- values: a blank counts as a leading 0
value-blanks : (n : ℕ) (text : List ℕ) → value_of 0 (replicate n blank ++ text) ≡ value_of 0 text
value-blanks zero text = refl
value-blanks (suc n) text = value-blanks n text

pub value-item : (k : ℕ) → value_of 0 (item_text k) ≡ k
value-item zero = refl
value-item (suc k) = value-decimal (suc k)

-- a column at the front of a line, and what stands after it
pub column-value : (width : ℕ) (text rest : List ℕ) → length text ≤ width → column_value width (padded width text ++ rest) ≡ value_of 0 text
unfolding padded
column-value width text rest h =
    ap (value_of 0) (take_at (padded width text) rest width (length-padded width text h)) ∙ value-blanks (width - length text) text

pub column-past : (width : ℕ) (text : List ℕ) (b : ℕ) (rest : List ℕ) → length text ≤ width → past width (padded width text ++ (b ∷ rest)) ≡ rest
column-past width text b rest h =
    ap (λ (n : ℕ). drop (n + 1) (padded width text ++ (b ∷ rest))) (sym (length-padded width text h))
    ∙ drop-append-add (padded width text) (b ∷ rest) 1

-- ---- a number in its columns, digit by digit
pub padded-one : (width n : ℕ) → n < 10 → replicate (width - 1) blank ++ ((48 + n) ∷ []) ≡ padded width (decimal n)
unfolding padded
padded-one width n h = rw (small n h)

pub padded-more : (width n : ℕ) → 10 ≤ n → padded (width - 1) (decimal (n / 10)) ++ ((48 + n % 10) ∷ []) ≡ padded width (decimal n)
unfolding padded
padded-more width n h =
    let e : width - 1 - length (decimal (n / 10)) ≡ width - (length (decimal (n / 10)) + 1) = omega arith in
    rw (large n h, length-append (decimal (n / 10)) ((48 + n % 10) ∷ []), append_assoc (replicate (width - 1 - length (decimal (n / 10))) blank) (decimal (n / 10)) ((48 + n % 10) ∷ []), e)

pub decimal-width : (width n : ℕ) → 0 < width → n < 10 ^ width → length (decimal n) ≤ width
decimal-width zero n p h = absurd (omega arith)
decimal-width (suc k) n p h = short k n h

-- ---- an item in its columns
pub dashes : (k : ℕ) → k ≡ 0 → dash ∷ dash ∷ blank ∷ [] ≡ padded item_columns (item_text k) ++ (blank ∷ [])
unfolding padded
dashes k e = rw e

pub item-decimal : (k : ℕ) → (k ≡ 0 → ⊥) → decimal k ≡ item_text k
item-decimal zero h = absurd (h refl)
item-decimal (suc k) h = refl
