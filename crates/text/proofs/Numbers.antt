-- Laws of digits and numbers. Assumes nothing.
use mathlib.Core.Path.{◌≡◌, refl, sym, ◌∙◌, ap}
use Prim.Native.Nat.{ℕ, suc, ◌+◌, ◌-◌, ◌<◌, ◌≤◌}
use native.Mathlib.Nat.{add-zero}
use native.Mathlib.Omega.{arith}
use mathlib.Core.Bool.{Bool, true, false, ◌&&◌, false≢true, and-false}
use mathlib.Core.List.{List, [], ◌∷◌}
use lib.ListN.{length, get_or, drop, get_or-eq_default, drop_of_length-le, length-drop}
use lib.Seq.{get_or-drop, take_all}
use lib.Dec.{leb, ltb}
use borrow.Author.Tests.{leb-true, ltb-true, ltb-false, lt-leb, le-leb}
use Rattle.text.specs.Limits.{max_digits}
use Rattle.std.proofs.Common.{None}
use Rattle.std.specs.Bool.{then_some}
use Rattle.std.specs.List.{slice_range}
use Rattle.text.specs.declared.scan.Field.{Field}
use Rattle.text.specs.Bytes.{within, is_digit}
use Rattle.text.specs.Number.{digits, digits_at, value_of, is_number, field, number, number_of, field_at}

-- a byte that is not 0 stands in the text
pub inside : (s : List ℕ) (i : ℕ) → 0 < get_or s i 0 → i < length s
inside s i h = go (ltb i (length s)) refl
  where
    go : (t : Bool) → ltb i (length s) ≡ t → i < length s
    go true e = ltb-true i (length s) e
    go false e = absurd (omega (arith, get_or-eq_default s 0 (ltb-false i (length s) e)))

-- both tests of a conjunction
pub both : (a b : Bool) → a && b ≡ true → (a ≡ true) × (b ≡ true)
both true b e = (refl, e)
both false b e = absurd (false≢true e)

-- a byte from low to high
pub in-range : (low high b : ℕ) → within low high b ≡ true → (low ≤ b) × (b ≤ high)
in-range low high b e = let w = both (leb low b) (leb b high) e in (leb-true low b w.0, leb-true b high w.1)

-- the digits of a list, by its first byte
pub none-front : (l : List ℕ) → is_digit (get_or l 0 0) ≡ false → digits l ≡ []
none-front [] e = refl
none-front (b ∷ bs) e = rw (digits, e)

pub some-front : (l : List ℕ) → is_digit (get_or l 0 0) ≡ true → digits l ≡ get_or l 0 0 ∷ digits (drop 1 l)
some-front [] e = absurd (false≢true e)
some-front (b ∷ bs) e = rw (digits, e)

pub byte-front : (s : List ℕ) (i : ℕ) → get_or (drop i s) 0 0 ≡ get_or s i 0
byte-front s i = get_or-drop i s 0 0 ∙ ap (λ (k : ℕ). get_or s k 0) (add-zero i)

-- the digits at a position, by the byte there
pub none : (s : List ℕ) (i : ℕ) → is_digit (get_or s i 0) ≡ false → digits_at s i ≡ []
none s i e = none-front (drop i s) (ap is_digit (byte-front s i) ∙ e)

-- what the first byte says of the digits
pub digits-none : (l : List ℕ) → (48 ≤ get_or l 0 0 → get_or l 0 0 ≤ 57 → ⊥) → digits l ≡ []
digits-none l h = go (is_digit (get_or l 0 0)) refl
  where
    go : (t : Bool) → is_digit (get_or l 0 0) ≡ t → digits l ≡ []
    go true e = let r = in-range 48 57 (get_or l 0 0) e in absurd (h r.0 r.1)
    go false e = none-front l e

pub digits-some : (l : List ℕ) → 48 ≤ get_or l 0 0 → get_or l 0 0 ≤ 57 → 0 < length (digits l)
digits-some l a b = let e : is_digit (get_or l 0 0) ≡ true = rw (le-leb 48 (get_or l 0 0) a, le-leb (get_or l 0 0) 57 b) in rw (some-front l e) (omega arith)

pub digits-short : (l : List ℕ) → length l < 1 → digits l ≡ []
digits-short [] h = refl
digits-short (b ∷ bs) h = absurd (omega arith)

-- the rest of a text from a position on
pub range-drop : (s : List ℕ) (at : ℕ) → slice_range s at (length s) ≡ drop at s
range-drop s at = take_all (length s - at) (drop at s) (omega (arith, length-drop at s))

-- no number where the digits are none, or too many
pub past : (s : List ℕ) (at : ℕ) → length s < at → None ≡ field_at s at
unfolding field_at
past s at h = let l : length s ≤ at = omega arith in ap (number_of at) (ap digits (sym (drop_of_length-le s l)))

pub too_long : (at : ℕ) (ds : List ℕ) → max_digits < length ds → None ≡ number_of at ds
too_long at ds h = rw (lt-leb (length ds) max_digits h) (simp and-false)

-- the first digit is the first byte
pub first_of : (l : List ℕ) → is_number (get_or l 0 0) (length (digits l)) ≡ is_number (get_or (digits l) 0 0) (length (digits l))
first_of l = go (is_digit (get_or l 0 0)) refl
  where
    go : (t : Bool) → is_digit (get_or l 0 0) ≡ t → is_number (get_or l 0 0) (length (digits l)) ≡ is_number (get_or (digits l) 0 0) (length (digits l))
    go true e = rw (some-front l e)
    go false e = rw (none-front l e)

-- the number that was read of all digits
pub all-read : (at : ℕ) (l : List ℕ) (v n : ℕ) → v ≡ value_of 0 (digits l) → n ≡ length (digits l)
    → then_some (is_number (get_or l 0 0) n) (field v (at + n)) ≡ number_of at (digits l)
all-read at l v n ev en =
    rw (ev, en) (ap (λ (t : Bool). then_some t (field (value_of 0 (digits l)) (at + length (digits l)))) (first_of l))

-- a field that is a number
pub picked : (t : Bool) (w m v n : ℕ) → then_some t (field w m) ≡ number v n → (t ≡ true) × (w ≡ v) × (m ≡ n)
picked true w m v n e =
    let f : field w m ≡ field v n = cc in
    (refl, ap (λ (f : Field). f.number) f, ap (λ (f : Field). f.next) f)
picked false w m v n e = absurd cc

number-grows : (at n v : ℕ) (ds : List ℕ) → number_of at ds ≡ number v n → at < n
number-grows at n v [] e = absurd cc
number-grows at n v (d ∷ ds) e = omega (arith, picked (is_number d (suc (length ds))) (value_of 0 (d ∷ ds)) (at + suc (length ds)) v n e)

-- a number ends after it starts
pub grows : (s : List ℕ) (at v n : ℕ) → field_at s at ≡ number v n → at < n
unfolding field_at
grows s at v n e = number-grows at n v (digits_at s at) e
