-- What is read is of the form, and what is of the form is read. Assumes nothing.
use mathlib.Core.Path.{◌≡◌, refl, sym, ◌∙◌, ap}
use mathlib.Core.Logic.{inl, inr}
use Prim.Native.Nat.{ℕ, zero, suc, ◌+◌, ◌<◌, ◌≤◌}
use native.Mathlib.Nat.{not-suc-le-zero}
use native.Mathlib.Omega.{arith}
use mathlib.Core.Bool.{Bool, true, false, ◌&&◌, ◌||◌, not, false≢true, or-false, or-true}
use mathlib.Core.List.{List, [], ◌∷◌, ◌++◌, append-nil}
use lib.ListN.{length, get_or, drop}
use lib.Seq.{drop-drop}
use lib.Dec.{leb, eqb}
use borrow.Author.Tests.{leb-true, le-leb, eq-eqb, ne_eqb, eqb-true, eqb-false}
use Rattle.text.specs.Bytes.{tab, newline, is_digit, is_letter}
use Rattle.text.specs.Limits.{max_digits}
use Rattle.text.specs.Number.{digits, digits_at, value_of, is_number, number_of, field_at}
use Rattle.text.specs.Line.{Fields, all, bad, prepend, follow, fields_from, fields_at, line_with, line_at}
use Rattle.text.specs.Print.{decimal}
use Rattle.text.specs.Form.{FieldsAt, closed, field, NumberSound, NumberComplete, LineOrBad, LineSound, LineComplete, LineOnce, LineAhead}
use Rattle.std.proofs.Common.{Option, Some, None}
use Rattle.text.specs.declared.scan.Field.{Field}
use Rattle.text.proofs.Decimals.{small, some-digit, first-digit, digits_decimal, value-decimal, printed-first, empty}
use Rattle.text.proofs.Lines.{at-newline, at-tab, at_other}
use Rattle.text.proofs.Numbers.{inside, both, picked, none-front, some-front, byte-front, none}

-- ---- numbers
-- a first digit 0 stands alone
alone : (b n : ℕ) → is_number b n ≡ true → b ≡ 48 → n ≡ 1
alone b n e z =
    let w : eqb n 1 || not (eqb b 48) ≡ true = (both (leb 1 n && leb n max_digits) (eqb n 1 || not (eqb b 48)) e).1 in
    eqb-true n 1 (sym (or-false (eqb n 1)) ∙ (rw (eq-eqb b 48 z) at w))

printed-all : (l : List ℕ) → is_number (get_or (digits l) 0 0) (length (digits l)) ≡ true → decimal (value_of 0 (digits l)) ≡ digits l
printed-all l e = go (is_digit (get_or l 0 0)) refl
  where
    go : (t : Bool) → is_digit (get_or l 0 0) ≡ t → decimal (value_of 0 (digits l)) ≡ digits l
    go true d =
        let w = rw (some-front l d) at e in
        let n = suc (length (digits (drop 1 l))) in
        rw (some-front l d) (printed-first (get_or l 0 0) (drop 1 l) d (λ z. empty (digits (drop 1 l)) (omega (arith, alone (get_or l 0 0) n w z))))
    go false d = absurd (false≢true (rw (none-front l d) at e))

-- a list is its digits and the rest, which starts with none
abbrev Split : List ℕ → Type 0
Split l = (l ≡ digits l ++ drop (length (digits l)) l) × (is_digit (get_or (drop (length (digits l)) l) 0 0) ≡ false)

rest_of : (l : List ℕ) → Split l
rest_of [] = (refl, refl)
rest_of (b ∷ bs) = go (is_digit b) refl (rest_of bs)
  where
    go : (t : Bool) → is_digit b ≡ t → Split bs → Split (b ∷ bs)
    go true d rec = rw (some-front (b ∷ bs) d) (ap (λ (l : List ℕ). b ∷ l) rec.0, rec.1)
    go false d rec = rw (none-front (b ∷ bs) d) (refl, d)

pub number-sound : NumberSound
unfolding field_at
number-sound s at v n e =
    let ds = digits_at s at in
    let p = picked (is_number (get_or ds 0 0) (length ds)) (value_of 0 ds) (at + length ds) v n e in
    let d : decimal v ≡ ds = ap decimal (sym p.1) ∙ printed-all (drop at s) p.0 in
    let r = rest_of (drop at s) in
    let j : drop (length ds) (drop at s) ≡ drop n s = drop-drop (length ds) at s ∙ ap (λ (k : ℕ). drop k s) p.2 in
    let q = both (leb 1 (length ds) && leb (length ds) max_digits) (eqb (length ds) 1 || not (eqb (get_or ds 0 0) 48)) p.0 in
    let l = both (leb 1 (length ds)) (leb (length ds) max_digits) q.0 in
    record {
      printed = r.0 ∙ (ap (λ (k : List ℕ). ds ++ k) j ∙ ap (λ (k : List ℕ). k ++ drop n s) (sym d));
      few = rw d (leb-true (length ds) max_digits l.1);
      after = rw d (sym p.2);
      ends = ap is_digit (sym (byte-front s n)) ∙ (ap (λ (k : List ℕ). is_digit (get_or k 0 0)) (sym j) ∙ r.1);
    }

formed : (v : ℕ) → length (decimal v) ≤ max_digits → is_number (get_or (decimal v) 0 0) (length (decimal v)) ≡ true
formed v h = rw (le-leb 1 (length (decimal v)) (some-digit v), le-leb (length (decimal v)) max_digits h) (go v)
  where
    go : (v : ℕ) → eqb (length (decimal v)) 1 || not (eqb (get_or (decimal v) 0 0) 48) ≡ true
    go zero = rw (small 0 (omega arith))
    go (suc v) =
        let f = first-digit (suc v) (omega arith) in
        rw (ne_eqb (get_or (decimal (suc v)) 0 0) 48 (λ z. omega arith)) (or-true (eqb (length (decimal (suc v))) 1))

pub number-complete : NumberComplete
unfolding field_at
number-complete s at v n w =
    let r : decimal v ++ digits_at s n ≡ decimal v = ap (λ (l : List ℕ). decimal v ++ l) (none s n w.ends) ∙ append-nil (decimal v) in
    let d : digits_at s at ≡ decimal v = ap digits w.printed ∙ (digits_decimal v (drop n s) ∙ r) in
    ap (number_of at) d ∙ rw (formed v w.few, value-decimal v, ← w.after)

-- ---- lines
ahead : {s : List ℕ} {i next : ℕ} {ns : List ℕ} → FieldsAt s i ns next → (i + length ns < next) × (next ≤ length s)
ahead {s} (closed {i = i} e) = (omega arith, omega (arith, inside s i (omega arith)))
ahead (field {v = v} t w r) = let a = ahead r in (omega (arith, w.after, some-digit v), a.1)

-- a number before further fields
prepended : (v : ℕ) (f : Fields) (ns : List ℕ) (next : ℕ) → prepend v f ≡ all ns next → (ms : List ℕ) × (f ≡ all ms next) × (v ∷ ms ≡ ns)
prepended v (all ms m) ns next e = (ms, cc, cc)
prepended v bad ns next e = absurd cc

abbrev Sound : ℕ → List ℕ → Type 0
Sound k s = (i : ℕ) (ns : List ℕ) (next : ℕ) → fields_from k s i ≡ all ns next → FieldsAt s i ns next

fields-sound : (k : ℕ) (s : List ℕ) → Sound k s
fields-sound zero s i ns next e = absurd cc
fields-sound (suc k) s i ns next e = newlines (eqb (get_or s i 0) newline) refl (fields-sound k s)
  where
    numbers : (f : Option Field) → field_at s (i + 1) ≡ f → get_or s i 0 ≡ tab → follow f (λ n. fields_from k s n) ≡ all ns next → Sound k s → FieldsAt s i ns next
    numbers (Some f) q t g rec =
        let p = prepended f.number (fields_from k s f.next) ns next g in
        rw (← p.2) (field t (number-sound s (i + 1) f.number f.next q) (rec f.next p.0 next p.1))
    numbers None q t g rec = absurd cc

    tabs : (t : Bool) → eqb (get_or s i 0) tab ≡ t → (get_or s i 0 ≡ newline → ⊥) → Sound k s → FieldsAt s i ns next
    tabs true q h rec = let t = eqb-true (get_or s i 0) tab q in numbers (field_at s (i + 1)) refl t (sym (at-tab k s i t) ∙ e) rec
    tabs false q h rec =
        let f = sym (at_other (suc k) s i h (eqb-false (get_or s i 0) tab q)) ∙ e in
        absurd cc

    newlines : (t : Bool) → eqb (get_or s i 0) newline ≡ t → Sound k s → FieldsAt s i ns next
    newlines true q rec =
        let c = eqb-true (get_or s i 0) newline q in
        let f = sym (at-newline k s i c) ∙ e in
        let a : ◌≡◌ {A = List ℕ} [] ns = cc in
        let b : i + 1 ≡ next = cc in
        rw (← a, ← b) (closed c)
    newlines false q rec = tabs (eqb (get_or s i 0) tab) refl (eqb-false (get_or s i 0) newline q) rec

fields-complete : {s : List ℕ} {i next : ℕ} {ns : List ℕ} → FieldsAt s i ns next → (k : ℕ) → length ns < k → fields_from k s i ≡ all ns next
fields-complete w zero h = absurd (not-suc-le-zero h)
fields-complete {s} (closed {i = i} e) (suc k) h = at-newline k s i e
fields-complete {s} (field {i = i} {v = v} {n = n} t w r) (suc k) h =
    at-tab k s i t
    ∙ (ap (λ (f : Option Field). follow f (λ m. fields_from k s m)) (number-complete s (i + 1) v n w)
    ∙ ap (prepend v) (fields-complete r k (omega arith)))

pub line-ahead : LineAhead
line-ahead s at ns next w = let a = ahead w.fields in (omega arith, a.1)

pub line-complete : LineComplete
unfolding line_at fields_at
line-complete s at ns next w =
    let a = ahead w.fields in
    rw w.letter (ap (line_with (get_or s at 0)) (fields-complete w.fields (length s) (omega arith)))

pub line_once : LineOnce
line_once s at ns ms next end w v =
    let a = ahead w.fields in
    let b = ahead v.fields in
    let e = sym (fields-complete w.fields (length s) (omega arith)) ∙ fields-complete v.fields (length s) (omega arith) in
    (cc, cc)

pub line-sound : LineSound
unfolding line_at fields_at
line-sound s at = letters (is_letter (get_or s at 0)) refl
  where
    fields : (f : Fields) → fields_from (length s) s (at + 1) ≡ f → is_letter (get_or s at 0) ≡ true → LineOrBad s at
    fields (all ns next) e l = inr (ns, next, record { letter = l; fields = fields-sound (length s) s (at + 1) ns next e })
    fields bad e l = inl (rw (l, e))

    letters : (t : Bool) → is_letter (get_or s at 0) ≡ t → LineOrBad s at
    letters true l = fields (fields_from (length s) s (at + 1)) refl l
    letters false l = inl (rw l)
