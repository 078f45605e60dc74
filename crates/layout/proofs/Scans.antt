-- Laws of reading a column byte by byte, and of comparing a line byte by byte.
use mathlib.Core.Path.{◌≡◌, refl, sym, ◌∙◌, ap}
use Prim.Native.Nat.{ℕ, ◌+◌, ◌*◌, ◌-◌, ◌^◌, ◌<◌, ◌≤◌}
use native.Mathlib.Nat.{pow-le-pow_right}
use native.Mathlib.Numerals.{add-one}
use native.Mathlib.Omega.{arith}
use mathlib.Core.List.{List, [], ◌∷◌, ◌++◌}
use lib.ListN.{length, get_or, take, drop}
use lib.Seq.{take-suc, drop-drop}
use lib.Dec.{leb}
use borrow.Author.Tests.{ne_eqb, le-leb}
use Rattle.text.specs.Number.{value_of}
use Rattle.board.specs.Limits.{max_items, max_weight}
use Rattle.layout.specs.Limits.{max_gain, item_columns, weight_columns, gain_columns}
use Rattle.layout.specs.Row.{row_is, row_fits}
use Rattle.layout.specs.Read.{row_read}

-- ---- a column
value-append : (v : ℕ) (xs ys : List ℕ) → value_of v (xs ++ ys) ≡ value_of (value_of v xs) ys
value-append v [] ys = refl
value-append v (x ∷ xs) ys = value-append (v * 10 + (x - 48)) xs ys

-- one byte more; 23 × 9 is the most that a byte counts
pub value-more : (l : List ℕ) (i v : ℕ) → i < length l → v ≡ value_of 0 (take i l) → v * 10 + (get_or l i 0 - 48) ≡ value_of 0 (take (i + 1) l)
value-more l i v h e =
    ap (λ (v : ℕ). v * 10 + (get_or l i 0 - 48)) e
    ∙ sym (rw (add-one i) (ap (value_of 0) (take-suc l i 0 h)) ∙ value-append 0 (take i l) (get_or l i 0 ∷ []))

pub value-room : (v i : ℕ) → i ≤ 10 → v + 23 ≤ 23 * 10 ^ i → v + 23 ≤ 23 * 10 ^ 10
value-room v i h w = omega (arith, w, pow-le-pow_right {n = 10} (omega arith) h)

-- the columns of a line
pub row_as : (l : List ℕ) (i w g : ℕ) → i ≡ value_of 0 (take item_columns (drop 4 l)) → w ≡ value_of 0 (take weight_columns (drop 7 l))
    → g ≡ value_of 0 (take gain_columns (drop 15 l)) → row_is i w g ≡ row_read l
unfolding row_read
row_as l i w g p q r = rw (p, q, r, drop-drop 3 4 l, drop-drop 8 7 l)

-- a row of a bidder that has an item
pub fit-placed : (i w g : ℕ) → (i ≡ 0 → ⊥) → i ≤ max_items → (w ≡ 0 → ⊥) → w ≤ max_weight → leb g max_gain ≡ row_fits (row_is i w g)
fit-placed i w g some low has h =
    rw (ne_eqb i 0 some, le-leb 1 i (omega arith), le-leb i max_items low, le-leb 1 w (omega arith), le-leb w max_weight h)
