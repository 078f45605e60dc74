-- The rows of the weights, after one of them is written.
use mathlib.Core.Path.{◌≡◌, refl, sym, ◌∙◌}
use mathlib.Core.Logic.{◌≢◌, ◌⊎◌, inl, inr, ⊎_elim, by_cases}
use mathlib.Core.List.{List, [], ◌∷◌, ◌++◌}
use Prim.Native.Nat.{ℕ, zero, suc, ◌+◌, ◌*◌, ◌≤◌, ◌<◌}
use native.Mathlib.Nat.{mul-le-mul, le_refl}
use native.Mathlib.Decide.{dec_lt}
use native.Mathlib.Omega.{arith}
use lib.ListN.{length, get_or, set, drop, length-set, length-take, length-drop}
use lib.Seq.{sets, length-sets, get_or-set_same, get_or-set_other, get_or-take, get_or-drop, ext_get_or}
use Rattle.board.specs.Limits.{max_items}
use Rattle.board.specs.Cells.{row_in}

-- A cell outside what is written
pub sets-other : (l row : List ℕ) (from j : ℕ) → (j < from) ⊎ (from + length row ≤ j) → get_or (sets l from row) j 0 ≡ get_or l j 0
sets-other l [] from j h = refl
sets-other l (x ∷ row) from j h =
    let ne : j ≢ from = λ e. ⊎_elim (λ (a : j < from). absurd (omega arith)) (λ (a : from + suc (length row) ≤ j). absurd (omega arith)) h in
    sets-other (set l from x) row (suc from) j (⊎_elim (λ a. inl (omega arith)) (λ a. inr (omega arith)) h) ∙ get_or-set_other l from j x 0 ne

-- A cell of what is written
pub sets-in : (l row : List ℕ) (from k : ℕ) → from + k < length l → k < length row → get_or (sets l from row) (from + k) 0 ≡ get_or row k 0
sets-in l [] from k h n = absurd (omega arith)
sets-in l (x ∷ row) from zero h n =
    let e : from + 0 ≡ from = omega arith in
    rw e (sets-other (set l from x) row (suc from) from (inl (omega arith)) ∙ get_or-set_same l from x 0 (omega arith))
sets-in l (x ∷ row) from (suc k) h n =
    let e : from + suc k ≡ suc from + k = omega arith in
    rw e (sets-in (set l from x) row (suc from) k (omega (arith, length-set l from x)) (omega arith))

-- A cell of a row
pub row-cell : (w : List ℕ) (i k : ℕ) → k < max_items → get_or (row_in w i) k 0 ≡ get_or w (i * max_items + k) 0
row-cell w i k l = get_or-take max_items (drop (i * max_items) w) k 0 l ∙ get_or-drop (i * max_items) w k 0

row-size : (w : List ℕ) (i k : ℕ) → k < length (row_in w i) → k < max_items
row-size w i k l = omega (arith, length-take max_items (drop (i * max_items) w))

-- Another row is as it was
pub other_row : (w row : List ℕ) (a i : ℕ) → length row ≡ max_items → i ≢ a → row_in (sets w (a * max_items) row) i ≡ row_in w i
other_row w row a i s ne =
    ext_get_or 0 _ _ same
    (λ k l. let n = row-size _ i k l in row-cell _ i k n ∙ sets-other w row (a * max_items) (i * max_items + k) (apart k n) ∙ sym (row-cell w i k n))
  where
    same : length (row_in (sets w (a * max_items) row) i) ≡ length (row_in w i)
    same = simp (length-take, length-drop, length-sets)

    apart : (k : ℕ) → k < max_items → (i * max_items + k < a * max_items) ⊎ (a * max_items + length row ≤ i * max_items + k)
    apart k n =
        by_cases (dec_lt i a)
        (λ l. inl (omega (arith, mul-le-mul l (le_refl max_items))))
        (λ g. let l : a < i = omega arith in inr (omega (arith, mul-le-mul l (le_refl max_items))))

-- The row that is written
pub new_row : (w row : List ℕ) (a : ℕ) → length row ≡ max_items → a * max_items + max_items ≤ length w → row_in (sets w (a * max_items) row) a ≡ row
new_row w row a s f =
    ext_get_or 0 _ _ (simp (length-take, length-drop, length-sets) (omega arith))
    (λ k l. let n = row-size _ a k l in row-cell _ a k n ∙ sets-in w row (a * max_items) k (omega arith) (omega arith))

-- A row written cell by cell
sets-append : (xs ys l : List ℕ) (at : ℕ) → sets l at (xs ++ ys) ≡ sets (sets l at xs) (at + length xs) ys
sets-append [] ys l at = let e : at + 0 ≡ at = omega arith in rw e
sets-append (x ∷ xs) ys l at = let e : at + suc (length xs) ≡ suc at + length xs = omega arith in rw e (sets-append xs ys (set l at x) (suc at))
