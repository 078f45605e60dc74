-- Laws of what is put one after the other, and of lines. Assumes nothing.
use mathlib.Core.Path.{◌≡◌, refl, sym, ◌∙◌, ap}
use Prim.Native.Nat.{ℕ, suc, ◌+◌, ◌<◌, ◌≤◌}
use native.Mathlib.Nat.{add-zero}
use native.Mathlib.Numerals.{add-one}
use native.Mathlib.Omega.{arith}
use mathlib.Core.List.{List, [], ◌∷◌, ◌++◌, append_assoc, append-nil}
use lib.ListN.{length, get_or, set, take, drop, length-append}
use lib.Seq.{sets, sets-eq, length-sets, take_at, take-suc}
use Rattle.text.specs.Bytes.{tab}
use Rattle.text.specs.Print.{decimal, tabbed, Put}

pub sets-append : (xs ys l : List ℕ) (at : ℕ) → sets l at (xs ++ ys) ≡ sets (sets l at xs) (at + length xs) ys
sets-append [] ys l at = ap (λ (k : ℕ). sets l k ys) (sym (add-zero at))
sets-append (x ∷ xs) ys l at =
    let e : suc at + length xs ≡ at + suc (length xs) = omega arith in
    sets-append xs ys (set l at x) (suc at) ∙ ap (λ (k : ℕ). sets (sets (set l at x) (suc at) xs) k ys) e

-- nothing
pub put-none : (l : List ℕ) (at : ℕ) → Put l l at [] at
put-none l at = record { wrote = refl; moved = sym (add-zero at) }

-- one after the other
pub put_then : {l m e : List ℕ} {at p q : ℕ} {xs ys : List ℕ} → Put l m at xs p → Put m e p ys q → Put l e at (xs ++ ys) q
put_then {l} {m} {e} {at} {p} {q} {xs} {ys} a b =
    record {
      wrote =
          b.wrote
          ∙ (ap (λ (z : List ℕ). sets z p ys) a.wrote
          ∙ (ap (λ (k : ℕ). sets (sets l at xs) k ys) a.moved ∙ sym (sets-append xs ys l at)));
      moved = rw length-append (omega (arith, a.moved, b.moved));
    }

-- the same bytes, said otherwise
pub put_as : {l m : List ℕ} {at p : ℕ} {xs ys : List ℕ} → xs ≡ ys → Put l m at xs p → Put l m at ys p
put_as e a = rw e at a

pub put-length : {l m : List ℕ} {at p : ℕ} {xs : List ℕ} → Put l m at xs p → length m ≡ length l
put-length {l} {m} {at} {p} {xs} a = ap length a.wrote ∙ length-sets l at xs

-- what stands at the front of a list that has room for it
pub front : {l m bs : List ℕ} {n : ℕ} → length bs ≤ length l → Put l m 0 bs n → m ≡ bs ++ drop (length bs) l
front {l} {m} {bs} {n} h p =
    let e : 0 + length bs ≡ length bs = omega arith in
    p.wrote ∙ (sets-eq bs l 0 (omega arith) ∙ ap (λ (k : ℕ). bs ++ drop k l) e)

pub front-taken : {l m bs : List ℕ} {n : ℕ} → length bs ≤ length l → Put l m 0 bs n → take n m ≡ bs
front-taken {l} {m} {bs} {n} h p = ap (λ (z : List ℕ). take n z) (front h p) ∙ take_at bs (drop (length bs) l) n (omega (arith, p.moved))

-- ---- a line
tabbed-append : (xs ys : List ℕ) → tabbed (xs ++ ys) ≡ tabbed xs ++ tabbed ys
tabbed-append [] ys = refl
tabbed-append (x ∷ xs) ys = ap (λ (l : List ℕ). (tab ∷ decimal x) ++ l) (tabbed-append xs ys) ∙ sym (append_assoc (tab ∷ decimal x) (tabbed xs) (tabbed ys))

-- one field more
pub tabbed-more : (l : List ℕ) (i : ℕ) → i < length l → tabbed (take i l) ++ (tab ∷ decimal (get_or l i 0)) ≡ tabbed (take (i + 1) l)
tabbed-more l i h =
    ap (λ (ds : List ℕ). tabbed (take i l) ++ ds) (sym (append-nil (tab ∷ decimal (get_or l i 0))))
    ∙ (sym (tabbed-append (take i l) (get_or l i 0 ∷ []))
    ∙ ap tabbed (sym (take-suc l i 0 h) ∙ ap (λ (k : ℕ). take k l) (sym (add-one i))))
