-- Cells of which one thing is asked: the first at which the test fails decides.
use Rattle.std.specs.Prelude.{Err, Ok}
use mathlib.Core.Path.{◌≡◌, refl, sym}
use mathlib.Core.Bool.{Bool, true, false, not}
use mathlib.Core.List.{List, [], ◌∷◌, ◌++◌}
use Prim.Native.Nat.{ℕ, zero, suc, ◌+◌, ◌≤◌, ◌<◌}
use native.Mathlib.Omega.{arith}
use Rattle.duality.specs.Decide.{Decides, all_below}
use Rattle.duality.proofs.Decide.{reword, true-decides, all-decides}
use Rattle.refusals.specs.declared.Refusal.{Refusal}
use Rattle.refusals.specs.Codes.{code_of, code}
use Rattle.refusals.specs.Demand1.{Check, check_for, codes_of, first_of}
use Rattle.refusals.specs.Each.{each_checks, cell_check, cell_checks, places_of}
use Rattle.refusals.proofs.Verdicts.{Decided, ends, next}
use Rattle.refusals.proofs.Each.{cells-decided, each-served, each-serves, Left, each_start, each-end, each_on, each-stop, each_left}

-- ---- A check, and those after it

pub test-served : (r : Refusal) (t : Bool) (rest : List Check) → first_of (check_for r (not t) ∷ rest) ≡ Ok tt → (t ≡ true) × (first_of rest ≡ Ok tt)
unfolding first_of
test-served r true rest e = (refl, e)
test-served r false rest e = let z : ◌≡◌ {A = ℕ} 0 1 = cc in absurd (omega arith)

pub test-serves : (r : Refusal) (t : Bool) (rest : List Check) → t ≡ true → first_of rest ≡ Ok tt → first_of (check_for r (not t) ∷ rest) ≡ Ok tt
unfolding first_of
test-serves r t rest e h = rw e h

test-refuses : (r : Refusal) (t : Bool) → t ≡ false → Err r ≡ first_of (check_for r (not t) ∷ [])
unfolding first_of
test-refuses r t e = rw e

none-served : first_of [] ≡ Ok tt
unfolding first_of
none-served = refl

-- ---- A loop over n cells has come to cell i

pub record Passed (refusal : ℕ → Refusal) (test : ℕ → Bool) (n i : ℕ) : Type 0 where
  pub left : Left (cell_check refusal test) n i

module _ {refusal : ℕ → Refusal} {test : ℕ → Bool} {n : ℕ} where
  pub cell-start : Passed refusal test n 0
  cell-start = record { left = each_start }

  module _ {i : ℕ} (passed : Passed refusal test n i) where
    pub cell-end : n ≤ i → Ok tt ≡ first_of (cell_checks refusal test n)
    cell-end l = each-end passed.left l

    module _ (l : i < n) where
      pub cell-on : test i ≡ true → Passed refusal test n (i + 1)
      cell-on e = record { left = each_on passed.left l {v = Ok tt} (sym (test-serves (refusal i) (test i) [] e none-served)) refl }

      pub cell-stops : test i ≡ false → Err (refusal i) ≡ first_of (cell_checks refusal test n)
      cell-stops e = each-stop passed.left l (test-refuses (refusal i) (test i) e) refl

-- ---- The first cell at which the test fails, and none

module _ (refusal : ℕ → Refusal) (test : ℕ → Bool) (n : ℕ) where
  pub first_at : (k : ℕ) → k < n → ((j : ℕ) → j < k → test j ≡ true) → test k ≡ false → Err (refusal k) ≡ first_of (cell_checks refusal test n)
  first_at k l h e =
      cell-stops (record { left = each_left (cell_check refusal test) n k (omega arith) (λ j m. test-serves (refusal j) (test j) [] (h j m) none-served) }) l e

  pub none_at : ((j : ℕ) → j < n → test j ≡ true) → Ok tt ≡ first_of (cell_checks refusal test n)
  none_at h = sym (each-serves (cell_check refusal test) 0 n (λ j l m. test-serves (refusal j) (test j) [] (h j (omega arith)) none-served))

-- ---- All of them

module _ (refusal : ℕ → Refusal) (test : ℕ → Bool) where
  -- Served exactly when the test holds at each cell
  pub cells-served : (n : ℕ) → Decides (all_below n test) (first_of (cell_checks refusal test n) ≡ Ok tt)
  cells-served n =
      reword (all-decides n test (λ j. test j ≡ true) (λ j. true-decides (test j)))
      (λ h. each-serves (cell_check refusal test) 0 n (λ j l m. test-serves (refusal j) (test j) [] (h j (omega arith)) none-served))
      (λ e j l. (test-served (refusal j) (test j) [] (each-served (cell_check refusal test) 0 n e j (omega arith) (omega arith))).0)

  pub cells-decide : {Met : Refusal → Type 0} (n : ℕ) → ((j : ℕ) → j < n → Decides (not (test j)) (Met (refusal j))) → Decided Met (cell_checks refusal test n)
  cells-decide n d = cells-decided (cell_check refusal test) n (λ j l. next (d j l) ends)

  -- Their numbers and places: one number, at places that follow each other
  module _ (number : ℕ) (place : ℕ → ℕ) (coded : (j : ℕ) → code_of (refusal j) ≡ code number (place j)) (follow : (j : ℕ) → place (suc j) ≡ suc (place j)) where
    codes-from : (i n : ℕ) → codes_of (each_checks (cell_check refusal test) i n) ≡ places_of number (place i) n
    unfolding each_checks
    codes-from i zero = refl
    codes-from i (suc n) = rw (codes-from (suc i) n, coded i, follow i)

    pub cells-codes : (n : ℕ) → codes_of (cell_checks refusal test n) ≡ places_of number (place 0) n
    cells-codes n = codes-from 0 n

pub codes-both : (xs ys : List Check) → codes_of (xs ++ ys) ≡ codes_of xs ++ codes_of ys
codes-both [] ys = refl
codes-both (x ∷ xs) ys = rw (codes-both xs ys)
