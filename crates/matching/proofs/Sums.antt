-- Sums as loops come to them.
use mathlib.Core.Path.{◌≡◌, refl, ap}
use Prim.Native.Nat.{ℕ, zero, suc, ◌-◌}
use native.Mathlib.Omega.{arith}
use Rattle.std.proofs.Common.{Bool, true, false, cond, List, [], ◌∷◌, ◌≤◌, length, take, get_or}
use Rattle.std.proofs.Math.Seq.{take-suc, take-length}
use Rattle.std.specs.List.{count_by, sum}
use Rattle.std.proofs.lemmas.List.Sums.{sum_by-append}
use Rattle.places.specs.Places.{flag, count_to}
use Rattle.duality.specs.Sums.{sum_to}
use Rattle.duality.specs.Matching.{at_cell}

-- A cell that is not 0 names the item one below it
pub at_item : (f : ℕ → ℕ) (c : ℕ) → (c ≡ 0 → ⊥) → f (c - 1) ≡ at_cell f c
at_item f zero ne = absurd (ne refl)
at_item f (suc k) ne = let s : suc k - 1 ≡ k = omega arith in rw s

-- Those of the first n cells of a list that pass a test, counted
flag-cond : (t : Bool) → cond t 1 0 ≡ flag t
flag-cond true = refl
flag-cond false = refl

pub count_by-take : (test : ℕ → Bool) (xs : List ℕ) (n : ℕ) → n ≤ length xs → count_by test (take n xs) ≡ count_to n (λ h. test (get_or xs h 0))
count_by-take test xs zero l = refl
count_by-take test xs (suc n) l =
    let x = get_or xs n 0 in
    omega (
      arith,
      ap (count_by test) (take-suc xs n 0 (omega arith)),
      sum_by-append (λ (y : ℕ). cond (test y) 1 0) (take n xs) (x ∷ []),
      count_by-take test xs n (omega arith),
      flag-cond (test x),
    )

-- A list's numbers, added
sum-take : (xs : List ℕ) (n : ℕ) → n ≤ length xs → sum (take n xs) ≡ sum_to n (λ k. get_or xs k 0)
sum-take xs zero l = refl
sum-take xs (suc n) l =
    let x = get_or xs n 0 in
    omega (
      arith,
      ap sum (take-suc xs n 0 (omega arith)),
      sum_by-append (λ (y : ℕ). y) (take n xs) (x ∷ []),
      sum-take xs n (omega arith),
    )

pub sum-cells : (xs : List ℕ) → sum xs ≡ sum_to (length xs) (λ k. get_or xs k 0)
sum-cells xs = omega (arith, sum-take xs (length xs) (omega arith), ap sum (take-length xs))
