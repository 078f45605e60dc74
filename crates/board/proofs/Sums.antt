-- The first numbers of a list, added.
use mathlib.Core.Path.{◌≡◌, refl, ap}
use Prim.Native.Nat.{ℕ, zero, suc}
use native.Mathlib.Omega.{arith}
use Rattle.std.proofs.Common.{List, [], ◌∷◌, ◌≤◌, length, take, get_or}
use Rattle.std.proofs.Math.Seq.{take-suc}
use Rattle.std.specs.List.{sum}
use Rattle.std.proofs.lemmas.List.Sums.{sum_by-append}
use Rattle.duality.specs.Sums.{sum_to}

pub sum-take : (xs : List ℕ) (n : ℕ) → n ≤ length xs → sum (take n xs) ≡ sum_to n (λ k. get_or xs k 0)
sum-take xs zero l = refl
sum-take xs (suc n) l =
    let x = get_or xs n 0 in
    omega (
      arith,
      ap sum (take-suc xs n 0 (omega arith)),
      sum_by-append (λ (y : ℕ). y) (take n xs) (x ∷ []),
      sum-take xs n (omega arith),
    )
