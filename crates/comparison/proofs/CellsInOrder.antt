-- The order of two lists by their cells is std's `cmp` of them.
use mathlib.Core.Path.{◌≡◌, refl, ap, ◌∙◌}
use mathlib.Core.List.{List, [], ◌∷◌}
use Prim.Native.Nat.{ℕ, suc, ◌+◌, ◌<◌}
use lib.ListN.{length, get_or}
use native.Mathlib.Omega.{arith}
use Rattle.std.specs.declared.cmp.Ordering.{Ordering}
use Rattle.std.specs.declared.cmp.Ordering.TheVariants.{Less, Equal, Greater}
use Rattle.std.specs.Ordering.{nat_cmp, ordering_then, MatchOrdering}
use Rattle.std.specs.Cmp.{ranks}
use Rattle.std.specs.Cmp.Lexicographic.{slice_cmp}
use Rattle.duality.specs.Lists.{cells}
use Rattle.comparison.specs.Compare.{smaller_first, cells_order}
use Rattle.comparison.proofs.Standing.{first-smaller, second-smaller, equal-numbers}

pub then_smaller : (x y : ℕ) (k rest : Ordering) → MatchOrdering k (x < y) (x ≡ y) (y < x) → ordering_then k rest ≡ smaller_first x y rest
then_smaller x y Less rest l = first-smaller x y rest l
then_smaller x y Equal rest e = equal-numbers x y rest (omega arith) (omega arith)
then_smaller x y Greater rest l = second-smaller x y rest l

from_cell : (f g : ℕ → ℕ) (i : ℕ) (xs ys : List ℕ) → ((j : ℕ) → get_or xs j 0 ≡ f (i + j)) → ((j : ℕ) → get_or ys j 0 ≡ g (i + j)) →
    length ys ≡ length xs → slice_cmp nat_cmp xs ys ≡ cells_order f g i (length xs)
unfolding cells_order
from_cell f g i [] [] p q e = refl
from_cell f g i [] (y ∷ ys) p q e = absurd (omega arith)
from_cell f g i (x ∷ xs) [] p q e = absurd (omega arith)
from_cell f g i (x ∷ xs) (y ∷ ys) p q e =
    let here : i + 0 ≡ i = omega arith in
    let on : (j : ℕ) → i + suc j ≡ suc i + j = λ j. omega arith in
    let rest = from_cell f g (suc i) xs ys (λ j. p (suc j) ∙ ap f (on j)) (λ j. q (suc j) ∙ ap g (on j)) (omega arith) in
    let a : x ≡ f i = p 0 ∙ ap f here in
    let b : y ≡ g i = q 0 ∙ ap g here in
    rw (← a, ← b, ← rest) (then_smaller x y _ _ (ranks x y))

pub cells_in_order : (xs ys : List ℕ) → length ys ≡ length xs → slice_cmp nat_cmp xs ys ≡ cells_order (cells xs) (cells ys) 0 (length xs)
cells_in_order xs ys e =
    let z : (j : ℕ) → 0 + j ≡ j = λ j. omega arith in
    from_cell (cells xs) (cells ys) 0 xs ys (λ j. rw z refl) (λ j. rw z refl) e
