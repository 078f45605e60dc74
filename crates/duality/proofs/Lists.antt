-- Lists and their cells.
use mathlib.Core.Path.{◌≡◌, refl, ap, ◌∙◌}
use mathlib.Core.List.{List, [], ◌∷◌}
use Prim.Native.Nat.{ℕ, zero, suc, ◌+◌, ◌<◌}
use native.Mathlib.Nat.{le_of_suc-le-suc, not-suc-le-zero}
use lib.ListN.{length}
use Rattle.duality.specs.Sums.{sum_to}
use Rattle.duality.specs.Lists.{cells, sum}
use Rattle.duality.proofs.Sums.{sum_to-head}

-- The sum of a list is that of its cells
pub sum-cells : (l : List ℕ) → sum_to (length l) (cells l) ≡ sum l
sum-cells [] = refl
sum-cells (x ∷ xs) = sum_to-head (length xs) (cells (x ∷ xs)) ∙ ap (λ z. x + z) (sum-cells xs)

-- The first n values of f, as a list
abbrev pub tab : ℕ → (ℕ → ℕ) → List ℕ
tab zero f = []
tab (suc n) f = f 0 ∷ tab n (λ i. f (suc i))

pub length-tab : (n : ℕ) (f : ℕ → ℕ) → length (tab n f) ≡ n
length-tab zero f = refl
length-tab (suc n) f = ap suc (length-tab n (λ i. f (suc i)))

pub cells-tab : (n : ℕ) (f : ℕ → ℕ) (i : ℕ) → i < n → cells (tab n f) i ≡ f i
cells-tab zero f i l = absurd (not-suc-le-zero l)
cells-tab (suc n) f zero l = refl
cells-tab (suc n) f (suc i) l = cells-tab n (λ x. f (suc x)) i (le_of_suc-le-suc l)
