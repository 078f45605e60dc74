-- Laws of finite sums, and of a function that is changed at one place.
use mathlib.Core.Path.{◌≡◌, refl, ap, ap₂}
use mathlib.Core.Logic.{◌≢◌, by_cases}
use Prim.Native.Nat.{ℕ, zero, suc, ◌+◌, ◌*◌, ◌≤◌, ◌<◌}
use native.Mathlib.Nat.{le_refl}
use native.Mathlib.Decide.{ℕ_discrete, dec_lt}
use native.Mathlib.Omega.{arith}
use Rattle.duality.specs.Sums.{sum_to, upd}
use Rattle.duality.specs.Matching.{at_cell}

pub sum_to-le : (n : ℕ) (f g : ℕ → ℕ) → ((i : ℕ) → i < n → f i ≤ g i) → sum_to n f ≤ sum_to n g
sum_to-le zero f g h = omega arith
sum_to-le (suc n) f g h = omega (arith, sum_to-le n f g (λ i l. h i (omega arith)), h n (omega arith))

pub sum_to-eq : (n : ℕ) (f g : ℕ → ℕ) → ((i : ℕ) → i < n → f i ≡ g i) → sum_to n f ≡ sum_to n g
sum_to-eq zero f g h = refl
sum_to-eq (suc n) f g h = ap₂ ◌+◌ (sum_to-eq n f g (λ i l. h i (omega arith))) (h n (omega arith))

pub sum_to-zero : (n : ℕ) (f : ℕ → ℕ) → ((i : ℕ) → i < n → f i ≡ 0) → sum_to n f ≡ 0
sum_to-zero zero f h = refl
sum_to-zero (suc n) f h = omega (arith, sum_to-zero n f (λ i l. h i (omega arith)), h n (omega arith))

pub sum_to-add : (n : ℕ) (f g : ℕ → ℕ) → sum_to n (λ i. f i + g i) ≡ sum_to n f + sum_to n g
sum_to-add zero f g = refl
sum_to-add (suc n) f g = omega (arith, sum_to-add n f g)

pub sum_to-mul : (n c : ℕ) (f : ℕ → ℕ) → sum_to n (λ i. c * f i) ≡ c * sum_to n f
sum_to-mul zero c f = omega arith
sum_to-mul (suc n) c f = omega (arith, sum_to-mul n c f)

-- The first term apart
pub sum_to-head : (n : ℕ) (f : ℕ → ℕ) → sum_to (suc n) f ≡ f 0 + sum_to n (λ i. f (suc i))
sum_to-head zero f = omega arith
sum_to-head (suc n) f = omega (arith, sum_to-head n f)

pub upd_same : (i v : ℕ) (f : ℕ → ℕ) → upd i v f i ≡ v
upd_same zero v f = refl
upd_same (suc i) v f = upd_same i v (λ x. f (suc x))

pub upd_other : (i v : ℕ) (f : ℕ → ℕ) (j : ℕ) → j ≢ i → upd i v f j ≡ f j
upd_other zero v f zero h = absurd (h refl)
upd_other zero v f (suc j) h = refl
upd_other (suc i) v f zero h = refl
upd_other (suc i) v f (suc j) h = upd_other i v (λ x. f (suc x)) j (λ e. h (ap suc e))

-- What holds of v at i, and of f at every other place, holds of the changed function at each
pub upd-all : (P : ℕ → ℕ → Type 0) (i v : ℕ) (f : ℕ → ℕ) → P i v → ((j : ℕ) → j ≢ i → P j (f j)) → (j : ℕ) → P j (upd i v f j)
upd-all P i v f p h j = by_cases (ℕ_discrete j i) (λ (e : j ≡ i). rw (e, upd_same) p) (λ ne. rw (upd_other i v f j ne) (h j ne))

-- A function that is raised at one place falls nowhere
pub upd-ge : (i v : ℕ) (f : ℕ → ℕ) → f i ≤ v → (j : ℕ) → f j ≤ upd i v f j
upd-ge i v f h = upd-all (λ j u. f j ≤ u) i v f h (λ j ne. le_refl (f j))

-- A sum, after one term is changed
pub sum_to-upd : (m k v : ℕ) (f : ℕ → ℕ) → k < m → sum_to m (upd k v f) + f k ≡ sum_to m f + v
sum_to-upd zero k v f h = omega arith
sum_to-upd (suc m) zero v f h = omega (arith, sum_to-head m (upd 0 v f), sum_to-head m f)
sum_to-upd (suc m) (suc k) v f h =
    omega (arith, sum_to-head m (upd (suc k) v f), sum_to-head m f, sum_to-upd m k v (λ i. f (suc i)) (omega arith))

pub sum_to-upd-le : (m k v : ℕ) (f : ℕ → ℕ) → sum_to m (upd k v f) ≤ sum_to m f + v
sum_to-upd-le m k v f =
    by_cases (dec_lt k m)
    (λ l. omega (arith, sum_to-upd m k v f l))
    (λ g. omega (arith, sum_to-eq m (upd k v f) f (λ i l. upd_other k v f i (omega arith))))

-- A sum is at least each of its terms
pub sum_to-term : (n i : ℕ) (f : ℕ → ℕ) → i < n → f i ≤ sum_to n f
sum_to-term n i f l = omega (arith, sum_to-upd n i 0 f l)

-- A part of the sum, with the next term, is no more than the whole
pub sum_to-part : (n : ℕ) (f : ℕ → ℕ) (i : ℕ) → i < n → sum_to i f + f i ≤ sum_to n f
sum_to-part zero f i l = absurd (omega arith)
sum_to-part (suc n) f i l =
    by_cases (dec_lt i n)
    (λ h. omega (arith, sum_to-part n f i h))
    (λ h. let e : i ≡ n = omega arith in rw e (omega arith))

-- A sum of n terms of at most c
pub sum_to-most : (n c : ℕ) (f : ℕ → ℕ) → ((i : ℕ) → i < n → f i ≤ c) → sum_to n f ≤ n * c
sum_to-most zero c f h = omega arith
sum_to-most (suc n) c f h = omega (arith, sum_to-most n c f (λ i l. h i (omega arith)), h n (omega arith))

-- Terms that do not fall, and one that rises
pub sum_to-lt : (n j : ℕ) (f g : ℕ → ℕ) → ((i : ℕ) → i < n → f i ≤ g i) → j < n → f j < g j → sum_to n f < sum_to n g
sum_to-lt n j f g h l s =
    omega (arith, sum_to-upd n j (g j) f l, sum_to-le n (upd j (g j) f) g (upd-all (λ i v. i < n → v ≤ g i) j (g j) f (λ _. omega arith) (λ i ne. h i)))

-- A cell that names another item than k sees no change at k
pub at_cell-upd : (k v c : ℕ) (f : ℕ → ℕ) → (c ≡ suc k → ⊥) → at_cell (upd k v f) c ≡ at_cell f c
at_cell-upd k v zero f h = refl
at_cell-upd k v (suc j) f h = upd_other k v f j (λ e. h (ap suc e))
