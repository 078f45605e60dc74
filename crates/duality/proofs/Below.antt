-- What holds below a bound, and searches below it.
use mathlib.Core.Path.{◌≡◌}
use mathlib.Core.Logic.{◌⊎◌, inl, inr, ⊎_elim, by_cases}
use Prim.Native.Nat.{ℕ, zero, suc, ◌+◌, ◌≤◌, ◌<◌}
use native.Mathlib.Nat.{suc_inj, not-suc-le-zero, eq-or-lt_of_le, eq-zero-or-pos, le_refl}
use native.Mathlib.Decide.{dec_le}
use native.Mathlib.Omega.{arith}

-- What holds below n and at n holds below n + 1
pub one_more : (n : ℕ) (P : ℕ → Type 0) → ((i : ℕ) → i < n → P i) → P n → (i : ℕ) → i < suc n → P i
one_more n P f p i l = ⊎_elim (λ (e : suc i ≡ suc n). rw (suc_inj e) p) (λ h. f i (omega arith)) (eq-or-lt_of_le l)

-- The same of the numbers from another on
pub one-more-on : (from n : ℕ) (P : ℕ → Type 0) → ((i : ℕ) → from ≤ i → i < n → P i) → P n → (i : ℕ) → from ≤ i → i < n + 1 → P i
one-more-on from n P f p i l h = one_more n (λ i. from ≤ i → P i) (λ i m l. f i l m) (λ l. p) i (omega arith) l

-- One that has a property, or that none has
pub find : (P : ℕ → Type 0) → ((i : ℕ) → Dec (P i)) → (n : ℕ) → ((i : ℕ) × (i < n) × P i) ⊎ ((i : ℕ) → i < n → P i → ⊥)
find P d zero = inr (λ i l. absurd (not-suc-le-zero l))
find P d (suc n) =
    ⊎_elim
    (λ f. inl (f.0, omega arith, f.2))
    (λ h. by_cases (d n) (λ p. inl (n, omega arith, p)) (λ q. inr (one_more n (λ i. P i → ⊥) h q)))
    (find P d n)

-- One at which f is greatest, if f is not 0 at all of them
pub peak : (f : ℕ → ℕ) (n : ℕ) → ((i : ℕ) → i < n → f i ≡ 0) ⊎ ((k : ℕ) × (k < n) × (0 < f k) × ((i : ℕ) → i < n → f i ≤ f k))
peak f zero = inl (λ i l. absurd (not-suc-le-zero l))
peak f (suc n) =
    ⊎_elim
    (λ z. ⊎_elim (λ e. inl (one_more n _ z e)) (λ p. inr (n, omega arith, p, one_more n _ (λ i l. omega (arith, z i l)) (le_refl _))) (eq-zero-or-pos (f n)))
    (λ t. by_cases (dec_le (f n) (f t.0))
    (λ l. inr (t.0, omega arith, t.2, one_more n _ t.3 l))
    (λ g. inr (n, omega arith, omega arith, one_more n _ (λ i l. omega (arith, t.3 i l)) (le_refl _))))
    (peak f n)
