-- (g) The tests decide what they are tests of.
use mathlib.Core.Path.{◌≡◌, refl}
use mathlib.Core.Logic.{⊎_elim, by_cases}
use Prim.Native.Nat.{ℕ, zero, suc, ◌+◌, ◌*◌, ◌≤◌, ◌<◌}
use native.Mathlib.Nat.{suc_inj, mul-zero, eq-zero-or-pos}
use native.Mathlib.Decide.{dec_lt}
use native.Mathlib.Omega.{arith}
use lib.Dec.{leb}
use Rattle.duality.specs.Decide.{Decides}
use Rattle.duality.specs.Tests.{fresh_test, cell_test, matching_test, covers_test}
use Rattle.duality.specs.TestsDecide.{MatchingTestDecides, CoversTestDecides}
use Rattle.duality.proofs.Decide.{reword, lt-decides, le-decides, ne-decides, and-decides, all-decides}
use Rattle.duality.proofs.HeldPrices.{Unheld}

cell-decides : (m : ℕ) (w : ℕ → ℕ → ℕ) (matching : ℕ → ℕ) (i c : ℕ) →
    Decides (cell_test m w matching i c) ((k : ℕ) → c ≡ suc k → (k < m) × ((0 < w i k) × Unheld i matching k))
unfolding cell_test fresh_test
cell-decides m w matching i zero = record { sound = λ t k e. absurd (omega arith); complete = λ h. refl }
cell-decides m w matching i (suc k) =
    reword (and-decides (lt-decides _ _) (and-decides (lt-decides _ _) (all-decides i _ _ (λ h. ne-decides _ _))))
    (λ q j e. rw (← suc_inj e) q)
    (λ q. q k refl)

pub matching-test-decides : MatchingTestDecides
unfolding matching_test
matching-test-decides n m w matching =
    reword (all-decides n _ _ (λ i. cell-decides m w matching i (matching i)))
    (λ q. record {
      along = λ i k l e. ((q i l k e).0, (q i l k e).1.0);
      once = λ h i k lh li e₁ e₂. by_cases (dec_lt h i)
          (λ s. absurd ((q i li k e₂).1.1 h s e₁))
          (λ s₁. by_cases (dec_lt i h) (λ s. absurd ((q h lh k e₁).1.1 i s e₂)) (λ s₂. omega arith));
    })
    (λ p i l k e. ((p.along i k l e).0, ((p.along i k l e).1, λ h s e₂. omega (arith, p.once h i k (omega arith) l e₂ e))))

-- Where there is no edge nothing is asked, and the test asks nothing either
edge-decides : (c v s : ℕ) → Decides (leb (c * v) s) (0 < v → c * v ≤ s)
edge-decides c v s =
    reword (le-decides (c * v) s) (λ h hv. h) (λ h. ⊎_elim (λ (e : v ≡ 0). rw (e, mul-zero) (omega arith)) h (eq-zero-or-pos v))

pub covers-test-decides : CoversTestDecides
unfolding covers_test
covers-test-decides n m w c price gain =
    reword (all-decides n _ _ (λ i. all-decides m _ _ (λ k. edge-decides c (w i k) (gain i + price k))))
    (λ q i k l lk. q i l k lk)
    (λ q i l k lk. q i k l lk)
