-- (b) Tightness.
use mathlib.Core.Path.{◌≡◌, refl, sym}
use Prim.Native.Nat.{ℕ, zero, suc, ◌+◌, ◌*◌, ◌<◌}
use native.Mathlib.Nat.{mul-zero}
use native.Mathlib.Omega.{arith}
use Rattle.duality.specs.Matching.{at_cell}
use Rattle.duality.specs.Tightness.{Tightness}
use Rattle.duality.proofs.Sums.{sum_to-eq, sum_to-add, sum_to-mul}
use Rattle.duality.proofs.HeldPrices.{held-eq}

pub tightness : Tightness
tightness n m w d matching price gain p t =
    omega (
      arith,
      sum_to-mul n d (λ i. at_cell (w i) (matching i)),
      sum_to-eq n (λ i. d * at_cell (w i) (matching i)) (λ i. gain i + at_cell price (matching i)) (λ i l. cell i l (matching i) refl),
      sum_to-add n gain (λ i. at_cell price (matching i)),
      held-eq n m w matching price p (λ k l u. omega (arith, t.unheld k l u)),
    )
  where
    cell : (i : ℕ) → i < n → (x : ℕ) → matching i ≡ x → d * at_cell (w i) (matching i) ≡ gain i + at_cell price (matching i)
    cell i l zero e = rw (e, mul-zero, t.unplaced i l e)
    cell i l (suc k) e = rw e (sym (t.placed i k l e))
