-- (a) Weak duality.
use mathlib.Core.Path.{◌≡◌, refl}
use Prim.Native.Nat.{ℕ, zero, suc, ◌+◌, ◌*◌, ◌≤◌, ◌<◌}
use native.Mathlib.Nat.{mul-zero}
use native.Mathlib.Omega.{arith}
use Rattle.duality.specs.Matching.{at_cell, IsMatching}
use Rattle.duality.specs.Cover.{Covers}
use Rattle.duality.specs.WeakDuality.{WeakDuality}
use Rattle.duality.proofs.Sums.{sum_to-le, sum_to-add, sum_to-mul}
use Rattle.duality.proofs.HeldPrices.{held-le}

-- Bidder by bidder: its gain and its item's price are at least c times its weight
pub cell-covered : (n m : ℕ) (w : ℕ → ℕ → ℕ) (c : ℕ) (matching price gain : ℕ → ℕ) → IsMatching n m w matching → Covers n m w c price gain
    → (i : ℕ) → i < n → c * at_cell (w i) (matching i) ≤ gain i + at_cell price (matching i)
cell-covered n m w c matching price gain p covers i l = go (matching i) refl
  where
    go : (x : ℕ) → matching i ≡ x → c * at_cell (w i) (matching i) ≤ gain i + at_cell price (matching i)
    go zero e = rw (e, mul-zero) (omega arith)
    go (suc k) e = rw e (omega (arith, covers i k l (p.along i k l e).0 (p.along i k l e).1))

pub weak-duality : WeakDuality
weak-duality n m w c matching price gain p covers =
    omega (
      arith,
      sum_to-mul n c (λ i. at_cell (w i) (matching i)),
      sum_to-le n (λ i. c * at_cell (w i) (matching i)) (λ i. gain i + at_cell price (matching i)) (cell-covered n m w c matching price gain p covers),
      sum_to-add n gain (λ i. at_cell price (matching i)),
      held-le n m w matching price p,
    )
