-- The test of a cell, as the code asks it part by part.
use mathlib.Core.Path.{◌≡◌, refl}
use Prim.Native.Nat.{ℕ, zero, suc, ◌-◌, ◌≤◌}
use native.Mathlib.Omega.{arith}
use lib.Dec.{eqb, ltb}
use borrow.Author.Tests.{lt-ltb}
use Rattle.places.specs.Places.{count_to}
use Rattle.places.specs.PlanTest.{cell_test_with}

module _ (m : ℕ) (count : ℕ → ℕ) (w : ℕ → ℕ → ℕ) (plan : ℕ → ℕ) (i : ℕ) where
  -- What is left to ask: whether the item has more places than bidders named it
  pub cell-left : (c n p : ℕ) → (c ≡ 0 → ⊥) → c ≤ m → (w i (c - 1) ≡ 0 → ⊥) → n ≡ count_to i (λ h. eqb (plan h) c) → p ≡ count (c - 1) →
      ltb n p ≡ cell_test_with m count w plan i c
  unfolding cell_test_with
  cell-left zero n p ne l e en ep = absurd (ne refl)
  cell-left (suc k) n p ne l e en ep =
      let s : suc k - 1 ≡ k = omega arith in
      let z : w i k ≡ 0 → ⊥ = rw s at e in
      let y : p ≡ count k = rw s at ep in
      rw (lt-ltb k m l, lt-ltb 0 (w i k) (omega arith), en, y) refl
