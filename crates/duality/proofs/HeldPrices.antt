-- The prices of the items that a matching holds, and those that are left over.
use mathlib.Core.Path.{◌≡◌, refl, ap, ◌∙◌}
use mathlib.Core.Logic.{◌⊎◌, inl, inr, ⊎_elim, ⊎_map}
use Prim.Native.Nat.{ℕ, zero, suc, ◌+◌, ◌≤◌, ◌<◌}
use native.Mathlib.Nat.{not-suc-le-zero}
use native.Mathlib.Omega.{arith}
use Rattle.duality.specs.Sums.{sum_to, upd}
use Rattle.duality.specs.Matching.{at_cell, IsMatching}
use Rattle.duality.proofs.Below.{one_more}
use Rattle.duality.proofs.Sums.{sum_to-zero, sum_to-upd, sum_to-term, upd-all}

-- Nobody holds item k + 1
abbrev pub Unheld : ℕ → (ℕ → ℕ) → ℕ → Type 0
Unheld n matching k = (i : ℕ) → i < n → matching i ≡ suc k → ⊥

-- What the held items leave of the prices: nothing of a held item's, and all of an unheld item's
pub record Left (n m : ℕ) (matching price : ℕ → ℕ) : Type 0 where
  pub left : ℕ → ℕ
  pub adds : sum_to n (λ i. at_cell price (matching i)) + sum_to m left ≡ sum_to m price
  pub spent : (k : ℕ) → (left k ≡ 0) ⊎ Unheld n matching k
  pub whole : (k : ℕ) → Unheld n matching k → left k ≡ price k

pub held-prices : (n m : ℕ) (w : ℕ → ℕ → ℕ) (matching price : ℕ → ℕ) → IsMatching n m w matching → Left n m matching price
held-prices zero m w matching price p =
    record { left = price; adds = omega arith; spent = λ k. inr (λ i l. absurd (not-suc-le-zero l)); whole = λ k u. refl }
held-prices (suc n) m w matching price p = go (matching n) refl (held-prices n m w matching price fewer)
  where
    fewer : IsMatching n m w matching
    fewer =
        record {
          along = λ i k l. p.along i k (omega arith);
          once = λ h i k l₁ l₂. p.once h i k (omega arith) (omega arith);
        }

    go : (c : ℕ) → matching n ≡ c → Left n m matching price → Left (suc n) m matching price
    go zero e r =
        record {
          left = r.left;
          adds = omega (arith, r.adds, ap (at_cell price) e);
          spent = λ k. ⊎_map (λ z. z) (λ u. one_more n _ u (omega arith)) (r.spent k);
          whole = λ k u. r.whole k (λ i l. u i (omega arith));
        }
    go (suc k) e r =
        record {
          left = upd k 0 r.left;
          adds = omega (
            arith,
            r.adds,
            ap (at_cell price) e,
            sum_to-upd m k 0 r.left (p.along n k (omega arith) e).0,
            r.whole k (λ i l e₂. omega (arith, p.once i n k (omega arith) (omega arith) e₂ e)),
          );
          spent = upd-all (λ j v. (v ≡ 0) ⊎ Unheld (suc n) matching j) k 0 r.left (inl refl)
              (λ j ne. ⊎_map (λ z. z) (λ u. one_more n _ u (omega arith)) (r.spent j));
          whole = upd-all (λ j v. Unheld (suc n) matching j → v ≡ price j) k 0 r.left
              (λ u. absurd (u n (omega arith) e))
              (λ j ne u. r.whole j (λ i l. u i (omega arith)));
        }

-- Held prices add up to no more than all prices
pub held-le : (n m : ℕ) (w : ℕ → ℕ → ℕ) (matching price : ℕ → ℕ) → IsMatching n m w matching → sum_to n (λ i. at_cell price (matching i)) ≤ sum_to m price
held-le n m w matching price p = omega (arith, (held-prices n m w matching price p).adds)

-- They add up to just that, where every other price is 0
pub held-eq : (n m : ℕ) (w : ℕ → ℕ → ℕ) (matching price : ℕ → ℕ) → IsMatching n m w matching → ((k : ℕ) → k < m → Unheld n matching k → price k ≡ 0)
    → sum_to n (λ i. at_cell price (matching i)) ≡ sum_to m price
held-eq n m w matching price p h =
    let r = held-prices n m w matching price p in
    omega (arith, r.adds, sum_to-zero m r.left (λ k l. ⊎_elim (λ z. z) (λ u. r.whole k u ∙ h k l u) (r.spent k)))

-- And only there
pub unheld-zero : (n m : ℕ) (w : ℕ → ℕ → ℕ) (matching price : ℕ → ℕ) → IsMatching n m w matching → sum_to m price ≤ sum_to n (λ i. at_cell price (matching i))
    → (k : ℕ) → k < m → Unheld n matching k → price k ≡ 0
unheld-zero n m w matching price p h k l u =
    let r = held-prices n m w matching price p in
    omega (arith, r.adds, r.whole k u, sum_to-term m k r.left l)
