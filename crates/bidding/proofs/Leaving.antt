-- An item leaves the live edges: over functions, whoever waits.
use mathlib.Core.Path.{◌≡◌, refl, sym, ap, ◌∙◌}
use mathlib.Core.Logic.{◌↔◌, ◌≢◌, ◌⊎◌, inl, inr, ⊎_elim, ⊎_map, by_cases}
use Prim.Native.Nat.{ℕ, suc, ◌<◌}
use native.Mathlib.Nat.{suc_inj, lt_irrefl}
use native.Mathlib.Decide.{ℕ_discrete}
use native.Mathlib.Omega.{arith}
use Rattle.duality.specs.Sums.{upd}
use Rattle.duality.proofs.Sums.{upd_same, upd_other, upd-all}
use Rattle.duality.proofs.Exchange.{Holder}
use Rattle.duality.proofs.Bid.{SettledBut}

module _ {n m : ℕ} {w : ℕ → ℕ → ℕ} {c d : ℕ} {waits : ℕ → Type 0} {matching price gain : ℕ → ℕ} (s : SettledBut n m w c d waits matching price gain)
    {k x : ℕ} (h : Holder n k x matching) where
  -- Whoever holds an item still is another than x, and holds another
  kept : (i j : ℕ) → i < n → upd x 0 matching i ≡ suc j → (i ≢ x) × (j ≢ k) × (matching i ≡ suc j)
  kept i j =
      upd-all (λ i v. i < n → v ≡ suc j → (i ≢ x) × (j ≢ k) × (matching i ≡ suc j)) x 0 matching
      (λ l e. absurd (omega arith))
      (λ i ne l e. (ne, λ q. ne (h.only i l (e ∙ ap suc q)), e))
      i

  -- Item k + 1 has no edge any more, its price is 0, and x, who held it, waits
  pub leaves : (waits' : ℕ → Type 0) → ((i : ℕ) → i < n → waits' i ↔ ((i ≡ x) ⊎ waits i)) →
      SettledBut n m (λ i. upd k 0 (w i)) c d waits' (upd x 0 matching) (upd k 0 price) (upd x 0 gain)
  leaves waits' next =
      record {
        matches = record {
          along = λ i j l e. let u = kept i j l e in rw (upd_other k 0 (w i) j u.1) (s.matches.along i j l u.2);
          once = λ a i j l₁ l₂ e₁ e₂. s.matches.once a i j l₁ l₂ (kept a j l₁ e₁).2 (kept i j l₂ e₂).2;
        };
        tight = record {
          placed = λ i j l e. let u = kept i j l e in
              rw (upd_other k 0 (w i) j u.1, upd_other x 0 gain i u.0, upd_other k 0 price j u.1) (s.tight.placed i j l u.2);
          unplaced = λ i l e. upd-all (λ i v. i < n → upd x 0 matching i ≡ 0 → v ≡ 0) x 0 gain
              (λ l e. refl)
              (λ i ne l e. s.tight.unplaced i l (sym (upd_other x 0 matching i ne) ∙ e))
              i l e;
          unheld = λ j l none. upd-all (λ j v. j < m → ((i : ℕ) → i < n → upd x 0 matching i ≡ suc j → ⊥) → v ≡ 0) k 0 price
              (λ l none. refl)
              (λ j ne l none. s.tight.unheld j l (λ i li e. none i li
              (upd_other x 0 matching i (λ q. ne (suc_inj (sym e ∙ ap matching q ∙ h.held (rw q at li)))) ∙ e)))
              j l none;
        };
        covers = λ i j l lj. by_cases (ℕ_discrete j k)
            (λ (e : j ≡ k) hw. absurd (lt_irrefl 0 (rw (e, upd_same) at hw)))
            (λ nk. rw (upd_other k 0 (w i) j nk, upd_other k 0 price j nk) (λ hw. by_cases (ℕ_discrete i x)
            (λ (e : i ≡ x). inl ((next i l).1 (inl e)))
            (λ ne. rw (upd_other x 0 gain i ne) (⊎_map (λ v. (next i l).1 (inr v)) (λ q. q) (s.covers i j l lj hw)))));
        away = upd-all (λ i v. i < n → waits' i → v ≡ 0) x 0 matching
            (λ l q. refl)
            (λ i ne l q. ⊎_elim (λ e. absurd (ne e)) (λ v. s.away i l v) ((next i l).0 q));
      }
