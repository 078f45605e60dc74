-- A bid of a bidder that waits, whatever rule chose it, keeps the others settled.
use mathlib.Core.Path.{◌≡◌, refl, sym, ap, ◌∙◌}
use mathlib.Core.Logic.{◌↔◌, ◌≢◌, ◌⊎◌, inl, inr, ⊎_elim, ⊎_map, by_cases}
use Prim.Native.Nat.{ℕ, suc, ◌+◌, ◌*◌, ◌≤◌, ◌<◌}
use native.Mathlib.Nat.{suc_inj}
use native.Mathlib.Decide.{ℕ_discrete}
use native.Mathlib.Omega.{arith}
use Rattle.duality.specs.Sums.{upd}
use Rattle.duality.specs.Matching.{IsMatching}
use Rattle.duality.specs.Cover.{Covers, Tight}
use Rattle.duality.proofs.Sums.{upd_same, upd_other, upd-ge}
use Rattle.duality.proofs.Exchange.{Holder, moved, swapped, moved_all, swap-ne, swap-unheld, swap-matching}

-- A matching, prices and gains that are tight at d and cover at c, but for bidders that wait: unplaced, at gain 0, their rows perhaps not covered
pub record SettledBut (n m : ℕ) (w : ℕ → ℕ → ℕ) (c d : ℕ) (waits : ℕ → Type 0) (matching price gain : ℕ → ℕ) : Type 0 where
  pub matches : IsMatching n m w matching
  pub tight : Tight n m w d matching price gain
  pub covers : (i k : ℕ) → i < n → k < m → 0 < w i k → waits i ⊎ (c * w i k ≤ gain i + price k)
  pub away : (i : ℕ) → i < n → waits i → matching i ≡ 0

-- Bidder a bids for item k + 1, for the gain g and the price y: they share d times the weight, the price does not fall, and at the new prices a's
-- row is covered
pub record Bid (m : ℕ) (w : ℕ → ℕ → ℕ) (c d : ℕ) (price : ℕ → ℕ) (a k g y : ℕ) : Type 0 where
  pub item : k < m
  pub edge : 0 < w a k
  pub shares : g + y ≡ d * w a k
  pub rises : price k ≤ y
  pub row : (j : ℕ) → j < m → 0 < w a j → c * w a j ≤ g + upd k y price j

module _ {n m : ℕ} {w : ℕ → ℕ → ℕ} {c d : ℕ} {waits : ℕ → Type 0} {matching price gain : ℕ → ℕ} (s : SettledBut n m w c d waits matching price gain) where
  -- Nobody waits any more
  pub all_settled : ((i : ℕ) → i < n → waits i → ⊥) → Covers n m w c price gain
  all_settled none i k l lk hw = ⊎_elim (λ q. absurd (none i l q)) (λ h. omega arith) (s.covers i k l lk hw)

  module _ {a : ℕ} (la : a < n) (here : waits a) (waits' : ℕ → Type 0) where
    -- A bidder whose row the prices cover stays out
    pub stays_out : ((j : ℕ) → j < m → c * w a j ≤ price j) → ((i : ℕ) → i < n → waits' i ↔ ((i ≢ a) × waits i)) → SettledBut n m w c d waits' matching price gain
    stays_out row next =
        record {
          matches = s.matches;
          tight = s.tight;
          covers = λ i j l lj hw. by_cases (ℕ_discrete i a)
              (λ (e : i ≡ a). inr (rw e (omega (arith, row j lj))))
              (λ ne. ⊎_map (λ q. (next i l).1 (ne, q)) (λ h. h) (s.covers i j l lj hw));
          away = λ i l q. s.away i l ((next i l).0 q).1;
        }

    -- Or bids, and then x waits, who held the item
    pub bids : {k x g y : ℕ} → Bid m w c d price a k g y → Holder n k x matching → ((i : ℕ) → i < n → waits' i ↔ ((i ≡ x) ⊎ ((i ≢ a) × waits i)))
        → SettledBut n m w c d waits' (swapped a k x matching) (upd k y price) (moved a g x gain)
    bids {k} {x} {g} {y} b h next =
        record {
          matches = swap-matching la away h s.matches b.item b.edge;
          tight = record {
            placed = λ i j. moved_all (λ i cell v. i < n → cell ≡ suc j → v + upd k y price j ≡ d * w i j) a x (suc k) g matching gain
                (λ l e. rw (← suc_inj e, upd_same) b.shares)
                (λ l e. absurd (omega arith))
                (λ i n₁ n₂ l e. rw (upd_other k y price j (λ q. n₂ (h.only i l (e ∙ ap suc q)))) (s.tight.placed i j l e))
                i;
            unplaced = moved_all (λ i cell v. i < n → cell ≡ 0 → v ≡ 0) a x (suc k) g matching gain
                (λ l e. absurd (omega arith))
                (λ l e. refl)
                (λ i n₁ n₂ l e. s.tight.unplaced i l e);
            unheld = λ j l none. let u = swap-unheld la away h j none in rw (upd_other k y price j u.0) (s.tight.unheld j l u.1);
          };
          covers = λ i j. moved_all (λ i cell v. i < n → j < m → 0 < w i j → waits' i ⊎ (c * w i j ≤ v + upd k y price j)) a x (suc k) g matching gain
              (λ l lj hw. inr (b.row j lj hw))
              (λ l lj hw. inl ((next x l).1 (inl refl)))
              (λ i n₁ n₂ l lj hw. ⊎_map (λ q. (next i l).1 (inr (n₁, q))) (λ h. omega (arith, upd-ge k y price b.rises j)) (s.covers i j l lj hw))
              i;
          away = moved_all (λ i cell v. i < n → waits' i → cell ≡ 0) a x (suc k) g matching gain
              (λ l q. absurd (⊎_elim (λ e. swap-ne la away h (sym e)) (λ r. r.0 refl) ((next a l).0 q)))
              (λ l q. refl)
              (λ i n₁ n₂ l q. ⊎_elim (λ e. absurd (n₂ e)) (λ r. s.away i l r.1) ((next i l).0 q));
        }
      where
        away : matching a ≡ 0
        away = s.away a la here
