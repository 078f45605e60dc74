-- Of weights only the cells of the first n bidders and the first m items count.
use mathlib.Core.Path.{◌≡◌, refl, sym, ap, ap₂, ◌∙◌}
use mathlib.Core.Logic.{by_cases}
use Prim.Native.Nat.{ℕ, zero, suc, ◌+◌, ◌<◌, max}
use native.Mathlib.Decide.{ℕ_discrete}
use native.Mathlib.Omega.{arith}
use Rattle.duality.specs.Sums.{upd}
use Rattle.duality.specs.Matching.{at_cell, IsMatching, weight_of}
use Rattle.duality.specs.Cover.{Covers, Tight}
use Rattle.duality.specs.Greatest.{greatest_of, greatest_weight}
use Rattle.duality.proofs.Sums.{sum_to-eq, upd_same, upd_other}

-- The same weights at every cell that counts
abbrev pub SameWeights : ℕ → ℕ → (ℕ → ℕ → ℕ) → (ℕ → ℕ → ℕ) → Type 0
SameWeights n m w v = (i k : ℕ) → i < n → k < m → v i k ≡ w i k

pub matching-over : {n m : ℕ} {w v : ℕ → ℕ → ℕ} {f : ℕ → ℕ} → SameWeights n m w v → IsMatching n m w f → IsMatching n m v f
matching-over e p =
    record {
      along = λ i k l h. let (lk, hw) = p.along i k l h in (lk, rw (e i k l lk) hw);
      once = p.once;
    }

pub covers-over : (n m : ℕ) (w v : ℕ → ℕ → ℕ) (c : ℕ) (price gain : ℕ → ℕ) → SameWeights n m w v → Covers n m w c price gain → Covers n m v c price gain
covers-over n m w v c price gain e covers i k l lk hw = rw (e i k l lk) (covers i k l lk (rw (e i k l lk) at hw))

pub tight-over : {n m : ℕ} {w v : ℕ → ℕ → ℕ} {d : ℕ} {f price gain : ℕ → ℕ} → SameWeights n m w v → IsMatching n m w f →
    Tight n m w d f price gain → Tight n m v d f price gain
tight-over e p t =
    record {
      placed = λ i k l h. rw (e i k l (p.along i k l h).0) (t.placed i k l h);
      unplaced = t.unplaced;
      unheld = t.unheld;
    }

-- A cell of a matching weighs the same
pub cell-over : {n m : ℕ} {w v : ℕ → ℕ → ℕ} {f : ℕ → ℕ} → SameWeights n m w v → IsMatching n m w f → (i : ℕ) → i < n → at_cell (v i) (f i) ≡ at_cell (w i) (f i)
cell-over {n} {m} {w} {v} {f} e p i l = go (f i) refl
  where
    go : (c : ℕ) → f i ≡ c → at_cell (v i) c ≡ at_cell (w i) c
    go zero q = refl
    go (suc k) q = e i k l (p.along i k l q).0

pub weight-over : (n m : ℕ) (w v : ℕ → ℕ → ℕ) (f : ℕ → ℕ) → SameWeights n m w v → IsMatching n m w f → weight_of n v f ≡ weight_of n w f
weight-over n m w v f e p = sum_to-eq n _ _ (cell-over e p)

greatest_of-eq : (x y m : ℕ) (f g : ℕ → ℕ) → x ≡ y → ((k : ℕ) → k < m → f k ≡ g k) → greatest_of x m f ≡ greatest_of y m g
greatest_of-eq x y zero f g e h = e
greatest_of-eq x y (suc m) f g e h = ap₂ max (greatest_of-eq x y m f g e (λ k l. h k (omega arith))) (h m (omega arith))

upd-eq : (k u m : ℕ) (f g : ℕ → ℕ) → ((j : ℕ) → j < m → f j ≡ g j) → (j : ℕ) → j < m → upd k u f j ≡ upd k u g j
upd-eq k u m f g h j l =
    by_cases (ℕ_discrete j k)
    (λ (e : j ≡ k). ap (upd k u f) e ∙ upd_same k u f ∙ sym (ap (upd k u g) e ∙ upd_same k u g))
    (λ ne. upd_other k u f j ne ∙ h j l ∙ sym (upd_other k u g j ne))

pub greatest-over : (n m : ℕ) (w v : ℕ → ℕ → ℕ) → SameWeights n m w v → greatest_weight n m v ≡ greatest_weight n m w
greatest-over zero m w v e = refl
greatest-over (suc n) m w v e =
    greatest_of-eq _ _ m _ _
    (greatest-over n m (λ i. w (suc i)) (λ i. v (suc i)) (λ i k l lk. e (suc i) k (omega arith) lk))
    (λ k lk. ap₂ ◌+◌ (e 0 k (omega arith) lk)
    (greatest-over n m (λ i. upd k 0 (w (suc i))) (λ i. upd k 0 (v (suc i)))
    (λ i j l lj. upd-eq k 0 m (v (suc i)) (w (suc i)) (λ h lh. e (suc i) h (omega arith) lh) j lj)))
