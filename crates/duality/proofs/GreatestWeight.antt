-- (f) The greatest weight is what its name says.
use mathlib.Core.Path.{◌≡◌, refl, ap, ◌∙◌}
use mathlib.Core.Logic.{⊎_elim, by_cases}
use Prim.Native.Nat.{ℕ, zero, suc, ◌+◌, ◌≤◌, ◌<◌}
use native.Mathlib.Nat.{suc_inj, not-suc-le-zero, eq-zero-or-pos}
use native.Mathlib.Decide.{ℕ_discrete}
use native.Mathlib.Omega.{arith}
use Rattle.duality.specs.Sums.{upd}
use Rattle.duality.specs.Matching.{at_cell, IsMatching, weight_of}
use Rattle.duality.specs.Cover.{Covers, total}
use Rattle.duality.specs.StrongDuality.{Equal}
use Rattle.duality.specs.Greatest.{greatest_of, greatest_weight}
use Rattle.duality.specs.GreatestWeight.{GreatestWeight}
use Rattle.duality.proofs.Below.{one_more}
use Rattle.duality.proofs.Sums.{sum_to-eq, sum_to-head, sum_to-upd, upd_same, upd_other, at_cell-upd}
use Rattle.duality.proofs.StrongDuality.{strong-duality}

pub greatest_of-first : (x m : ℕ) (f : ℕ → ℕ) → x ≤ greatest_of x m f
greatest_of-first x zero f = omega arith
greatest_of-first x (suc m) f = omega (arith, greatest_of-first x m f)

pub greatest_of-ge : (x m : ℕ) (f : ℕ → ℕ) (k : ℕ) → k < m → f k ≤ greatest_of x m f
greatest_of-ge x zero f k l = absurd (not-suc-le-zero l)
greatest_of-ge x (suc m) f k l = one_more m (λ k. f k ≤ greatest_of x (suc m) f) (λ k l. omega (arith, greatest_of-ge x m f k l)) (omega arith) k l

pub greatest_of-le : (x m : ℕ) (f : ℕ → ℕ) (t : ℕ) → x ≤ t → ((k : ℕ) → k < m → f k ≤ t) → greatest_of x m f ≤ t
greatest_of-le x zero f t h g = h
greatest_of-le x (suc m) f t h g = omega (arith, greatest_of-le x m f t h (λ k l. g k (omega arith)), g m (omega arith))

-- It is at most what any cover totals
pub greatest-le-total : (n m : ℕ) (w : ℕ → ℕ → ℕ) (price gain : ℕ → ℕ) → Covers n m w 1 price gain → greatest_weight n m w ≤ total n m price gain
greatest-le-total zero m w price gain covers = omega arith
greatest-le-total (suc n) m w price gain covers =
    greatest_of-le _ m _ _
    (omega (arith, sum_to-head n gain, greatest-le-total n m (λ i. w (suc i)) price (λ i. gain (suc i)) (λ i k l. covers (suc i) k (omega arith))))
    (λ k lk. omega (
      arith,
      sum_to-head n gain,
      sum_to-upd m k 0 price lk,
      own k lk,
      greatest-le-total n m (λ i. upd k 0 (w (suc i))) (upd k 0 price) (λ i. gain (suc i)) (other k),
    ))
  where
    own : (k : ℕ) → k < m → w 0 k ≤ gain 0 + price k
    own k lk = ⊎_elim (λ z. omega arith) (λ hw. omega (arith, covers 0 k (omega arith) lk hw)) (eq-zero-or-pos (w 0 k))

    other : (k : ℕ) → Covers n m (λ i. upd k 0 (w (suc i))) 1 (upd k 0 price) (λ i. gain (suc i))
    other k i j l lj hw =
        by_cases (ℕ_discrete j k)
        (λ (e : j ≡ k). absurd (omega (arith, ap (upd k 0 (w (suc i))) e ∙ upd_same k 0 (w (suc i)))))
        (λ ne. rw (upd_other k 0 (w (suc i)) j ne, upd_other k 0 price j ne) (covers (suc i) j (omega arith) lj (rw (upd_other k 0 (w (suc i)) j ne) at hw)))

-- It is at least what any matching weighs
pub weight-le-greatest : (n m : ℕ) (w : ℕ → ℕ → ℕ) (matching : ℕ → ℕ) → IsMatching n m w matching → weight_of n w matching ≤ greatest_weight n m w
weight-le-greatest zero m w matching p = omega arith
weight-le-greatest (suc n) m w matching p = go (matching 0) refl (λ v h. weight-le-greatest n m v (λ i. matching (suc i)) (rest v h))
  where
    -- the other bidders' cells are a matching on any weights that have the edges that they use
    rest : (v : ℕ → ℕ → ℕ) → ((i k : ℕ) → i < n → matching (suc i) ≡ suc k → 0 < v i k) → IsMatching n m v (λ i. matching (suc i))
    rest v h =
        record {
          along = λ i k l e. ((p.along (suc i) k (omega arith) e).0, h i k l e);
          once = λ b i k lb li e₁ e₂. suc_inj (p.once (suc b) (suc i) k (omega arith) (omega arith) e₁ e₂);
        }

    go : (c : ℕ) → matching 0 ≡ c
        → ((v : ℕ → ℕ → ℕ) → ((i k : ℕ) → i < n → matching (suc i) ≡ suc k → 0 < v i k) → weight_of n v (λ i. matching (suc i)) ≤ greatest_weight n m v)
        → weight_of (suc n) w matching ≤ greatest_weight (suc n) m w
    go zero e ih =
        omega (
          arith,
          sum_to-head n (λ i. at_cell (w i) (matching i)),
          ap (at_cell (w 0)) e,
          ih (λ i. w (suc i)) (λ i k l e₂. (p.along (suc i) k (omega arith) e₂).1),
          greatest_of-first (greatest_weight n m (λ i. w (suc i))) m (λ k. w 0 k + greatest_weight n m (λ i. upd k 0 (w (suc i)))),
        )
    go (suc k) e ih =
        omega (
          arith,
          sum_to-head n (λ i. at_cell (w i) (matching i)),
          ap (at_cell (w 0)) e,
          ih (λ i. upd k 0 (w (suc i))) (λ i j l e₂. rw (upd_other k 0 (w (suc i)) j (λ q. alone i l (e₂ ∙ ap suc q))) (p.along (suc i) j (omega arith) e₂).1),
          sum_to-eq n (λ i. at_cell (upd k 0 (w (suc i))) (matching (suc i))) (λ i. at_cell (w (suc i)) (matching (suc i))) (λ i l. at_cell-upd k 0 (matching (suc i)) (w (suc i)) (alone i l)),
          greatest_of-ge (greatest_weight n m (λ i. w (suc i))) m (λ k. w 0 k + greatest_weight n m (λ i. upd k 0 (w (suc i)))) k (p.along 0 k (omega arith) e).0,
        )
      where
        alone : (i : ℕ) → i < n → matching (suc i) ≡ suc k → ⊥
        alone i l e₂ = omega (arith, p.once (suc i) 0 k (omega arith) (omega arith) e₂ e)

pub greatest-weight : GreatestWeight
greatest-weight n m w =
    record {
      bound = weight-le-greatest n m w;
      attained = let (matching, price, gain, e) = strong-duality n m w in (matching, e.matches, e.same ∙ equal matching price gain e);
      equal = equal;
    }
  where
    equal : (matching price gain : ℕ → ℕ) → Equal n m w matching price gain → total n m price gain ≡ greatest_weight n m w
    equal matching price gain e = omega (arith, e.same, weight-le-greatest n m w matching e.matches, greatest-le-total n m w price gain e.covers)
