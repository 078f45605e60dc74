-- At every factor c all bidders can be settled, tight at c + 1 and covered at c: by an auction. At first all wait. Whoever waits bids or stays out,
-- in any order; a bid raises a price, and prices have a bound.
use mathlib.Core.Path.{◌≡◌, refl}
use mathlib.Core.Logic.{◌↔◌, ◌≢◌, ◌⊎◌, inl, inr, ⊎_elim}
use Prim.Native.Nat.{ℕ, zero, suc, ◌+◌, ◌-◌, ◌*◌, ◌≤◌, ◌<◌}
use native.Mathlib.Nat.{le_refl}
use native.Mathlib.Decide.{dec_lt}
use native.Mathlib.Omega.{arith}
use Rattle.duality.specs.Sums.{sum_to, upd}
use Rattle.duality.specs.Matching.{IsMatching}
use Rattle.duality.specs.Cover.{Covers, Tight}
use Rattle.duality.proofs.Below.{find, peak}
use Rattle.duality.proofs.Sums.{sum_to-upd, sum_to-upd-le, sum_to-term, sum_to-lt, upd_same, upd-all, upd-ge}
use Rattle.duality.proofs.Exchange.{holder, moved, swapped}
use Rattle.duality.proofs.Bid.{SettledBut, Bid, all_settled, stays_out, bids}

-- Flags of who waits, 0 for who does not: a no longer does
less : (a : ℕ) (t : ℕ → ℕ) (i : ℕ) → (0 < upd a 0 t i) ↔ ((i ≢ a) × (0 < t i))
less a t = upd-all (λ i v. (0 < v) ↔ ((i ≢ a) × (0 < t i))) a 0 t (λ l. absurd (omega arith), λ r. absurd (r.0 refl)) (λ i ne. (λ l. (ne, l), λ r. r.1))

-- And x does instead
instead : (a x : ℕ) (t : ℕ → ℕ) (i : ℕ) → (0 < moved x 1 a t i) ↔ ((i ≡ x) ⊎ ((i ≢ a) × (0 < t i)))
instead a x t =
    upd-all (λ i v. (0 < v) ↔ ((i ≡ x) ⊎ ((i ≢ a) × (0 < t i)))) x 1 (upd a 0 t)
    (λ l. inl refl, λ q. omega arith)
    (λ i ne. (λ l. inr ((less a t i).0 l), λ q. ⊎_elim (λ e. absurd (ne e)) (λ r. (less a t i).1 r) q))

module _ (n m : ℕ) (w : ℕ → ℕ → ℕ) (c : ℕ) where
  -- Nobody waits
  abbrev pub SettledFully : Type 0
  SettledFully = (matching : ℕ → ℕ) × (price : ℕ → ℕ) × (gain : ℕ → ℕ)
      × IsMatching n m w matching × Tight n m w (suc c) matching price gain × Covers n m w c price gain

  -- The bound of a price, and how far the prices are from it
  abbrev bound : ℕ
  bound = sum_to n (λ i. sum_to m (λ k. suc c * w i k))

  abbrev room : (ℕ → ℕ) → ℕ
  room price = sum_to m (λ k. bound - price k)

  -- Bidder a's bid: for an item at which c times the weight is furthest above the price, which rises by the weight
  offer : (a k : ℕ) (price : ℕ → ℕ) → k < m → 0 < c * w a k - price k → ((j : ℕ) → j < m → c * w a j - price j ≤ c * w a k - price k)
      → Bid m w c (suc c) price a k (c * w a k - price k) (price k + w a k)
  offer a k price lk pos top =
      record {
        item = lk;
        edge = edge (w a k) pos;
        shares = omega arith;
        rises = omega arith;
        row = λ j lj hw. omega (arith, top j lj, upd-ge k (price k + w a k) price (omega arith) j);
      }
    where
      edge : (v : ℕ) → 0 < c * v - price k → 0 < v
      edge zero h = omega arith
      edge (suc v) h = omega arith

  less-room : (a k : ℕ) (price : ℕ → ℕ) → a < n → k < m → 0 < c * w a k - price k → 0 < w a k → room (upd k (price k + w a k) price) < room price
  less-room a k price la lk pos edge =
      sum_to-lt m k _ _ (λ j lj. omega (arith, upd-ge k (price k + w a k) price (omega arith) j)) lk
      (rw upd_same (omega (arith, sum_to-term m k (λ k. suc c * w a k) lk, sum_to-term n a (λ i. sum_to m (λ k. suc c * w i k)) la)))

  -- t flags who waits
  abbrev State : (t matching price gain : ℕ → ℕ) → Type 0
  State t matching price gain = SettledBut n m w c (suc c) (λ i. 0 < t i) matching price gain

  module _ (t matching price gain : ℕ → ℕ) (s : State t matching price gain)
      (more : (t' matching' price' gain' : ℕ → ℕ) → State t' matching' price' gain' → room price' + sum_to n t' < room price + sum_to n t → SettledFully) where
    turn : (a : ℕ) → a < n → 0 < t a → SettledFully
    turn a la here =
        ⊎_elim
        (λ z. more (upd a 0 t) matching price gain
        (stays_out s la here (λ i. 0 < upd a 0 t i) (λ j lj. omega (arith, z j lj)) (λ i l. less a t i))
        (omega (arith, sum_to-upd n a 0 t la)))
        (λ p. let (k, lk, pos, top) = p in
        let (x, h) = holder s.matches k in
        let b = offer a k price lk pos top in
        more (moved x 1 a t) (swapped a k x matching) (upd k (price k + w a k) price) (moved a (c * w a k - price k) x gain)
        (bids s la here (λ i. 0 < moved x 1 a t i) b h (λ i l. instead a x t i))
        (omega (arith, less-room a k price la lk pos b.edge, sum_to-upd-le n x 1 (upd a 0 t), sum_to-upd n a 0 t la)))
        (peak (λ j. c * w a j - price j) m)

    step : SettledFully
    step =
        ⊎_elim
        (λ f. turn f.0 f.1 f.2)
        (λ none. (matching, price, gain, s.matches, s.tight, all_settled s none))
        (find (λ i. 0 < t i) (λ i. dec_lt 0 (t i)) n)

  run : (fuel : ℕ) (t matching price gain : ℕ → ℕ) → State t matching price gain → room price + sum_to n t ≤ fuel → SettledFully
  run zero t matching price gain s h = step t matching price gain s (λ t' matching' price' gain' s' l. absurd (omega arith))
  run (suc f) t matching price gain s h = step t matching price gain s (λ t' matching' price' gain' s' l. run f t' matching' price' gain' s' (omega arith))

  pub settlement : SettledFully
  settlement = run _ (λ i. 1) (λ i. 0) (λ k. 0) (λ i. 0) start (le_refl _)
    where
      start : State (λ i. 1) (λ i. 0) (λ k. 0) (λ i. 0)
      start =
          record {
            matches = record {
              along = λ i k l e. absurd (omega arith);
              once = λ h i k l₁ l₂ e. absurd (omega arith);
            };
            tight = record {
              placed = λ i k l e. absurd (omega arith);
              unplaced = λ i l e. refl;
              unheld = λ k l u. omega arith;
            };
            covers = λ i k l lk hw. inl (omega arith);
            away = λ i l q. refl;
          }
