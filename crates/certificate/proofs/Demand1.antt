-- Demand 1 of the check, from the one law of verdicts.
use Rattle.std.specs.Prelude.{Err, Ok}
use mathlib.Core.Path.{◌≡◌, refl, ap}
use mathlib.Core.Bool.{true}
use mathlib.Core.Logic.{◌⊎◌, inl, inr, ⊎_elim}
use Prim.Native.Nat.{ℕ, zero, suc, ◌+◌, ◌-◌, ◌*◌, ◌<◌}
use native.Mathlib.Nat.{suc_inj, mul-zero}
use native.Mathlib.Omega.{arith}
use lib.Dec.{leb}
use Rattle.duality.specs.Lists.{cells}
use Rattle.duality.proofs.Decide.{reword, true-decides}
use Rattle.duality.proofs.Fails.{Fails, not-fails, refail, fail-le, fail-eq, fail-not, fail-and, fail-or, fail-all}
use Rattle.places.specs.PlanTest.{cell_test_with}
use Rattle.supply.specs.declared.record.Board.{Board}
use Rattle.refusals.specs.declared.Refusal.{Refusal}
use Rattle.refusals.specs.declared.Refusal.TheVariants.{Slack, Uneven, Clash, Price, Bare, Spoilt}
use Rattle.supply.specs.Board.{places_at}
use Rattle.supply.specs.ByItem.{withdrawn_at, live}
use Rattle.supply.specs.Sound.{Sound}
use Rattle.board.specs.Ranges.{SlackIn}
use Rattle.refusals.specs.Demand1.{first_of, Verdict}
use Rattle.board.specs.Lent.{Lists}
use Rattle.board.proofs.Tests.{no-decides, slack-decides}
use Rattle.supply.proofs.SoundLaw.{sound-decides}
use Rattle.refusals.proofs.Verdicts.{Decided, next, decided-append, demand-1}
use Rattle.refusals.proofs.Places.{cells-decide, cells-codes, codes-both}
use Rattle.matching.specs.Clash.{Clashes, clash_checks}
use Rattle.matching.proofs.Clashes.{clashes-tested}
use Rattle.board.specs.Limits.{max_price}
use Rattle.certificate.specs.Check.{Even, PriceBad, Uncovered, CheckMet, price_test, price_checks, gain_checks, covered_test, bare_checks, list_checks, check_rest, check_checks, check_by, check_of}
use Rattle.certificate.specs.Demand1.{CheckDemand1, CheckOrder}
use Rattle.certificate.proofs.Tests.{lists-even}
use Rattle.certificate.proofs.Outcomes.{checked-totals, checked_refused, by-totals}

-- ---- A row of the table is what its test's failure says.

module _ (b : Board) where
  price-fails : (prices : ℕ → ℕ) (k : ℕ) → Fails (price_test (withdrawn_at b) prices k) (PriceBad b prices k)
  unfolding price_test
  price-fails prices k =
      refail
      (fail-and (fail-le (prices k) max_price) (fail-or (fail-not (true-decides (withdrawn_at b k))) (fail-eq (prices k) 0)))
      (⊎_elim (λ l. PriceBad.high l) (λ h. PriceBad.gone h.0 (omega (arith, h.1))))
      back
    where
      back : PriceBad b prices k → (max_price < prices k) ⊎ ((withdrawn_at b k ≡ true) × (prices k ≡ 0 → ⊥))
      back (PriceBad.high l) = inl l
      back (PriceBad.gone e l) = inr (e, λ z. omega arith)

  -- Where there is no edge nothing is asked
  some-edge : (c v s : ℕ) → s < c * v → 0 < v
  some-edge c zero s l = let e : c * 0 ≡ 0 = mul-zero c in absurd (omega arith)
  some-edge c (suc v) s l = omega arith

  bare-fails : (p q : ℕ) (prices gains : ℕ → ℕ) (i : ℕ) →
      Fails (covered_test b.items.count (live b i) p q prices (gains i)) (Uncovered b p q prices gains i)
  unfolding covered_test
  bare-fails p q prices gains i =
      refail
      (fail-all b.items.count _ _ (λ k. fail-le ((q - p) * live b i k) (gains i + prices k)))
      (λ s. record { item = s.at; below = s.below; edge = some-edge (q - p) (live b i s.at) _ s.holds; short = s.holds })
      (λ u. record { at = u.item; below = u.below; holds = u.short })

-- ---- The checks' tests decide the rows.

module _ (b : Board) (l : Lists) (p q : ℕ) where
  unsound : CheckMet b l p q Spoilt → Sound b → ⊥
  unsound (CheckMet.spoilt f) = f

  slack-met : CheckMet b l p q Slack → SlackIn 0 p q → ⊥
  slack-met (CheckMet.slack f) = f

  uneven-met : CheckMet b l p q Uneven → Even b l → ⊥
  uneven-met (CheckMet.uneven f) = f

  clash-met : (i : ℕ) → CheckMet b l p q (Clash (suc i)) → Clashes b (cells l.plan) i
  clash-met i (CheckMet.clash h x) = x

  bare-met : (i : ℕ) → CheckMet b l p q (Bare (suc i)) → Uncovered b p q (cells l.prices) (cells l.gains) i
  bare-met i (CheckMet.bare h x) = x

  -- A refusal 11 is an item's or a bidder's, by its place
  Priced : ℕ → Type 0
  Priced n =
      ((k : ℕ) × (k < b.items.count) × (n ≡ suc k) × PriceBad b (cells l.prices) k) ⊎
      ((i : ℕ) × (n ≡ b.items.count + suc i) × (max_price < cells l.gains i))

  priced : (n : ℕ) → CheckMet b l p q (Price n) → Priced n
  unfolding Priced
  priced n (CheckMet.price {k = k} h x) = inl (k, h, refl, x)
  priced n (CheckMet.gain i h x) = inr (i, refl, x)

  price-met : (k : ℕ) → k < b.items.count → CheckMet b l p q (Price (suc k)) → PriceBad b (cells l.prices) k
  unfolding Priced
  price-met k h m =
      ⊎_elim
      (λ (j, g, e, x). rw (suc_inj e) x)
      (λ (i, e, x). absurd (omega arith))
      (priced (suc k) m)

  gain-met : (i : ℕ) → CheckMet b l p q (Price (b.items.count + suc i)) → max_price < cells l.gains i
  unfolding Priced
  gain-met i m =
      ⊎_elim
      (λ (k, g, e, x). absurd (omega arith))
      (λ (j, e, x). let s : i ≡ j = omega arith in rw s x)
      (priced (b.items.count + suc i) m)

  clash-decided : Decided (CheckMet b l p q) (clash_checks b.items.count (places_at b) (live b) (cells l.plan) b.market.arrived)
  clash-decided =
      cells-decide _ (λ i. cell_test_with b.items.count (places_at b) (live b) (cells l.plan) i (cells l.plan i)) b.market.arrived
      (λ i h. reword (clashes-tested b (cells l.plan) i) (λ x. CheckMet.clash h x) (clash-met i))

  price-decided : Decided (CheckMet b l p q) (price_checks (withdrawn_at b) (cells l.prices) b.items.count)
  price-decided =
      cells-decide _ (price_test (withdrawn_at b) (cells l.prices)) b.items.count
      (λ k h. reword (not-fails (price-fails b (cells l.prices) k)) (λ x. CheckMet.price h x) (price-met k h))

  gain-decided : Decided (CheckMet b l p q) (gain_checks b.items.count (cells l.gains) b.market.arrived)
  gain-decided =
      cells-decide _ (λ i. leb (cells l.gains i) max_price) b.market.arrived
      (λ i h. reword (not-fails (fail-le (cells l.gains i) max_price)) (λ x. CheckMet.gain i h x) (gain-met i))

  bare-decided : Decided (CheckMet b l p q) (bare_checks b.items.count (live b) p q (cells l.prices) (cells l.gains) b.market.arrived)
  bare-decided =
      cells-decide _ (λ i. covered_test b.items.count (live b i) p q (cells l.prices) (cells l.gains i)) b.market.arrived
      (λ i h. reword (not-fails (bare-fails b p q (cells l.prices) (cells l.gains) i)) (λ x. CheckMet.bare h x) (bare-met i))

  check-decided : Decided (CheckMet b l p q) (check_checks b l p q)
  unfolding check_rest list_checks
  check-decided =
      next (reword (no-decides (sound-decides b)) (λ f. CheckMet.spoilt f) unsound)
      (next (reword (no-decides (slack-decides 0 p q)) (λ f. CheckMet.slack f) slack-met)
      (next (reword (no-decides (lists-even b l)) (λ f. CheckMet.uneven f) uneven-met)
      (decided-append clash-decided (decided-append price-decided (decided-append gain-decided bare-decided)))))

pub check-demand-1 : CheckDemand1
unfolding check_of check_by
check-demand-1 b l p q =
    demand-1 (check-decided b l p q)
    (λ r. (λ e. rw e, λ e. by-refused r (first_of (check_checks b l p q)) (checked_refused _ r e)))
    (λ e. rw e, λ e. by-totals b l (first_of (check_checks b l p q)) _ _ (checked-totals _ _ _ e))
  where
    by-refused : (r : Refusal) (v : Verdict) → check_by b l v ≡ Err r → v ≡ Err r
    by-refused r (Ok tt) e = let z : ◌≡◌ {A = ℕ} 0 1 = cc in absurd (omega arith)
    by-refused r (Err s) e = let h : s ≡ r = cc in ap Err h

-- ---- The order of the checks

pub check_order : CheckOrder
unfolding check_rest list_checks
check_order b l p q =
    let n = b.market.arrived in
    let m = b.items.count in
    rw (
      codes-both,
      codes-both,
      codes-both,
      cells-codes (λ i. Clash (suc i)) (λ i. cell_test_with m (places_at b) (live b) (cells l.plan) i (cells l.plan i)) 10 suc (λ j. refl) (λ j. refl) n,
      cells-codes (λ k. Price (suc k)) (price_test (withdrawn_at b) (cells l.prices)) 11 suc (λ j. refl) (λ j. refl) m,
      cells-codes (λ i. Price (m + suc i)) (λ i. leb (cells l.gains i) max_price) 11 (λ i. m + suc i) (λ j. refl) (λ j. omega arith) n,
      cells-codes (λ i. Bare (suc i)) (λ i. covered_test m (live b i) p q (cells l.prices) (cells l.gains i)) 12 suc (λ j. refl) (λ j. refl) n,
    )
