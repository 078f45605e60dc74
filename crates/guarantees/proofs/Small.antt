-- Small sheets come out exact: by the share the quick plan is worth less than 1 less than the greatest worth.
use Rattle.std.specs.Prelude.{Ok}
use mathlib.Core.Path.{◌≡◌, refl, ap, ◌∙◌}
use mathlib.Core.List.{◌++◌}
use mathlib.Core.Logic.{◌↔◌}
use Prim.Native.Nat.{ℕ, zero, suc, ◌+◌, ◌-◌, ◌*◌, ◌≤◌, ◌<◌}
use native.Mathlib.Omega.{arith}
use Rattle.places.specs.GreatestWeightWith.{IsGreatestWith}
use Rattle.places.proofs.GreatestWeightWith.{greatest-weight-with}
use Rattle.supply.specs.Board.{places_at}
use Rattle.supply.specs.ByItem.{live, withdrawn_at, gain_at, price_at, matching_of, matching_weight}
use Rattle.auction.specs.Demand2.{QuickBoard}
use Rattle.auction.proofs.Demand2.{sound-demand-2}
use Rattle.auction.proofs.Histories.{history-demand-2}
use Rattle.replay.specs.ReplayLaws.{TextReached}
use Rattle.replay.proofs.Texts.{finished-text}
use Rattle.hungarian.specs.Exact.{greatest_on}
use Rattle.history.specs.Output.{bidder_lines, item_lines, last_lines, sum_of, output_of}
use Rattle.history.proofs.Demand1.{sheets-demand-1}
use Rattle.history.proofs.Laws.{greatest-share}
use Rattle.history.proofs.Plans.{text-reached}
use Rattle.guarantees.specs.Small.{SmallIsExact, SmallBySlack, SmallPrinted}

-- r is q - p, and d is what the quick plan, worth w, falls short by: (q + p) × d ≤ 2 × p × (w + d) < q + p
none-short : (p r w d : ℕ) → r * (w + d) ≤ (p + r + p) * w → 2 * p * (w + d) < p + r + p → d ≡ 0
none-short p r w zero share small = refl
none-short p r w (suc d) share small = omega (arith, share, small)

no_less : (p q w e : ℕ) → p ≤ q → w ≤ e → (q - p) * e ≤ (q + p) * w → 2 * p * e < q + p → w ≡ e
no_less p q w e l m share small =
    let all : w + (e - w) ≡ e = omega arith in
    let both : p + (q - p) + p ≡ q + p = omega arith in
    let none = none-short p (q - p) w (e - w) (rw (all, both) share) (rw (all, both) small) in
    omega (arith, none)

pub small-is-exact : SmallIsExact
small-is-exact b s small =
    record {
      plan = quick.plan;
      greatest = same;
      best = λ other m. rw same (most.bound other m);
    }
  where
    quick : QuickBoard b
    quick = sound-demand-2 b s

    most : IsGreatestWith b.market.arrived b.items.count (places_at b) (live b)
    most = greatest-weight-with b.market.arrived b.items.count (places_at b) (live b)

    same : matching_weight b ≡ greatest_on b
    same = no_less b.market.slack.p b.market.slack.q (matching_weight b) (greatest_on b) (omega (arith, s.auction.slack.below)) (most.bound (matching_of b) quick.plan) (greatest-share b s) (omega (arith, small))

-- 2 × p × e < q + p is p × (2 × e - 1) < q
by-slack : (p q e : ℕ) → 0 < q → (2 * p * e < q + p) ↔ (p * (2 * e - 1) < q)
by-slack p q zero l = (λ h. omega (arith, l), λ h. omega (arith, l))
by-slack p q (suc e) l =
    let less : 2 * suc e - 1 ≡ 2 * e + 1 = omega arith in
    (λ h. rw less (omega (arith, h)), λ h. let k : p * (2 * e + 1) < q = rw less at h in omega (arith, k))

-- With p = 1 it is 2 × e ≤ q
at_one : (p q e : ℕ) → p ≡ 1 → (2 * p * e < q + p) ↔ (2 * e ≤ q)
at_one p q e one = rw one (λ h. omega (arith, h), λ h. omega (arith, h))

pub small-by-slack : SmallBySlack
small-by-slack b s =
    record {
      below = by-slack b.market.slack.p b.market.slack.q (greatest_on b) (omega (arith, s.auction.slack.below));
      one = at_one b.market.slack.p b.market.slack.q (greatest_on b);
    }

-- ---- What is printed

pub small-printed : SmallPrinted
unfolding output_of
small-printed s b entries bids t small =
    let sound = (history-demand-2 b reached.entries bids reached.reached).sound in
    (sheets-demand-1 s).plans b entries bids t
    ∙ ap (λ w. bidder_lines (matching_of b) (gain_at b) b.market.arrived ++ (item_lines (withdrawn_at b) (price_at b) b.items.count ++ last_lines w (sum_of b) bids (greatest_on b)))
    (small-is-exact b sound small).greatest
  where
    reached : TextReached s b bids
    reached = text-reached s (record { board = b; answer = Ok tt; bids = bids }) (finished-text t) refl
