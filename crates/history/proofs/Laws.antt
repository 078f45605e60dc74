-- What is printed ends, is no longer than a constant, and its figures hold.
use mathlib.Core.Path.{◌≡◌, refl, sym, ap, subst}
use mathlib.Core.Bool.{Bool, true, false}
use mathlib.Core.List.{[], ◌∷◌}
use Prim.Native.Nat.{ℕ, zero, suc, ◌+◌, ◌-◌, ◌*◌, ◌^◌, ◌≤◌, ◌<◌}
use native.Mathlib.Nat.{le_trans}
use native.Mathlib.Omega.{arith}
use lib.ListN.{length, length-append}
use Rattle.text.specs.Limits.{max_line}
use Rattle.text.specs.Print.{line_of}
use Rattle.text.proofs.Decimals.{most}
use Rattle.duality.proofs.Sums.{sum_to-term}
use Rattle.places.proofs.GreatestWeightWith.{greatest-weight-with}
use Rattle.supply.specs.declared.record.Board.{Board}
use Rattle.board.specs.Limits.{max_items, max_bidders, max_weight}
use Rattle.board.specs.Cells as place
use Rattle.supply.specs.Board.{auction_of, places_at, start_in}
use Rattle.supply.specs.ByItem.{withdrawn_at, gain_at, price_at, live, matching_of, matching_weight}
use Rattle.supply.specs.Sound.{Sound}
use Rattle.supply.proofs.ByItem.{places-as-item, first-place, price-most}
use Rattle.auction.proofs.Demand2.{sound-demand-2}
use Rattle.auction.proofs.Histories.{history-demand-2}
use Rattle.replay.proofs.ReplayLines.{bids-fit}
use Rattle.replay.proofs.ReplayLaws.{replay_ends}
use Rattle.hungarian.specs.Exact.{greatest_on}
use Rattle.history.specs.Limits.{max_output}
use Rattle.history.specs.Output.{bidder_lines, item_line, item_lines, sum_of, output_of}
use Rattle.history.specs.Plan.{plan_from, plan_of}
use Rattle.history.specs.Laws.{PlanEnds, OutputFits, AcceptedIsWritten, PrintedFigures}
use Rattle.history.proofs.Boards.{weight-most, weight-any, sum_is, sum-most-is}
use Rattle.history.proofs.Plans.{fit_written, text-reached, plan-finished}

pub plan_ends : PlanEnds
unfolding plan_of plan_from
plan_ends s out = let r = replay_ends s in (_, ap (plan_from out) r.1)

-- ---- Lengths

-- a number that 64 bits hold
abbrev Wide : ℕ → Type 0
Wide n = n < 2 ^ 64

one_field : (c x : ℕ) → Wide x → length (line_of c (x ∷ [])) ≤ max_line
one_field c x h = rw (length-append, length-append) (omega (arith, most x h))

two_fields : (c x y : ℕ) → Wide x → Wide y → length (line_of c (x ∷ y ∷ [])) ≤ max_line
two_fields c x y h g = rw (length-append, length-append, length-append) (omega (arith, most x h, most y g))

three-fields : (c x y z : ℕ) → Wide x → Wide y → Wide z → length (line_of c (x ∷ y ∷ z ∷ [])) ≤ max_line
three-fields c x y z h g f = rw (length-append, length-append, length-append, length-append) (omega (arith, most x h, most y g, most z f))

bidders-length : (n : ℕ) (f g : ℕ → ℕ) → n ≤ max_bidders → ((i : ℕ) → i < n → Wide (f i) × Wide (g i)) → length (bidder_lines f g n) ≤ max_line * n
unfolding bidder_lines
bidders-length zero f g l h = omega arith
bidders-length (suc n) f g l h =
    let w = h n (omega arith) in
    rw length-append (omega (arith, bidders-length n f g (omega arith) (λ i u. h i (omega arith)), three-fields 80 (n + 1) (f n) (g n) (omega arith) w.0 w.1))

item-length : (w : Bool) (k y : ℕ) → Wide k → Wide y → length (item_line w k y) ≤ max_line
item-length true k y h g = omega arith
item-length false k y h g = two_fields 89 k y h g

items-length : (n : ℕ) (w : ℕ → Bool) (f : ℕ → ℕ) → n ≤ max_items → ((k : ℕ) → k < n → Wide (f k)) → length (item_lines w f n) ≤ max_line * n
unfolding item_lines
items-length zero w f l h = omega arith
items-length (suc n) w f l h =
    rw length-append (omega (arith, items-length n w f (omega arith) (λ i u. h i (omega arith)), item-length (w n) (n + 1) (f n) (omega arith) (h n (omega arith))))

matched-wide : (b : Board) → Sound b → (i : ℕ) → i < b.market.arrived → Wide (matching_of b i)
matched-wide b s i l = go (matching_of b i) refl
  where
    go : (c : ℕ) → matching_of b i ≡ c → Wide c
    go zero e = omega arith
    go (suc k) e = omega (arith, ((sound-demand-2 b s).plan.along i k l e).0, s.laid.count.high)

greatest-most : (b : Board) → Sound b → greatest_on b ≤ max_bidders * max_weight
greatest-most b s = let g = (greatest-weight-with b.market.arrived b.items.count (places_at b) (live b)).attained in subst (λ (x : ℕ). x ≤ max_bidders * max_weight) g.2 (weight-any b s g.0 g.1)

price-wide : (b : Board) → Sound b → (k : ℕ) → k < b.items.count → Wide (price_at b k)
price-wide b s k l =
    let first = first-place b k s l in
    let p = start_in b.items k in
    omega (
      arith,
      price-most b s k l p first,
      sum_to-term b.market.items p (place.price_at (auction_of b)) (places-as-item b k p s l first).below,
      sum-most-is b s,
    )

output-length : (b : Board) (bids : ℕ) → Sound b → Wide bids → length (output_of b bids) ≤ max_output
unfolding output_of
output-length b bids s w =
    let m = sum-most-is b s in
    let prices : (k : ℕ) → k < b.items.count → Wide (price_at b k) = λ k l. price-wide b s k l in
    let gains : (i : ℕ) → i < b.market.arrived → Wide (gain_at b i) = λ i l. omega (arith, sum_to-term b.market.arrived i (gain_at b) l) in
    rw (length-append, length-append, length-append) (
    omega (
      arith,
      bidders-length b.market.arrived (matching_of b) (gain_at b) s.auction.arrived (λ i l. (matched-wide b s i l, gains i l)),
      items-length b.items.count (withdrawn_at b) (price_at b) s.laid.count.high prices,
      three-fields 84 (matching_weight b) (sum_of b) bids (omega (arith, weight-most b s)) (omega arith) w,
      one_field 69 (greatest_on b) (omega (arith, greatest-most b s)),
      s.auction.arrived,
      s.laid.count.high,
    ))

pub output-fits : OutputFits
output-fits s r (e, f) =
    let h = text-reached s r e f in
    output-length r.board r.bids (history-demand-2 r.board h.entries r.bids h.reached).sound (omega (arith, bids-fit (h.entries, h.reached)))

pub accepted-is-written : AcceptedIsWritten
accepted-is-written s out r (e, f) l =
    sym (plan-finished s out r (sym e) _ _ f (sym (fit_written (output_of r.board r.bids) out (le_trans (output-fits s r (e, f)) l))))

-- ---- Figures

-- The share, of the greatest weight
pub greatest-share : (b : Board) → Sound b → (b.market.slack.q - b.market.slack.p) * greatest_on b ≤ (b.market.slack.q + b.market.slack.p) * matching_weight b
greatest-share b s =
    let (plan, p, e) = (greatest-weight-with b.market.arrived b.items.count (places_at b) (live b)).attained in
    rw (← e) ((sound-demand-2 b s).share plan p)

pub printed-figures : PrintedFigures
printed-figures s r (e, f) =
    let h = text-reached s r e f in
    let b = r.board in
    let d = history-demand-2 b h.entries r.bids h.reached in
    record { sum = sum_is b d.sound; share = greatest-share b d.sound; text = h; few = d.bids }
