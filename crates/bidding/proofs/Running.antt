-- The loop of a chain over the lists of a state: what is known at its head, and what the four steps of a bid make of it.
use mathlib.Core.Path.{◌≡◌, refl, sym, ap, ◌∙◌}
use mathlib.Core.Bool.{false, cond}
use mathlib.Core.List.{List}
use mathlib.Core.Logic.{by_cases}
use Prim.Native.Nat.{ℕ, zero, suc, ◌+◌, ◌-◌, ◌*◌, ◌<◌, ◌≤◌}
use native.Mathlib.Nat.{mul-le-mul}
use native.Mathlib.Decide.{ℕ_discrete, dec_lt}
use native.Mathlib.Omega.{arith}
use lib.ListN.{length, get_or, set, take, drop, length-set}
use lib.Seq.{get_or-set_same, get_or-set_other}
use Rattle.duality.specs.Lists.{cells}
use Rattle.duality.specs.Steps.{utility}
use Rattle.board.specs.declared.record.Auction.{Auction}
use Rattle.board.specs.declared.record.Market.{Market}
use Rattle.board.specs.declared.record.State.{State}
use Rattle.board.specs.declared.record.Holder.TheVariants.{Held, Free}
use Rattle.board.specs.declared.units.Pence.{Pence}
use Rattle.board.specs.declared.units.Scaled.{Scaled}
use Rattle.bidding.specs.declared.rule.Best.{Best}
use Rattle.std.proofs.Common.{Option, Some}
use Rattle.bidding.specs.Rule.{best_edge, raised_to, best_for, after_chain, done, settle_of, fuel_of}
use Rattle.board.specs.Limits.{max_items, max_bidders, max_weight, max_q, word_limit}
use Rattle.board.specs.Cells.{auction, price_at, holder_at, holder_of, flag_at, scaled, scaled_at}
use Rattle.board.specs.Live.{live, live_in}
use Rattle.board.specs.Lent.{written}
use Rattle.board.proofs.Written.{written_in, written-past, written-length}
use Rattle.bidding.specs.Waiting.{SoundBut}
use Rattle.bidding.specs.declared.floors.Floors.{Floors}
use Rattle.bidding.specs.Floors.{floor_of, pence_of, Least, InPence, Floored, Weighs}
use Rattle.bidding.specs.Leader.{Rates, rated_in}
use Rattle.bidding.specs.Slides.{test_open, pick_of, priced, handed_to, gains_to, handed_over}
use Rattle.bidding.proofs.AboveFloors.{pence-below}
use Rattle.bidding.proofs.Rating.{Rating, rating}
use Rattle.bidding.proofs.Choices.{best-at}
use Rattle.bidding.proofs.Frame.{open-edge, live-is, scaled-other}
use Rattle.bidding.proofs.Units.{scaled-same}
use Rattle.bidding.proofs.Slides.{test-then-pick, pick-as, handed-free, handed-held, state-steps}
use Rattle.bidding.proofs.Modest.{price-modest}
use Rattle.bidding.proofs.Turns.{Going, Found, found, turn-ends, turn_on, row-part, row-part-length}

-- At the loop's head
pub record Running (b₀ : Auction) (i₀ : ℕ) (market : Market) (weights : List ℕ) (state : State) (floors : Floors) (tested : List ℕ) (i bids : ℕ) : Type 0 where
  pub going : Going b₀ i₀ (auction market weights state) i bids
  pub floored : Floored market (scaled_at state.price) floors
  pub tested-size : length tested ≡ max_items
  pub blank : (k : ℕ) → market.items ≤ k → cells tested k ≡ 0

-- The floors after the price of an item has risen
floors-next : (p q : ℕ) (withdrawn : List ℕ) (price : List Scaled) (floors : List ℕ) (m k v : ℕ) → k < length price → k < length floors → flag_at withdrawn k ≡ false →
    Least p q withdrawn (scaled_at price) m floors → Least p q withdrawn (scaled_at (set price k (scaled v))) m (set floors k (floor_of p q v))
floors-next p q withdrawn price floors m k v lp lf live f j lj =
    by_cases (ℕ_discrete j k)
    (λ (e : j ≡ k). rw (e, get_or-set_same floors k (floor_of p q v) 0 lf, live, scaled-same price k v lp) refl)
    (λ ne. get_or-set_other floors k j (floor_of p q v) 0 ne ∙ f j lj ∙ sym (ap (λ y. cond (flag_at withdrawn j) max_weight (floor_of p q y)) (scaled-other price k v j ne)))

pence-next : (q : ℕ) (price : List Scaled) (pence : List ℕ) (m k v : ℕ) → k < length price → k < length pence → InPence q (scaled_at price) m pence →
    InPence q (scaled_at (set price k (scaled v))) m (set pence k (pence_of q v))
pence-next q price pence m k v lp lf f j lj =
    by_cases (ℕ_discrete j k)
    (λ (e : j ≡ k). rw (e, get_or-set_same pence k (pence_of q v) 0 lf, scaled-same price k v lp) refl)
    (λ ne. get_or-set_other pence k j (pence_of q v) 0 ne ∙ f j lj ∙ sym (ap (pence_of q) (scaled-other price k v j ne)))

-- ---- Limits

-- The number of whoever holds an item
holder-small : {waits : ℕ → Type 0} {b : Auction} → SoundBut waits b → (k : ℕ) → k < b.market.items → holder_at b k ≤ max_bidders
holder-small {b = b} s k l = go (holder_at b k) refl
  where
    go : (h : ℕ) → holder_at b k ≡ h → h ≤ max_bidders
    go zero e = omega arith
    go (suc i) e = omega (arith, (s.holders k i l e).0, s.arrived)

-- ---- A turn of the loop

-- The part of the weights that is lent as the bidder's row, and what step 1 says of it
abbrev pub row_part : List ℕ → ℕ → List ℕ
row_part weights i = take (i * max_items + max_items - i * max_items) (drop (i * max_items) weights)

abbrev pub TestsOpen : List ℕ → Floors → ℕ → List ℕ → List ℕ → Type 0
TestsOpen row floors m before after =
    (p q : ℕ) (withdrawn : List ℕ) (y : ℕ → ℕ) → p < q → Weighs m row → Least p q withdrawn y m floors.least →
    after ≡ written m (λ k. test_open p q (live_in row withdrawn) y k - cells floors.pence k) before

module _ {b₀ : Auction} {i₀ : ℕ} {market : Market} {weights : List ℕ} {state : State} {floors : Floors} {tested : List ℕ} {i bids : ℕ}
    (r : Running b₀ i₀ market weights state floors tested i bids) where
  abbrev b : Auction
  b = auction market weights state

  pub row-size : length (row_part weights i) ≡ max_items
  row-size = let s = r.going.ready in row-part-length weights i (omega (arith, s.bidder, s.sound.arrived)) s.sound.formed.rows

  -- A price in pence is no more than the floor
  pub pence-under : (k : ℕ) → k < market.items → cells floors.pence k ≤ cells floors.least k
  pence-under k l =
      rw (r.floored.above k l, r.floored.whole k l)
      (pence-below market.slack.p market.slack.q (scaled_at state.price k) (flag_at market.withdrawn k) r.going.ready.sound.slack.below)

  module _ {after : List ℕ} (t : TestsOpen (row_part weights i) floors market.items tested after) where
    light : (k : ℕ) → k < market.items → get_or (row_part weights i) k 0 ≤ max_weight
    light k l = rw (row-part weights i) (r.going.ready.sound.weights i k r.going.ready.bidder l)

    tests : after ≡ written market.items (λ k. test_open market.slack.p market.slack.q (live_in (row_part weights i) market.withdrawn) (scaled_at state.price) k - cells floors.pence k) tested
    tests = let s = r.going.ready.sound in t _ _ market.withdrawn (scaled_at state.price) s.slack.below light r.floored.above

    pub tested-kept : length after ≡ max_items
    tested-kept = ap length tests ∙ written-length market.items _ tested ∙ r.tested-size

    pub blank-kept : (k : ℕ) → market.items ≤ k → cells after k ≡ 0
    blank-kept k l = ap (λ ys. cells ys k) tests ∙ written-past market.items _ tested k l ∙ r.blank k l

    -- The rate of each edge
    rated : (k : ℕ) → k < market.items →
        Rating market.slack.p market.slack.q (get_or (row_part weights i) k 0) (scaled_at state.price k) (flag_at market.withdrawn k) (cells after k)
    unfolding test_open
    rated k l =
        let s = r.going.ready.sound in
        rating market.slack.p market.slack.q (get_or (row_part weights i) k 0) (scaled_at state.price k) (flag_at market.withdrawn k) (cells after k) s.slack.low s.slack.below
        (light k l)
        (ap (λ ys. cells ys k) tests ∙ written_in market.items _ tested (omega (arith, r.tested-size, s.items)) k l ∙ rw (r.floored.whole k l) refl)

    pub rates : (k : ℕ) → k < max_items → Rates market.slack.q (cells after k) (cells (row_part weights i) k) (scaled_at state.price k) (cells floors.pence k)
    rates k l =
        by_cases (dec_lt k market.items)
        (λ near. rw (r.floored.whole k near) (rated k near).rates)
        (λ far more. absurd (omega (arith, blank-kept k (omega arith))))

    pub best-is : (best : Option Best) → best ≡ pick_of market.slack.q (rated_in after (row_part weights i)) (scaled_at state.price) market.items → best_for b i ≡ best
    unfolding test_open
    best-is best e =
        sym (e
        ∙ pick-as market.slack.q market.items (rated_in after (row_part weights i))
        (test_open market.slack.p market.slack.q (live b i) (price_at b)) (scaled_at state.price) (price_at b)
        (λ k l. (rated k l).weight ∙ rw (row-part weights i) refl) (λ k. refl)
        ∙ test-then-pick market.slack.p market.slack.q market.items (live b i) (price_at b))

  -- The bid is made: v is the weight that step 2 answers, u the utility, and s the second
  module _ {k : ℕ} {v : Pence} {u s : Scaled} (e : best_for b i ≡ Some (best_edge k v u s)) where
    finds : Found b i k v u s
    finds = found r.going e

    -- The price that step 3 makes
    abbrev raised : ℕ
    raised = raised_to market.slack.p v.0 (u.0 - s.0) (scaled_at state.price k)

    left : auction market weights (record { price = set state.price k (scaled raised); holder = handed_to state.holder k i; gain = gains_to (scaled 0) state.gain i s (holder_of (cells state.holder k)) }) ≡
        (handed_over (priced b k v.0 (u.0 - s.0)) i k s.0).auction
    left = state-steps market weights state i k v.0 (u.0 - s.0) s

    weight : v.0 ≡ live b i k
    weight = ap (λ (x : Pence). x.0) finds.weight

    gain : u.0 ≡ utility market.slack.q (live b i k) (price_at b k)
    gain = ap (λ (x : Scaled). x.0) finds.utility

    -- The lists that the steps leave
    pub next-ends : holder_of (cells state.holder k) ≡ Free → (ps : List Scaled) (hs : List ℕ) (gs : List Scaled) → ps ≡ set state.price k (scaled raised) →
        hs ≡ handed_to state.holder k i → gs ≡ gains_to (scaled 0) state.gain i s (holder_of (cells state.holder k)) →
        done (after_chain (auction market weights (record { price = ps; holder = hs; gain = gs })) (bids + 1)) ≡ settle_of (fuel_of b₀) b₀ i₀ 0
    next-ends f ps hs gs ep eh eg = rw (ep, eh, eg) (turn-ends r.going e _ (left ∙ handed-free b i k v.0 u.0 s.0 weight gain f) f)

    pub next-floored : (ps : List Scaled) (fs : Floors) → ps ≡ set state.price k (scaled raised) → fs.least ≡ set floors.least k (floor_of market.slack.p market.slack.q raised) →
        fs.pence ≡ set floors.pence k (pence_of market.slack.q raised) → Floored market (scaled_at ps) fs
    next-floored ps fs ep ef eq =
        let o = (best-at _ _ _ _ _ k v u s e).chosen in
        record {
          above = rw (ep, ef) (floors-next _ _ market.withdrawn state.price floors.least market.items k _ (omega (arith, r.going.ready.sound.formed.prices, finds.item)) (omega (arith, r.floored.size, finds.item))
              (live-is (flag_at market.withdrawn k) _ (open-edge _ _ _ _ o.«open»)).0 r.floored.above);
          size = ap length ef ∙ length-set floors.least k _ ∙ r.floored.size;
          size₂ = ap length eq ∙ length-set floors.pence k _ ∙ r.floored.size₂;
          whole = rw (ep, eq) (pence-next _ state.price floors.pence market.items k _ (omega (arith, r.going.ready.sound.formed.prices, finds.item)) (omega (arith, r.floored.size₂, finds.item)) r.floored.whole);
        }

    pub next-runs : (x : ℕ) → holder_of (cells state.holder k) ≡ Held x → (ps : List Scaled) (hs : List ℕ) (gs : List Scaled) (fs : Floors) (after : List ℕ) → ps ≡ set state.price k (scaled raised) →
        hs ≡ handed_to state.holder k i → gs ≡ gains_to (scaled 0) state.gain i s (holder_of (cells state.holder k)) →
        fs.least ≡ set floors.least k (floor_of market.slack.p market.slack.q raised) → fs.pence ≡ set floors.pence k (pence_of market.slack.q raised) → length after ≡ max_items →
        ((j : ℕ) → market.items ≤ j → cells after j ≡ 0) →
        Running b₀ i₀ market weights (record { price = ps; holder = hs; gain = gs }) fs after x (bids + 1)
    next-runs x f ps hs gs fs after ep eh eg ef eq n z =
        record {
          going = rw (ep, eh, eg) (turn_on r.going e _ x (left ∙ handed-held b i k v.0 u.0 s.0 weight gain x f) f);
          floored = next-floored ps fs ep ef eq;
          tested-size = n;
          blank = z;
        }

    -- What steps 3 and 4 ask
    pub item-small : k < max_items
    item-small = finds.item

    pub weight-small : v.0 < word_limit
    weight-small = omega (arith, finds.small)

    pub held_small : cells state.holder k ≤ max_bidders
    held_small = holder-small r.going.ready.sound k (best-at _ _ _ _ _ k v u s e).chosen.item

    pub item-price : scaled_at state.price k ≤ max_q * word_limit
    item-price = omega (arith, price-modest r.going.ready.sound k (best-at _ _ _ _ _ k v u s e).chosen.item)

    -- The lead
    pub second-small : s.0 ≤ u.0
    second-small = finds.second

    pub lead-small : u.0 - s.0 ≤ max_q * word_limit
    lead-small =
        let top : market.slack.q * live b i k ≤ max_q * word_limit =
        mul-le-mul {n₂ = max_q} {m₂ = word_limit} r.going.ready.sound.slack.high (omega (arith, weight, finds.small)) in
        omega (arith, gain)
