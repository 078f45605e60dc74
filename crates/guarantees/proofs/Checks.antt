-- What the check says of the lists that the exact level and the read-out leave.
use Rattle.std.specs.Prelude.{Ok}
use mathlib.Core.Bool.{true}
use mathlib.Core.Path.{◌≡◌, refl, sym, ap, ap₂, ◌∙◌}
use Prim.Native.Nat.{ℕ, ◌+◌, ◌-◌, ◌*◌, ◌≤◌, ◌<◌}
use native.Mathlib.Nat.{le_trans}
use native.Mathlib.Omega.{arith}
use lib.ListN.{length, take}
use lib.Seq.{length-take-le}
use Rattle.duality.specs.Lists.{cells}
use Rattle.duality.specs.Matching.{weight_of}
use Rattle.duality.specs.Cover.{Tight}
use Rattle.duality.proofs.Agree.{weight-as, covers-as}
use Rattle.duality.proofs.ComplementarySlackness.{complementary-slackness}
use Rattle.places.specs.Places.{places_to, over_places, spread_weights}
use Rattle.places.specs.Plan.{spread}
use Rattle.places.specs.Total.{total_with}
use Rattle.places.proofs.PlaceLaws.{place-below, no-other-item}
use Rattle.places.proofs.Spread.{plan-spreads}
use Rattle.places.proofs.SpreadCover.{cover-spreads, least-prices-cover, total-of-ones}
use Rattle.places.proofs.EqualExactlyWhenBestWith.{plan-as, total-with-as, total-with-lists}
use Rattle.board.specs.Limits.{max_weight}
use Rattle.board.specs.Cells as place
use Rattle.refusals.specs.Demand1.{first_of}
use Rattle.board.specs.Lent.{Lists, room_test}
use Rattle.board.proofs.Light.{live-within}
use Rattle.supply.specs.declared.record.Board.{Board}
use Rattle.supply.specs.Board.{auction_of, places_at, start_in, item_at}
use Rattle.supply.specs.ByItem.{live, gain_at, price_at, matching_of, matching_weight}
use Rattle.supply.specs.Laws.{OverPlaces}
use Rattle.supply.specs.Sound.{Sound}
use Rattle.supply.specs.SoundTest.{sound_test}
use Rattle.supply.specs.Lent.{read_out_checks}
use Rattle.supply.proofs.SoundLaw.{sound-decides}
use Rattle.supply.proofs.ByItem.{places-as-item, first-place, price-most, gone-least, sound-over-places}
use Rattle.supply.proofs.Lending.{roomy-decides}
use Rattle.bidding.specs.Waiting.{SoundBut, Nobody}
use Rattle.bidding.proofs.Waiting.{sound-is-settled}
use Rattle.bidding.proofs.Modest.{price-modest, gain-modest}
use Rattle.auction.specs.ReadOut.{ReadOutcome, read_out_of, read_out_told}
use Rattle.auction.specs.Demand2.{Reads}
use Rattle.auction.proofs.CallVerdicts.{read-out-written}
use Rattle.auction.proofs.ReadOuts.{read-out-demand-2}
use Rattle.hungarian.specs.Exact.{Greatest, Shows}
use Rattle.hungarian.specs.Demand3.{ShowsBest}
use Rattle.hungarian.proofs.Exacts.{best-on, exact-is-best, exact-gives-demand-3}
use Rattle.certificate.specs.declared.Totals.{Totals}
use Rattle.certificate.specs.Check.{totals}
use Rattle.certificate.proofs.Accepted.{totals-accepted, accepted-totals}
use Rattle.guarantees.specs.Checks.{cut, ExactAccepted, EqualTotalsBest, ReadOutAccepted}
use Rattle.guarantees.proofs.Bounds.{price-below, gain-below, cut-cell}

-- Of an equal pair no price is above the greatest weight: spread over places it is equal too, and so tight
module _ (b : Board) (s : Sound b) {before after : Lists} {answer : Greatest} (shown : Shows b before answer after) (best : ShowsBest b answer after) where
  abbrev spread_out : ℕ → ℕ → ℕ
  spread_out = spread_weights (places_at b) b.items.count (live b)

  tight : Tight b.market.arrived (places_to (places_at b) b.items.count) spread_out 1
      (spread (places_at b) (cells after.plan)) (over_places (places_at b) b.items.count (cells after.prices)) (cells after.gains)
  tight =
      let p = plan-spreads b.market.arrived b.items.count (places_at b) (live b) (cells after.plan) shown.matches in
      let c = cover-spreads b.market.arrived b.items.count (places_at b) (live b) 1 (cells after.prices) (cells after.gains) shown.covers in
      complementary-slackness b.market.arrived (places_to (places_at b) b.items.count) spread_out
      (spread (places_at b) (cells after.plan)) (over_places (places_at b) b.items.count (cells after.prices)) (cells after.gains)
      (record { matches = p.matches; covers = c.covers; same = p.same ∙ best.weight ∙ sym best.sum ∙ sym c.same })

  light : (i t : ℕ) → spread_out i t ≤ max_weight
  light i t = live-within (auction_of b) s.auction i (start_in b.items (item_at b.items t))

  price-light : (k : ℕ) → k < b.items.count → cells after.prices k ≤ max_weight
  price-light k l =
      let here = first-place b k s l in
      let e : item_at b.items (start_in b.items k) ≡ k = no-other-item (places_at b) b.items.count k (start_in b.items k) l here in
      let h = price-below tight max_weight light (start_in b.items k) (place-below (places_at b) b.items.count k (start_in b.items k) l here) in
      rw e at h

  gain-light : (i : ℕ) → i < b.market.arrived → cells after.gains i ≤ max_weight
  gain-light i l = gain-below tight max_weight light i l

pub exact-accepted : ExactAccepted
exact-accepted b before after answer s room o =
    accepted-totals b (cut b after) 0 1
    (record {
      sound = s;
      slack = record { low = omega arith; below = omega arith; high = omega arith };
      even = record {
        plan = length-take-le b.market.arrived after.plan (omega (arith, shown.plan.size, room.plan));
        prices = length-take-le b.items.count after.prices (omega (arith, shown.prices.size, room.prices));
        gains = length-take-le b.market.arrived after.gains (omega (arith, shown.gains.size, room.gains));
      };
      matches = plan-as plan shown.matches;
      prices = λ k l. le_trans (same-below (prices k l) (price-light b s shown best k l)) (omega arith);
      withdrawn = λ k l gone. prices k l ∙ shown.withdrawn k l gone;
      gains = λ i l. le_trans (same-below (gains i l) (gain-light b s shown best i l)) (omega arith);
      covers = covers-as _ _ (live b) 1 (cells after.prices) _ (cells after.gains) _ prices gains shown.covers;
    })
    ∙ ap₂ totals (weight-as _ (live b) (cells after.plan) _ plan ∙ best.weight)
    (total-with-as _ _ (places_at b) (cells after.prices) _ (cells after.gains) _ prices gains ∙ best.sum)
  where
    shown : Shows b before answer after
    shown = (exact-gives-demand-3 b before after answer o).exact s room

    best : ShowsBest b answer after
    best = exact-is-best b before after answer shown

    plan : (i : ℕ) → i < b.market.arrived → cells (take b.market.arrived after.plan) i ≡ cells after.plan i
    plan i l = cut-cell b.market.arrived after.plan i l

    prices : (k : ℕ) → k < b.items.count → cells (take b.items.count after.prices) k ≡ cells after.prices k
    prices k l = cut-cell b.items.count after.prices k l

    gains : (i : ℕ) → i < b.market.arrived → cells (take b.market.arrived after.gains) i ≡ cells after.gains i
    gains i l = cut-cell b.market.arrived after.gains i l

    same-below : {x y m : ℕ} → x ≡ y → y ≤ m → x ≤ m
    same-below e l = omega arith

pub equal-totals-best : EqualTotalsBest
equal-totals-best b l weight sum' e =
    let a = totals-accepted b l 0 1 weight sum' e in
    let same = sym e ∙ accepted-totals b l 0 1 a in
    let w : weight ≡ weight_of b.market.arrived (live b) (cells l.plan) = ap (λ (t : Totals). t.weight) same in
    let s : sum' ≡ total_with b.market.arrived b.items.count (places_at b) (cells l.prices) (cells l.gains) = ap (λ (t : Totals). t.total) same in
    let x = total-with-lists b.market.arrived b.items.count (places_at b) l.prices l.gains a.even.prices a.even.gains in
    let best = best-on b a.sound l.plan l.prices l.gains a.even.plan a.even.prices a.even.gains a.matches a.covers in
    (λ h. best.0 (sym w ∙ h ∙ s ∙ x), λ h. w ∙ best.1 h ∙ sym x ∙ sym s)

-- Lists with room, lent to a sound board, are served
lent-served : (b : Board) (l : Lists) → sound_test b ≡ true → room_test b.market.arrived b.items.count (length l.plan) (length l.prices) (length l.gains) ≡ true →
    first_of (read_out_checks b l) ≡ Ok tt
unfolding first_of
lent-served b l s e = rw (s, e)

pub read-out-accepted : ReadOutAccepted
read-out-accepted b l s room =
    record {
      sum = total_with b.market.arrived b.items.count (places_at b) (cells after.prices) (cells after.gains);
      accepted = accepted-totals b (cut b after) b.market.slack.p b.market.slack.q
          (record {
            sound = s;
            slack = record { low = omega arith; below = s.auction.slack.below; high = s.auction.slack.high };
            even = record {
              plan = length-take-le b.market.arrived after.plan (omega (arith, reads.plan_length, room.plan));
              prices = length-take-le b.items.count after.prices (omega (arith, reads.prices_length, room.prices));
              gains = length-take-le b.market.arrived after.gains (omega (arith, reads.gains_length, room.gains));
            };
            matches = plan-as plan over.plans;
            prices = λ k h. omega (arith, prices k h, price-most b s k h (start_in b.items k) (first-place b k s h), price-modest settled (start_in b.items k) (places-as-item b k (start_in b.items k) s h (first-place b k s h)).below);
            withdrawn = λ k h gone. prices k h ∙ gone-least b s k h gone;
            gains = λ i h. omega (arith, gains i h, gain-modest settled i h);
            covers = covers-as _ _ (live b) (b.market.slack.q - b.market.slack.p) (price_at b) _ (gain_at b) _ prices gains (least-prices-cover _ _ (places_at b) (live b) _ (place.price_at (auction_of b)) (gain_at b) over.some over.covers);
          })
          ∙ ap₂ totals (weight-as _ (live b) (matching_of b) _ plan)
          (total-with-as _ _ (places_at b) (cells after.prices) _ (cells after.gains) _ (λ k h. cut-cell b.items.count after.prices k h) (λ i h. cut-cell b.market.arrived after.gains i h));
      within = rw (weighs) at reads.sum;
      whole = λ ones. total-of-ones b.market.arrived b.items.count (places_at b) (cells after.prices) (cells after.gains) ones ∙ reads.whole ones ∙ ap (λ x. (b.market.slack.q + b.market.slack.p) * x) weighs;
    }
  where
    over : OverPlaces b
    over = sound-over-places b s

    settled : SoundBut Nobody (auction_of b)
    settled = (sound-is-settled (auction_of b)).0 s.auction

    after : Lists
    after = (read_out_of b l).lists

    reads : Reads b l (read_out_of b l).lists
    reads =
        let o = read-out-written b l (lent-served b l ((sound-decides b).complete s) ((roomy-decides b l).complete room)) in
        read-out-demand-2 b l after (record { lists = refl; tells = ap (λ (o : ReadOutcome). read_out_told o.answer) o })

    weighs : weight_of b.market.arrived (live b) (cells after.plan) ≡ matching_weight b
    weighs = weight-as _ (live b) (matching_of b) _ (λ i h. reads.plan i h)

    plan : (i : ℕ) → i < b.market.arrived → cells (take b.market.arrived after.plan) i ≡ matching_of b i
    plan i h = cut-cell b.market.arrived after.plan i h ∙ reads.plan i h

    prices : (k : ℕ) → k < b.items.count → cells (take b.items.count after.prices) k ≡ price_at b k
    prices k h = cut-cell b.items.count after.prices k h ∙ reads.prices k h

    gains : (i : ℕ) → i < b.market.arrived → cells (take b.market.arrived after.gains) i ≡ gain_at b i
    gains i h = cut-cell b.market.arrived after.gains i h ∙ reads.gains i h
