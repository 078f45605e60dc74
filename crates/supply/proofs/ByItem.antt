-- What holds by item on every sound board.
use mathlib.Core.Path.{◌≡◌, refl, sym, ap, ap₂, subst, ◌∙◌}
use mathlib.Core.Bool.{true, not, cond}
use Prim.Native.Nat.{ℕ, zero, suc, ◌+◌, ◌-◌, ◌≤◌, ◌<◌}
use native.Mathlib.Nat.{le_refl, add-zero}
use native.Mathlib.Omega.{arith}
use lib.ListN.{get_or}
use lib.Dec.{eqb}
use Rattle.duality.specs.Matching.{at_cell, IsMatching}
use Rattle.duality.specs.Cover.{Covers, Tight}
use Rattle.duality.specs.Greatest.{greatest_weight}
use Rattle.places.specs.Places.{AtItem, spread_weights}
use Rattle.places.proofs.PlaceLaws.{place-below, no-other-item, every-place-has-its-item, places-of-ones}
use Rattle.places.proofs.Spread.{matching-reads-back}
use Rattle.places.proofs.SpreadCover.{least_of-le}
use Rattle.board.specs.Cells as place
use Rattle.board.specs.Live as placed
use Rattle.board.proofs.LiveLaws.{held-within}
use Rattle.supply.specs.declared.record.Board.{Board}
use Rattle.supply.specs.Board.{auction_of, places_at, all_places, start_in, item_at}
use Rattle.supply.specs.ByItem.{withdrawn_at, weight_at, live, price_at, matching_of}
use Rattle.supply.specs.Sound.{Sound}
use Rattle.supply.specs.Laws.{PlacesAsItem, FirstPlace, SoundOverPlaces, OnesAsAuction}
use Rattle.supply.proofs.AgreeWeights.{SameWeights, matching-over, covers-over, tight-over, cell-over, weight-over, greatest-over}

pub places-as-item : PlacesAsItem
places-as-item b k s h lk at =
    record {
      below = below;
      edges = edges;
      withdrawn = withdrawn;
      live = λ i li. ap₂ (λ t w. cond t 0 w) withdrawn (edges i li);
    }
  where
    below : s < b.market.items
    below = rw h.laid.all (place-below (places_at b) b.items.count k s lk at)

    item-is : item_at b.items s ≡ k
    item-is = no-other-item (places_at b) b.items.count k s lk at

    edges : (i : ℕ) → i < b.market.arrived → place.weight_at (auction_of b) i s ≡ weight_at b i k
    edges i li = (h.alike s below).edges i li ∙ ap (weight_at b i) item-is

    withdrawn : place.withdrawn_at (auction_of b) s ≡ withdrawn_at b k
    withdrawn = ap (λ x. not (eqb x 0)) ((h.alike s below).flag ∙ ap (λ j. get_or b.market.withdrawn (start_in b.items j) 0) item-is)

pub first-place : FirstPlace
first-place b k h lk = (le_refl _, omega (arith, (h.laid.each k lk).low))

module _ (b : Board) (h : Sound b) where
  -- The live weights by place are those by item, spread
  same-weights : SameWeights b.market.arrived b.market.items (placed.live (auction_of b)) (spread_weights (places_at b) b.items.count (live b))
  same-weights i s li ls =
      let (lk, at) = every-place-has-its-item (places_at b) b.items.count s (rw h.laid.all at ls) in
      sym ((places-as-item b (item_at b.items s) s h lk at).live i li)

  -- What a bidder holds weighs the same by place and by item
  pub held-weight : (i : ℕ) → i < b.market.arrived →
      at_cell (placed.live (auction_of b) i) (placed.matching_of (auction_of b) i) ≡ at_cell (live b i) (matching_of b i)
  held-weight i li = sym (cell-over same-weights h.auction.matches i li) ∙ go (placed.matching_of (auction_of b) i)
    where
      go : (c : ℕ) → at_cell (spread_weights (places_at b) b.items.count (live b) i) c ≡ at_cell (live b i) (at_cell (λ s. suc (item_at b.items s)) c)
      go zero = refl
      go (suc s) = refl

  -- An item's price is the least of its places
  pub price-most : (k : ℕ) → k < b.items.count → (s : ℕ) → AtItem (places_at b) k s → price_at b k ≤ place.price_at (auction_of b) s
  price-most k lk s at =
      let e : start_in b.items k + (s - start_in b.items k) ≡ s = omega (arith, at.0) in
      omega (
        arith,
        least_of-le (place.price_at (auction_of b) (start_in b.items k)) (places_at b k) (λ j. place.price_at (auction_of b) (start_in b.items k + j))
            (s - start_in b.items k) (omega (arith, at.0, at.1)),
        ap (place.price_at (auction_of b)) e,
      )

  -- A bidder's cell names a place, or none
  pub matching-within : (i : ℕ) → i < b.market.arrived → placed.matching_of (auction_of b) i ≤ all_places b.items
  matching-within i li = omega (arith, held-within b.state.holder b.market.items i, h.laid.all)

  -- A withdrawn item has price 0
  pub gone-least : (k : ℕ) → k < b.items.count → withdrawn_at b k ≡ true → price_at b k ≡ 0
  gone-least k lk e =
      let at = first-place b k h lk in
      omega (
        arith,
        price-most k lk (start_in b.items k) at,
        h.auction.withdrawn (start_in b.items k) (places-as-item b k (start_in b.items k) h lk at).below e,
      )

  tightness : Tight b.market.arrived b.market.items (placed.live (auction_of b)) (b.market.slack.q + b.market.slack.p)
      (placed.matching_of (auction_of b)) (place.price_at (auction_of b)) (place.gain_at (auction_of b))
  tightness = record { placed = h.auction.placed; unplaced = h.auction.unplaced; unheld = h.auction.unheld }

pub sound-over-places : SoundOverPlaces
sound-over-places b h =
    let over = same-weights b h in
    let n = b.market.arrived in
    let held = placed.matching_of (auction_of b) in
    let weight = spread_weights (places_at b) b.items.count (live b) in
    let price = place.price_at (auction_of b) in
    let gain = place.gain_at (auction_of b) in
    let matches = subst (λ m. IsMatching n m weight held) h.laid.all (matching-over over h.auction.matches) in
    let back = matching-reads-back n b.items.count (places_at b) (live b) held matches in
    record {
      some = λ k l. (h.laid.each k l).low;
      matches = matches;
      tight = subst (λ m. Tight n m weight (b.market.slack.q + b.market.slack.p) held price gain) h.laid.all
          (tight-over over h.auction.matches (tightness b h));
      covers = subst (λ m. Covers n m weight (b.market.slack.q - b.market.slack.p) price gain) h.laid.all
          (covers-over _ _ _ _ _ _ _ over h.auction.covers);
      plans = back.plans;
      weighs = back.same ∙ weight-over _ _ _ _ _ over h.auction.matches;
      greatest = ap (λ m. greatest_weight n m weight) (sym h.laid.all) ∙ greatest-over _ _ _ _ over;
    }

pub ones-as-auction : OnesAsAuction
ones-as-auction b h ones =
    record {
      items = h.laid.all ∙ (places-of-ones (places_at b) b.items.count ones).0;
      start = start;
      withdrawn = λ k l. ap (place.withdrawn_at (auction_of b)) (start k l);
      price = λ k l. rw (ones k l, start k l, add-zero k) (omega arith);
      live = λ i k l. ap (placed.live (auction_of b) i) (start k l);
      matching = λ i l. back i l (placed.matching_of (auction_of b) i) refl;
    }
  where
    start : (k : ℕ) → k < b.items.count → start_in b.items k ≡ k
    start k l = (places-of-ones (places_at b) k (λ j lj. ones j (omega arith))).0

    back : (i : ℕ) → i < b.market.arrived → (c : ℕ) → placed.matching_of (auction_of b) i ≡ c → at_cell (λ s. suc (item_at b.items s)) c ≡ c
    back i l zero e = refl
    back i l (suc s) e =
        ap suc ((places-of-ones (places_at b) b.items.count ones).1 s
        (omega (arith, (h.auction.matches.along i s l e).0, h.laid.all, (places-of-ones (places_at b) b.items.count ones).0)))
