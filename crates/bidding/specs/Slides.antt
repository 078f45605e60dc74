-- The bid as the slides have it (document 02, R-5): "in the order of source document 002: test open entries, pick, price, hand over". The slide of the
-- multiplicative auction reads "While ∃ v ∈ V unallocated, util(uv) > ε · w(uv), v bids y_u + ε · w(uv) and allocated max util u". Since R-7 the pick also
-- answers the second utility, the price is bid up by the lead more, and the gain is the second utility. A function for each step; then a bid, a chain, an
-- arrival and a withdrawal in which every bid is these four in turn. SlideLaws compares each with the rule's.
use Rattle.std.specs.Prelude.{Option, Some, None, cond, List, [], ◌∷◌, ℕ, zero, suc, ◌+◌, ◌-◌, ◌*◌, set, ltb}
use Rattle.duality.specs.Steps.{utility}
use Rattle.board.specs.declared.record.Auction.{Auction}
use Rattle.board.specs.declared.record.Holder.{Holder}
use Rattle.board.specs.declared.record.Holder.TheVariants.{Held, Free}
use Rattle.bidding.specs.declared.rule.Best.{Best}
use Rattle.board.specs.Cells.{scaled, with_state, price_at, holder_at, holder_of}
use Rattle.board.specs.Live.{live}
use Rattle.bidding.specs.Rule.{ranked, raised_to, AfterChain, after_chain, Outcome, done, spent, best_for, bid_of, fuel_of}
use Rattle.bidding.specs.Moves.{entered}
use Rattle.bidding.specs.Withdrawals.{vacated_to, displaced_by, more_bids}

-- ---- Step 1, test open entries: "util(uv) > ε · w(uv)". w k is the weight of the bidder's live edge at item k + 1, y k the item's price; the weight of
-- an edge that is open, and 0 of one that is not
unfoldable pub test_open : ℕ → ℕ → (ℕ → ℕ) → (ℕ → ℕ) → ℕ → ℕ
test_open p q w y k = cond (ltb (p * w k) (utility q (w k) (y k))) (w k) 0

-- ---- Step 2, pick: "max util u". Of the edges of weights w the one of greatest utility; of equal ones the heaviest, and of these that at the lowest item.
-- An edge that step 1 has put at 0 has no utility. "Now the leaf that finds the best place also returns the greatest utility of any other open place of
-- that batch, 0 if none" (document 02, R-7)
unfoldable pub take_of : ℕ → ℕ → ℕ → ℕ → Option Best → Option Best
take_of q k w y best = cond (ltb 0 (utility q w y)) (ranked k w (utility q w y) best) best

unfoldable pub pick_of : ℕ → (ℕ → ℕ) → (ℕ → ℕ) → ℕ → Option Best
pick_of q w y zero = None
pick_of q w y (suc k) = take_of q k (w k) (y k) (pick_of q w y k)

-- ---- Step 3, price: "v bids y_u + ε · w(uv)", since R-7 with the lead besides, which is the item's price from then on
unfoldable pub priced : Auction → ℕ → ℕ → ℕ → Auction
priced b k w lead =
    with_state b
    (record {
      price = set b.state.price k (scaled (raised_to b.market.slack.p w lead (price_at b k)));
      holder = b.state.holder;
      gain = b.state.gain;
    })

-- ---- Step 4, hand over: "and allocated". The item's cell names the bidder, whose gain is u, the second utility; whoever had the item has a gain of `none`
-- (which is 0), and bids next
abbrev pub handed_to : List ℕ → ℕ → ℕ → List ℕ
handed_to holders k i = set holders k (suc i)

abbrev pub gains_to : {A : Type 0} → A → List A → ℕ → A → Holder → List A
gains_to none gains i u Free = set gains i u
gains_to none gains i u (Held x) = set (set gains i u) x none

-- The board, and who had the item before
pub record HandedOver : Type 0 where
  pub auction : Auction
  pub before : Holder

unfoldable pub handed_over : Auction → ℕ → ℕ → ℕ → HandedOver
handed_over b i k u =
    record {
      auction = with_state b
          (record {
            price = b.state.price;
            holder = handed_to b.state.holder k i;
            gain = gains_to (scaled 0) b.state.gain i (scaled u) (holder_of (holder_at b k));
          });
      before = holder_of (holder_at b k);
    }

-- ---- The four in turn: the bid of bidder i + 1 after so many; `again` makes the rest of the chain

unfoldable pub next_bidder : (Auction → ℕ → ℕ → Outcome AfterChain) → Auction → ℕ → Holder → Outcome AfterChain
next_bidder again b bids Free = done (after_chain b bids)
next_bidder again b bids (Held x) = again b x bids

unfoldable pub after_pick : (Auction → ℕ → ℕ → Outcome AfterChain) → Auction → ℕ → ℕ → Option Best → Outcome AfterChain
after_pick again b i bids None = done (after_chain b bids)
after_pick again b i bids (Some e) =
    let c = priced b e.item e.weight.0 (e.utility.0 - e.second.0) in
    let d = handed_over c i e.item e.second.0 in
    next_bidder again d.auction (bids + 1) d.before

unfoldable pub bid_by_slides : (Auction → ℕ → ℕ → Outcome AfterChain) → Auction → ℕ → ℕ → Outcome AfterChain
bid_by_slides again b i bids =
    let tested = test_open b.market.slack.p b.market.slack.q (live b i) (price_at b) in
    let best = pick_of b.market.slack.q tested (price_at b) b.market.items in
    after_pick again b i bids best

-- The bid as the rule defines it: the best open edge and the second in one go, and what `bid_of` makes of it. Chains are defined by it (Rule: settle_of)
abbrev pub bid_until_now : (Auction → ℕ → ℕ → Outcome AfterChain) → Auction → ℕ → ℕ → Outcome AfterChain
bid_until_now again b i bids = bid_of again b i bids (best_for b i)

-- ---- Every bid of a chain, of an arrival and of a withdrawal is the four steps in turn. (What the chains begin with, and their order, are Moves' and
-- Withdrawals'.)

-- "While ∃ v ∈ V unallocated": the chain, of at most `fuel` turns
unfoldable pub settle_by_slides : ℕ → Auction → ℕ → ℕ → Outcome AfterChain
settle_by_slides zero b i bids = spent
settle_by_slides (suc fuel) b i bids = bid_by_slides (settle_by_slides fuel) b i bids

unfoldable pub arrived_by_slides : Auction → List ℕ → Outcome AfterChain
arrived_by_slides b row = settle_by_slides (fuel_of (entered b row)) (entered b row) b.market.arrived 0

unfoldable pub next_by_slides : Outcome AfterChain → ℕ → Outcome AfterChain
next_by_slides spent x = spent
next_by_slides (done s) x = more_bids s.bids (settle_by_slides (fuel_of s.auction) s.auction x 0)

unfoldable pub chains_by_slides : Outcome AfterChain → List ℕ → Outcome AfterChain
chains_by_slides o [] = o
chains_by_slides o (x ∷ xs) = chains_by_slides (next_by_slides o x) xs

unfoldable pub withdrawn_by_slides : Auction → (ℕ → ℕ) → ℕ → Outcome AfterChain
withdrawn_by_slides b item n = chains_by_slides (done (after_chain (vacated_to b item n) 0)) (displaced_by b item n)
