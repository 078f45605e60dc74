-- The four steps of a bid: what the first two mean, and that all in turn are the bid as defined until now, in every chain and move.
use mathlib.Core.Path.{◌≡◌, refl, sym, ap, ◌∙◌, fun_ext}
use mathlib.Core.Bool.{Bool, true, false, cond}
use mathlib.Core.List.{List, [], ◌∷◌}
use Prim.Native.Nat.{ℕ, zero, suc, ◌+◌, ◌-◌, ◌*◌, ◌<◌}
use native.Mathlib.Omega.{arith}
use lib.Dec.{ltb}
use borrow.Author.Tests.{lt-ltb, le-ltb, ltb-true}
use Rattle.duality.specs.Lists.{cells}
use Rattle.duality.specs.Steps.{utility}
use Rattle.board.specs.declared.record.Auction.{Auction}
use Rattle.board.specs.declared.record.Holder.{Holder}
use Rattle.board.specs.declared.units.Pence.{Pence}
use Rattle.board.specs.declared.units.Scaled.{Scaled}
use Rattle.board.specs.declared.record.Holder.TheVariants.{Held, Free}
use Rattle.bidding.specs.declared.rule.Best.{Best}
use Rattle.std.proofs.Common.{Option, Some, None}
use Rattle.bidding.specs.Rule.{best_edge, ranked, offer_of, best_of, raised_to, placed_at, bidden, displaced, AfterChain, Outcome, done, spent, after_chain, hand_over, bid_of, best_for, settle_of, fuel_of}
use Rattle.board.specs.Cells.{price_at, holder_at, holder_of, scaled}
use Rattle.board.specs.Live.{live}
use Rattle.bidding.specs.Moves.{arrived_of, entered}
use Rattle.bidding.specs.Withdrawals.{more_bids, next_chain, chains_from, withdrawn_of}
use Rattle.bidding.specs.Slides.{test_open, take_of, pick_of, priced, handed_over, next_bidder, after_pick, bid_by_slides, bid_until_now, settle_by_slides, arrived_by_slides, next_by_slides, chains_by_slides, withdrawn_by_slides}
use Rattle.bidding.specs.SlideLaws.{TestMeans, PickMeans, TestThenPick, PlainSteps, StateSteps, UntilNow, picked_for, handed_for, StepsInTurn, BidBySlides, ChainBySlides, ArrivedBySlides, WithdrawnBySlides}
use Rattle.bidding.specs.Book.{state_of}
use Rattle.bidding.proofs.Choices.{best-is-chosen, best-at}
use Rattle.bidding.proofs.Units.{units-at, units-set, units-gains}

-- ---- Steps 1 and 2

pub test-means : TestMeans
unfolding test_open
test-means p q w y k =
    record {
      kept = λ o. rw (lt-ltb (p * w k) (utility q (w k) (y k)) o) refl;
      shut = λ n. rw (le-ltb (p * w k) (utility q (w k) (y k)) (omega (arith, n))) refl;
    }

-- One edge more, of which step 1 has told whether it is open
take-tested : (p q k w y : ℕ) (best : Option Best) → take_of q k (cond (ltb (p * w) (utility q w y)) w 0) y best ≡ offer_of p q k w y best
unfolding take_of offer_of
take-tested p q k w y best = go (ltb (p * w) (utility q w y)) refl
  where
    go : (t : Bool) → ltb (p * w) (utility q w y) ≡ t →
        cond (ltb 0 (utility q (cond t w 0) y)) (ranked k (cond t w 0) (utility q (cond t w 0) y) best) best ≡ cond t (ranked k w (utility q w y) best) best
    go true e = rw (lt-ltb 0 (utility q w y) (omega (arith, ltb-true (p * w) (utility q w y) e))) refl
    go false e = rw (le-ltb 0 (utility q 0 y) (omega arith)) refl

pub test-then-pick : TestThenPick
unfolding pick_of best_of test_open
test-then-pick p q zero w y = refl
test-then-pick p q (suc m) w y = rw (test-then-pick p q m w y) (take-tested p q m (w m) (y m) (best_of p q w y m))

-- With no slack every edge that has a utility is open
take-offer : (q k w y : ℕ) (best : Option Best) → take_of q k w y best ≡ offer_of 0 q k w y best
unfolding take_of offer_of
take-offer q k w y best = let z : 0 * w ≡ 0 = omega arith in rw z refl

pick-best : (q m : ℕ) (w y : ℕ → ℕ) → pick_of q w y m ≡ best_of 0 q w y m
unfolding pick_of best_of
pick-best q zero w y = refl
pick-best q (suc m) w y = rw (pick-best q m w y) (take-offer q m (w m) (y m) (best_of 0 q w y m))

pub pick-means : PickMeans
pick-means q m w y = rw (pick-best q m w y) (best-is-chosen 0 q m w y)

-- Weights and prices of the first m items are all that a pick looks at
pub pick-as : (q m : ℕ) (w v y z : ℕ → ℕ) → ((k : ℕ) → k < m → w k ≡ v k) → ((k : ℕ) → y k ≡ z k) → pick_of q w y m ≡ pick_of q v z m
unfolding pick_of
pick-as q zero w v y z e f = refl
pick-as q (suc m) w v y z e f = rw (pick-as q m w v y z (λ k l. e k (omega arith)) f, e m (omega arith), f m) refl

-- ---- Steps 3 and 4, on a state's lists and on plain numbers

pub state-steps : StateSteps
unfolding handed_over priced
state-steps market weights state i k w lead s = refl

pub plain-steps : PlainSteps
plain-steps market weights prices holders gains i k w lead s =
    rw (units-set prices k (raised_to market.slack.p w lead (cells prices k)), units-gains gains i s (holder_of (cells holders k)), ← units-at prices k)
    (state-steps market weights (state_of prices holders gains) i k w lead (scaled s))

-- ---- All four

-- The board that price and hand over leave, of the weight and the utility that the rule's best open edge has, and the second utility
module _ (b : Auction) (i k w u s : ℕ) (weight : w ≡ live b i k) (gain : u ≡ utility b.market.slack.q (live b i k) (price_at b k)) where
  pub handed-free : holder_of (holder_at b k) ≡ Free → (handed_over (priced b k w (u - s)) i k s).auction ≡ bidden b i k s
  unfolding handed_over priced placed_at
  handed-free e = rw (e, weight, gain) refl

  pub handed-held : (x : ℕ) → holder_of (holder_at b k) ≡ Held x → (handed_over (priced b k w (u - s)) i k s).auction ≡ displaced (bidden b i k s) x
  unfolding handed_over priced placed_at displaced
  handed-held x e = rw (e, weight, gain) refl

  -- Beside what `bid_of` does with that edge
  hands : (again : Auction → ℕ → ℕ → Outcome AfterChain) (bids : ℕ) (h : Holder) → holder_of (holder_at b k) ≡ h →
      next_bidder again (handed_over (priced b k w (u - s)) i k s).auction bids h ≡ hand_over again (bidden b i k s) bids h
  unfolding next_bidder hand_over
  hands again bids Free e = ap (λ c. done (after_chain c bids)) (handed-free e)
  hands again bids (Held x) e = ap (λ c. again c x bids) (handed-held x e)

picks : (again : Auction → ℕ → ℕ → Outcome AfterChain) (b : Auction) (i bids : ℕ) (best : Option Best) → best_for b i ≡ best → after_pick again b i bids best ≡ bid_of again b i bids best
unfolding after_pick bid_of handed_over priced
picks again b i bids None e = refl
picks again b i bids (Some best) e =
    let a = best-at _ _ _ _ _ best.item best.weight best.utility best.second e in
    hands b i best.item best.weight.0 best.utility.0 best.second.0 (ap (λ (x : Pence). x.0) a.weight) (ap (λ (x : Scaled). x.0) a.utility) again (bids + 1) (holder_of (holder_at b best.item)) refl

-- What follows a pick
module _ (again : Auction → ℕ → ℕ → Outcome AfterChain) where
  pick-nothing : (b : Auction) (i bids : ℕ) → after_pick again b i bids None ≡ done (after_chain b bids)
  unfolding after_pick
  pick-nothing b i bids = refl

  pick_at : (b : Auction) (i bids k : ℕ) (w : Pence) (u s : Scaled) →
      let d = handed_for b i k w u s in
      after_pick again b i bids (Some (best_edge k w u s)) ≡ next_bidder again d.auction (bids + 1) d.before
  unfolding after_pick
  pick_at b i bids k w u s = refl

  next-free : (b : Auction) (bids : ℕ) (h : Holder) → h ≡ Free → next_bidder again b bids h ≡ done (after_chain b bids)
  unfolding next_bidder
  next-free b bids h e = rw e refl

  next-held : (b : Auction) (bids x : ℕ) (h : Holder) → h ≡ Held x → next_bidder again b bids h ≡ again b x bids
  unfolding next_bidder
  next-held b bids x h e = rw e refl

pub bid-by-slides : BidBySlides
unfolding bid_by_slides
bid-by-slides again b i bids =
    ap (after_pick again b i bids) (test-then-pick b.market.slack.p b.market.slack.q b.market.items (live b i) (price_at b))
    ∙ picks again b i bids (best_for b i) refl

pub until_now : UntilNow
unfolding settle_of
until_now fuel b i bids = refl

pub steps-in-turn : StepsInTurn
unfolding bid_by_slides
steps-in-turn again b i bids =
    record {
      nothing = λ e. same None e ∙ pick-nothing again b i bids;
      free = λ k w u s e f. same (Some (best_edge k w u s)) e ∙ (pick_at again b i bids k w u s ∙ next-free again _ (bids + 1) _ f);
      held = λ k w u s x e f. same (Some (best_edge k w u s)) e ∙ (pick_at again b i bids k w u s ∙ next-held again _ (bids + 1) x _ f);
    }
  where
    same : (best : Option Best) → picked_for b i ≡ best → bid_until_now again b i bids ≡ after_pick again b i bids best
    same best e = sym (bid-by-slides again b i bids) ∙ ap (after_pick again b i bids) e

-- The rest of a chain is the same, so the chain is
same-again : (f g : Auction → ℕ → ℕ → Outcome AfterChain) → ((b : Auction) (i bids : ℕ) → f b i bids ≡ g b i bids) → f ≡ g
same-again f g e = fun_ext (λ b. fun_ext (λ i. fun_ext (λ bids. e b i bids)))

pub chain-by-slides : ChainBySlides
unfolding settle_by_slides settle_of
chain-by-slides zero b i bids = refl
chain-by-slides (suc fuel) b i bids =
    ap (λ again. bid_by_slides again b i bids) (same-again (settle_by_slides fuel) (settle_of fuel) (chain-by-slides fuel)) ∙ bid-by-slides (settle_of fuel) b i bids

pub arrived-by-slides : ArrivedBySlides
unfolding arrived_by_slides arrived_of
arrived-by-slides b row = chain-by-slides (fuel_of (entered b row)) (entered b row) b.market.arrived 0

next-by-slides : (o : Outcome AfterChain) (x : ℕ) → next_by_slides o x ≡ next_chain o x
unfolding next_by_slides next_chain
next-by-slides spent x = refl
next-by-slides (done s) x = ap (more_bids s.bids) (chain-by-slides (fuel_of s.auction) s.auction x 0)

chains-by-slides : (o : Outcome AfterChain) (xs : List ℕ) → chains_by_slides o xs ≡ chains_from o xs
unfolding chains_by_slides chains_from
chains-by-slides o [] = refl
chains-by-slides o (x ∷ xs) = rw (next-by-slides o x) (chains-by-slides (next_chain o x) xs)

pub withdrawn-by-slides : WithdrawnBySlides
unfolding withdrawn_by_slides withdrawn_of
withdrawn-by-slides b item n = chains-by-slides _ _
