-- Statements about the four steps: what the first two mean, what the last two are on plain numbers, and that in turn they are the bid, the chain and the
-- moves as the rule defines them. These hold on every board, sound or not, and so "at every bid of every call on a sound board" (document 02, R-5).
use Rattle.std.specs.Prelude.{◌≡◌, Option, Some, None, List, ℕ, suc, ◌+◌, ◌-◌, ◌*◌, ◌<◌, ◌≤◌, set}
use Rattle.duality.specs.Lists.{cells}
use Rattle.duality.specs.Steps.{utility, Open}
use Rattle.board.specs.declared.record.Auction.{Auction}
use Rattle.board.specs.declared.record.Market.{Market}
use Rattle.board.specs.declared.record.State.{State}
use Rattle.board.specs.declared.record.Holder.TheVariants.{Held, Free}
use Rattle.board.specs.declared.units.Pence.{Pence}
use Rattle.board.specs.declared.units.Scaled.{Scaled}
use Rattle.bidding.specs.declared.rule.Best.{Best}
use Rattle.bidding.specs.Rule.{best_edge, raised_to, AfterChain, Outcome, done, after_chain, best_of, settle_of}
use Rattle.board.specs.Limits.{max_weight}
use Rattle.board.specs.Cells.{auction, price_at, holder_of, scaled, scaled_at}
use Rattle.board.specs.Live.{live}
use Rattle.bidding.specs.RuleLaws.{Choice}
use Rattle.bidding.specs.Moves.{arrived_of}
use Rattle.bidding.specs.Withdrawals.{withdrawn_of}
use Rattle.bidding.specs.Book.{state_of}
use Rattle.bidding.specs.Floors.{floor_of, pence_of}
use Rattle.bidding.specs.Slides.{test_open, pick_of, priced, handed_to, gains_to, HandedOver, handed_over, bid_by_slides, bid_until_now, settle_by_slides, arrived_by_slides, withdrawn_by_slides}

-- ---- Steps 1 and 2

-- "test open entries": the weight of an open edge, and 0 of any other
pub record Tested (p q : ℕ) (w y : ℕ → ℕ) (k : ℕ) : Type 0 where
  pub kept : Open p q (w k) (y k) → test_open p q w y k ≡ w k
  pub shut : (Open p q (w k) (y k) → ⊥) → test_open p q w y k ≡ 0

abbrev pub TestMeans : Type 0
TestMeans = (p q : ℕ) (w y : ℕ → ℕ) (k : ℕ) → Tested p q w y k

-- "pick": the choice among all edges that have a utility, and the second of them, whatever the slack
abbrev pub PickMeans : Type 0
PickMeans = (q m : ℕ) (w y : ℕ → ℕ) → Choice 0 q m w y (pick_of q w y m)

-- Picked among the tested, the edge is that which the rule chooses, and the second is the rule's
abbrev pub TestThenPick : Type 0
TestThenPick = (p q m : ℕ) (w y : ℕ → ℕ) → pick_of q (test_open p q w y) y m ≡ best_of p q w y m

-- An edge, of a weight within the limit, is open exactly when its weight is over the floor
abbrev pub OpenAboveFloor : Type 0
OpenAboveFloor = (p q w y : ℕ) → p < q → w ≤ max_weight → (floor_of p q y < w → Open p q w y) × (Open p q w y → floor_of p q y < w)

-- What is left of an open edge's weight over the price in whole pence is its utility in pence, rounded up
abbrev pub RoundedUp : Type 0
RoundedUp = (q w y : ℕ) → 0 < q → w ≤ max_weight → y < q * w →
    (q * (w - pence_of q y - 1) < utility q w y) × (utility q w y ≤ q * (w - pence_of q y)) × (0 < w - pence_of q y)

-- ---- Steps 3 and 4

-- On lists of plain numbers: the board that they come to
abbrev pub PlainSteps : Type 0
PlainSteps =
    (market : Market) (weights prices holders gains : List ℕ) (i k w lead s : ℕ) →
    auction market weights
    (state_of (set prices k (raised_to market.slack.p w lead (cells prices k))) (handed_to holders k i) (gains_to 0 gains i s (holder_of (cells holders k)))) ≡
    (handed_over (priced (auction market weights (state_of prices holders gains)) k w lead) i k s).auction

-- On the lists of a state, as the code changes them
abbrev pub StateSteps : Type 0
StateSteps =
    (market : Market) (weights : List ℕ) (state : State) (i k w lead : ℕ) (s : Scaled) →
    auction market weights
    (record {
      price = set state.price k (scaled (raised_to market.slack.p w lead (scaled_at state.price k)));
      holder = handed_to state.holder k i;
      gain = gains_to (scaled 0) state.gain i s (holder_of (cells state.holder k));
    }) ≡
    (handed_over (priced (auction market weights state) k w lead) i k s.0).auction

-- ---- All four

-- The bid as the rule defines it is that of which chains are made
abbrev pub UntilNow : Type 0
UntilNow = (fuel : ℕ) (b : Auction) (i bids : ℕ) → settle_of (suc fuel) b i bids ≡ bid_until_now (settle_of fuel) b i bids

-- "These four steps in turn .. equal to the bid as defined until now": whatever `again` makes of the rest of the chain
abbrev pub BidBySlides : Type 0
BidBySlides = (again : Auction → ℕ → ℕ → Outcome AfterChain) (b : Auction) (i bids : ℕ) → bid_by_slides again b i bids ≡ bid_until_now again b i bids

-- The same, step by step
abbrev pub tested_for : Auction → ℕ → ℕ → ℕ
tested_for b i = test_open b.market.slack.p b.market.slack.q (live b i) (price_at b)

abbrev pub picked_for : Auction → ℕ → Option Best
picked_for b i = pick_of b.market.slack.q (tested_for b i) (price_at b) b.market.items

abbrev pub handed_for : Auction → ℕ → ℕ → Pence → Scaled → Scaled → HandedOver
handed_for b i k w u s = handed_over (priced b k w.0 (u.0 - s.0)) i k s.0

pub record InTurn (again : Auction → ℕ → ℕ → Outcome AfterChain) (b : Auction) (i bids : ℕ) : Type 0 where
  pub nothing : picked_for b i ≡ None → bid_until_now again b i bids ≡ done (after_chain b bids)
  pub free : (k : ℕ) (w : Pence) (u s : Scaled) → picked_for b i ≡ Some (best_edge k w u s) → (handed_for b i k w u s).before ≡ Free →
      bid_until_now again b i bids ≡ done (after_chain (handed_for b i k w u s).auction (bids + 1))
  pub held : (k : ℕ) (w : Pence) (u s : Scaled) (x : ℕ) → picked_for b i ≡ Some (best_edge k w u s) → (handed_for b i k w u s).before ≡ Held x →
      bid_until_now again b i bids ≡ again (handed_for b i k w u s).auction x (bids + 1)

abbrev pub StepsInTurn : Type 0
StepsInTurn = (again : Auction → ℕ → ℕ → Outcome AfterChain) (b : Auction) (i bids : ℕ) → InTurn again b i bids

-- So every chain, and what the moves come to
abbrev pub ChainBySlides : Type 0
ChainBySlides = (fuel : ℕ) (b : Auction) (i bids : ℕ) → settle_by_slides fuel b i bids ≡ settle_of fuel b i bids

abbrev pub ArrivedBySlides : Type 0
ArrivedBySlides = (b : Auction) (row : List ℕ) → arrived_by_slides b row ≡ arrived_of b row

abbrev pub WithdrawnBySlides : Type 0
WithdrawnBySlides = (b : Auction) (item : ℕ → ℕ) (n : ℕ) → withdrawn_by_slides b item n ≡ withdrawn_of b item n
