-- Demand 2: the bids of the rule, the sum and the share. The count of bids over every history is in Histories.
use Rattle.std.specs.Prelude.{◌≡◌, List, ℕ, suc, ◌+◌, ◌-◌, ◌*◌, ◌≤◌, ◌<◌, length}
use Rattle.duality.specs.Matching.{weight_of}
use Rattle.duality.specs.Cover.{total}
use Rattle.duality.specs.Lists.{cells}
use Rattle.places.specs.Places.{Ones, AtItem}
use Rattle.places.specs.Plan.{IsPlan}
use Rattle.places.specs.Total.{total_with}
use Rattle.supply.specs.declared.record.Board.{Board}
use Rattle.board.specs.declared.record.Edge.{Edge}
use Rattle.board.specs.declared.record.Holder.TheVariants.{Free}
use Rattle.auction.specs.Arrive.{Arrival, row_on, arrive_of, ArriveAnswers}
use Rattle.auction.specs.Withdraw.{Withdrawal, places_on, withdraw_of, WithdrawAnswers}
use Rattle.supply.specs.Board.{auction_of, places_at, item_at}
use Rattle.supply.specs.ByItem.{live, gain_at, price_at, matching_of, matching_weight, edges_of}
use Rattle.board.specs.Cells as place
use Rattle.board.specs.Cells.{holder_at, holder_of}
use Rattle.refusals.specs.Told.{served}
use Rattle.supply.specs.Sound.{Sound}
use Rattle.bidding.specs.Rule.{Chain, done}
use Rattle.bidding.specs.Moves.{entered}
use Rattle.bidding.specs.Withdrawals.{vacated_to, named_in, displaced_by, Chains}
use Rattle.bidding.specs.WithdrawalLaws.{AllGone, InNumberOrder}
use Rattle.auction.specs.ReadOut.{ReadOutAnswers}
use Rattle.board.specs.Lent.{Lists}

-- ---- Every call ends: the computed chain is never spent, on any input

abbrev pub ArriveEnds : Type 0
ArriveEnds = (b : Board) (edges : List Edge) → (r : Arrival) × (arrive_of b edges ≡ done r)

abbrev pub WithdrawEnds : Type 0
WithdrawEnds = (b : Board) (items : List ℕ) → (r : Withdrawal) × (withdraw_of b items ≡ done r)

-- ---- "each accepted call makes the bids of the paper's rule, no more and no fewer, and leaves the plan, prices and gains they give": the rule's own
-- chain over places, its length returned; the entries of the board; and the board after is sound

-- "one list of entries": the new bidder's edges are the list, and the other bidders' are as they were
pub record Arrives (b : Board) (edges : List Edge) (c : Board) (n : ℕ) : Type 0 where
  pub before : Sound b
  pub chain : Chain (entered (auction_of b) (row_on b.items edges)) b.market.arrived (auction_of c) n
  pub entries : edges_of c b.market.arrived ≡ edges
  pub others : (i : ℕ) → i < b.market.arrived → edges_of c i ≡ edges_of b i
  pub same : c.items ≡ b.items
  pub after : Sound c

abbrev pub ArriveDemand2 : Type 0
ArriveDemand2 = (b c : Board) (edges : List Edge) (n : ℕ) → ArriveAnswers b edges c (served n) → Arrives b edges c n

-- "All go first; then the displaced batches bid in number order, each chain run to its end" (document 02, R-3); "A withdrawal removes all places" (R-6)
pub record Withdraws (b : Board) (items : List ℕ) (c : Board) (n : ℕ) : Type 0 where
  pub before : Sound b
  -- The places that go are those of the items of the list
  pub places : (s : ℕ) → s < b.market.items →
      named_in (cells (places_on b.items items)) (length (places_on b.items items)) (suc s) ≡ named_in (cells items) (length items) (suc (item_at b.items s))
  pub gone : AllGone (auction_of b) (cells (places_on b.items items)) (length (places_on b.items items))
      (vacated_to (auction_of b) (cells (places_on b.items items)) (length (places_on b.items items)))
  pub order : InNumberOrder (auction_of b) (cells (places_on b.items items)) (length (places_on b.items items))
      (displaced_by (auction_of b) (cells (places_on b.items items)) (length (places_on b.items items)))
  pub chains : Chains (vacated_to (auction_of b) (cells (places_on b.items items)) (length (places_on b.items items)))
      (displaced_by (auction_of b) (cells (places_on b.items items)) (length (places_on b.items items))) (auction_of c) n
  pub others : (i : ℕ) → edges_of c i ≡ edges_of b i
  pub same : c.items ≡ b.items
  pub after : Sound c

abbrev pub WithdrawDemand2 : Type 0
WithdrawDemand2 = (b c : Board) (items : List ℕ) (n : ℕ) → WithdrawAnswers b items c (served n) → Withdraws b items c n

-- ---- On every sound board, also one that no history reaches

-- "I hold the dearest unplaced batch against each free kettle": no unplaced bidder has a live edge at an item with a free place
abbrev pub Busy : Board → Type 0
Busy b =
    (i k s : ℕ) → i < b.market.arrived → matching_of b i ≡ 0 → k < b.items.count → 0 < live b i k →
    AtItem (places_at b) k s → holder_of (holder_at (auction_of b) s) ≡ Free → ⊥

pub record QuickBoard (b : Board) : Type 0 where
  -- "Prices plus gains total q + p times the plan's worth"; "The board's own sum .. counts every place's price" (document 02, R-6)
  pub sum : total b.market.arrived b.market.items (place.price_at (auction_of b)) (gain_at b) ≡ (b.market.slack.q + b.market.slack.p) * matching_weight b
  -- "worth times q + p is at least q - p times the worth of every plan on the live sheet": "A plan may name a kettle once per place"
  pub share : (other : ℕ → ℕ) → IsPlan b.market.arrived b.items.count (places_at b) (live b) other →
      (b.market.slack.q - b.market.slack.p) * weight_of b.market.arrived (live b) other ≤ (b.market.slack.q + b.market.slack.p) * matching_weight b
  -- The board's own plan is one
  pub plan : IsPlan b.market.arrived b.items.count (places_at b) (live b) (matching_of b)
  pub busy : Busy b

abbrev pub SoundDemand2 : Type 0
SoundDemand2 = (b : Board) → Sound b → QuickBoard b

-- What a read-out writes: the matching, the prices and the gains of the board, further cells as they were
pub record Reads (b : Board) (before after : Lists) : Type 0 where
  pub plan : (i : ℕ) → i < b.market.arrived → cells after.plan i ≡ matching_of b i
  pub prices : (k : ℕ) → k < b.items.count → cells after.prices k ≡ price_at b k
  pub gains : (i : ℕ) → i < b.market.arrived → cells after.gains i ≡ gain_at b i
  pub plan_kept : (i : ℕ) → b.market.arrived ≤ i → cells after.plan i ≡ cells before.plan i
  pub prices_kept : (k : ℕ) → b.items.count ≤ k → cells after.prices k ≡ cells before.prices k
  pub gains_kept : (i : ℕ) → b.market.arrived ≤ i → cells after.gains i ≡ cells before.gains i
  pub plan_length : length after.plan ≡ length before.plan
  pub prices_length : length after.prices ≡ length before.prices
  pub gains_length : length after.gains ≡ length before.gains
  -- "a check of read-out prices may total less than q + p times the worth, never more" (document 02, R-6): a price counts once per place
  pub sum : total_with b.market.arrived b.items.count (places_at b) (cells after.prices) (cells after.gains) ≤
      (b.market.slack.q + b.market.slack.p) * weight_of b.market.arrived (live b) (cells after.plan)
  -- With one place each, exactly that
  pub whole : Ones b.items.count (places_at b) →
      total b.market.arrived b.items.count (cells after.prices) (cells after.gains) ≡
      (b.market.slack.q + b.market.slack.p) * weight_of b.market.arrived (live b) (cells after.plan)

abbrev pub ReadOutDemand2 : Type 0
ReadOutDemand2 = (b : Board) (before after : Lists) → ReadOutAnswers b before after (served 0) → Reads b before after
