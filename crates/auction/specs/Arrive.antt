-- Arrive: "13, 3, then entry by entry 4, 5, 6, 7".
use Rattle.std.specs.Prelude.{◌≡◌, Result, Ok, Err, true, not, List, ◌∷◌, ℕ, suc, ◌-◌, ◌≤◌, ◌<◌, length, leb}
use Rattle.supply.specs.declared.record.Board.{Board}
use Rattle.board.specs.declared.record.Edge.{Edge}
use Rattle.refusals.specs.declared.Refusal.{Refusal}
use Rattle.refusals.specs.declared.Refusal.TheVariants.{Full, Unknown, Gone, Worth, Order, Spoilt}
use Rattle.refusals.specs.declared.Told.{Told}
use Rattle.refusals.specs.Told.{served, refused}
use Rattle.board.specs.Limits.{max_bidders, max_weight}
use Rattle.supply.specs.ByItem.{withdrawn_at}
use Rattle.supply.specs.declared.record.Items.{Items}
use Rattle.supply.specs.Board.{auction_of, on_items}
use Rattle.supply.specs.Spread.{spread_row}
use Rattle.supply.specs.Sound.{Sound}
use Rattle.supply.specs.SoundTest.{sound_test}
use Rattle.bidding.specs.Rule.{AfterChain, Outcome, done, spent}
use Rattle.auction.specs.Edges.{item_in, weight_in, edges_checks, row_to}
use Rattle.refusals.specs.Demand1.{Check, check_for, first_of, Verdict}
use Rattle.board.specs.Ranges.{Within}
use Rattle.bidding.specs.Moves.{arrived_of}

-- The rows of the table, of edges that the list has: edge i + 1 is cell i
pub data ArriveMet (b : Board) (edges : List Edge) : Refusal → Type 0 where
  -- "the board handed in is not sound"
  spoilt : (Sound b → ⊥) → ArriveMet b edges Spoilt
  -- "128 batches have arrived"
  full : max_bidders ≤ b.market.arrived → ArriveMet b edges Full
  -- "kettle not 1 to k"
  unknown : {i : ℕ} → i < length edges → (Within 1 b.items.count (item_in edges i) → ⊥) → ArriveMet b edges (Unknown (suc i))
  -- "kettle withdrawn"
  gone : {i : ℕ} → i < length edges → withdrawn_at b (item_in edges i - 1) ≡ true → ArriveMet b edges (Gone (suc i))
  -- "not 1 to 1,000,000"
  worth : {i : ℕ} → i < length edges → (Within 1 max_weight (weight_in edges i) → ⊥) → ArriveMet b edges (Worth (suc i))
  -- "kettle not above the entry before"
  order : {i : ℕ} → suc i < length edges → item_in edges (suc i) ≤ item_in edges i → ArriveMet b edges (Order (suc (suc i)))

-- The checks after that of soundness, and all
unfoldable pub arrive_rest : Board → List Edge → List Check
arrive_rest b edges =
    check_for Full (leb max_bidders b.market.arrived) ∷
    edges_checks b.items.count (withdrawn_at b) (item_in edges) (weight_in edges) 0 (length edges)

abbrev pub arrive_checks : Board → List Edge → List Check
arrive_checks b edges = check_for Spoilt (not (sound_test b)) ∷ arrive_rest b edges

-- What an arrival leaves and answers: the board, and the number of bids or the refusal
pub record Arrival : Type 0 where
  pub board : Board
  pub answer : Result ℕ Refusal

abbrev pub arrival : Board → Result ℕ Refusal → Arrival
arrival b a = record { board = b; answer = a }

-- The new bidder's row by place: "a batch compares places", and each place of an item has the item's edges
abbrev pub row_on : Items → List Edge → List ℕ
row_on items edges = spread_row items (row_to (item_in edges) (weight_in edges) (length edges))

-- What the auction over places comes to, on a board of these items
unfoldable pub arrival_of : Items → Outcome AfterChain → Outcome Arrival
arrival_of items spent = spent
arrival_of items (done s) = done (arrival (on_items items s.auction) (Ok s.bids))

unfoldable pub arrive_by : Board → List Edge → Verdict → Outcome Arrival
arrive_by b edges (Ok tt) = arrival_of b.items (arrived_of (auction_of b) (row_on b.items edges))
arrive_by b edges (Err r) = done (arrival b (Err r))

unfoldable pub arrive_of : Board → List Edge → Outcome Arrival
arrive_of b edges = arrive_by b edges (first_of (arrive_checks b edges))

-- What is told: "Arrive and withdraw return the number of bids made"
abbrev pub arrived_told : Result ℕ Refusal → Told
arrived_told (Ok n) = served n
arrived_told (Err r) = refused r

-- An arrival leaves the board c, and tells t
pub record ArriveAnswers (b : Board) (edges : List Edge) (c : Board) (t : Told) : Type 0 where
  pub answer : Result ℕ Refusal
  pub outcome : arrive_of b edges ≡ done (arrival c answer)
  pub tells : arrived_told answer ≡ t
