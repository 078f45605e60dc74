-- Histories: the boards that calls reach from an opening, with the edges accepted and the bids returned on the way.
use Rattle.std.specs.Prelude.{◌≡◌, List, [], ◌∷◌, ℕ, ◌+◌, ◌-◌, ◌*◌, ◌≤◌, Ok, Result, Err}
use Rattle.duality.specs.Steps.{most}
use Rattle.supply.specs.declared.record.Board.{Board}
use Rattle.board.specs.declared.record.Edge.{Edge}
use Rattle.refusals.specs.declared.Refusal.{Refusal}
use Rattle.auction.specs.Arrive.{Arrival, arrive_of, arrived_told}
use Rattle.auction.specs.Withdraw.{Withdrawal, withdraw_of, withdrawn_told}
use Rattle.supply.specs.declared.record.Items.{Items}
use Rattle.supply.specs.Board.{auction_of, places_in}
use Rattle.supply.specs.Sound.{Sound}
use Rattle.bidding.specs.Rule.{done}
use Rattle.bidding.specs.Potential.{edge_count}
use Rattle.supply.specs.Opening.{opened, open_of}

-- "the bid bound counts an entry once per place" (document 02, R-6): the edges of a list, each as often as its item has places
abbrev pub once_per_place : Items → List Edge → ℕ
once_per_place items [] = 0
once_per_place items (e ∷ rest) = places_in items (e.item - 1) + once_per_place items rest

-- The edges that an arrival adds: none where it is refused
abbrev pub edges_added : Items → Result ℕ Refusal → List Edge → ℕ
edges_added items (Ok n) edges = once_per_place items edges
edges_added items (Err r) edges = 0

-- The board after a history, the edges accepted in it, once per place, and the sum of the bid counts that its calls returned (a refused call tells value 0). Calls that only read
-- leave the board as it is, so a history with them reaches the same
pub data Reached : Board → ℕ → ℕ → Type 0 where
  opens : (items p q : ℕ) (counts : List ℕ) → open_of items p q counts ≡ record { board = opened p q counts; answer = Ok tt } →
      Reached (opened p q counts) 0 0
  arrives : {b : Board} {e n : ℕ} (edges : List Edge) (r : Arrival) → Reached b e n → arrive_of b edges ≡ done r →
      Reached r.board (e + edges_added b.items r.answer edges) (n + (arrived_told r.answer).value)
  withdraws : {b : Board} {e n : ℕ} (items : List ℕ) (r : Withdrawal) → Reached b e n → withdraw_of b items ≡ done r →
      Reached r.board e (n + (withdrawn_told r.answer).value)

-- "Over every history from opening, the bids number at most the entries ever accepted times the whole part of (q - 1)/p"
pub record History (b : Board) (e n : ℕ) : Type 0 where
  pub sound : Sound b
  -- The entries ever accepted, once per place, are those that stand on the board, withdrawn items' too
  pub edges : edge_count (auction_of b) ≡ e
  pub bids : n ≤ e * most b.market.slack.p b.market.slack.q

abbrev pub HistoryDemand2 : Type 0
HistoryDemand2 = (b : Board) (e n : ℕ) → Reached b e n → History b e n
