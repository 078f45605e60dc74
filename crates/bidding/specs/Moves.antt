-- What begins a chain of bids: a new bidder's row, or an item that is released. Withdrawals has what a withdrawal of a list is.
use Rattle.std.specs.Prelude.{List, ℕ, ◌+◌, ◌*◌, set}
use Rattle.std.proofs.lemmas.List.Edits.{sets}
use Rattle.board.specs.declared.record.Auction.{Auction}
use Rattle.board.specs.Limits.{max_items}
use Rattle.board.specs.Cells.{scaled, auction, holder_at, holder_of}
use Rattle.bidding.specs.Rule.{AfterChain, settle_of, fuel_of, hand_over, Outcome}

-- The board with the new bidder's edges, before it bids: its number is the next
unfoldable pub entered : Auction → List ℕ → Auction
entered b row =
    auction
    (record { items = b.market.items; slack = b.market.slack; arrived = b.market.arrived + 1; withdrawn = b.market.withdrawn })
    (sets b.weights (b.market.arrived * max_items) row)
    b.state

-- "The new batch bids"
unfoldable pub arrived_of : Auction → List ℕ → Outcome AfterChain
arrived_of b row = settle_of (fuel_of (entered b row)) (entered b row) b.market.arrived 0

-- "it leaves the live sheet and its price becomes 0"; nobody holds it
unfoldable pub released : Auction → ℕ → Auction
released b k =
    auction
    (record { items = b.market.items; slack = b.market.slack; arrived = b.market.arrived; withdrawn = set b.market.withdrawn k 1 })
    b.weights
    (record { price = set b.state.price k (scaled 0); holder = set b.state.holder k 0; gain = b.state.gain })

-- The withdrawal of one item, as it was before lists of them: "Its holder, if any, is unplaced, gain 0, and bids". Nothing is computed by it any more;
-- a list of one is compared with it (WithdrawalLaws: ListOfOne)
unfoldable pub withdrawn_one_of : Auction → ℕ → Outcome AfterChain
withdrawn_one_of b k = hand_over (settle_of (fuel_of (released b k))) (released b k) 0 (holder_of (holder_at b k))
