-- What an arrival begins, as the code comes to it.
use mathlib.Core.Path.{◌≡◌, ap, ◌∙◌}
use mathlib.Core.List.{List}
use Prim.Native.Nat.{ℕ, ◌+◌, ◌*◌}
use lib.Seq.{sets}
use Rattle.board.specs.declared.record.Auction.{Auction}
use Rattle.bidding.specs.Rule.{AfterChain, Outcome, settle_of, fuel_of}
use Rattle.board.specs.Limits.{max_items}
use Rattle.board.specs.Cells.{auction}
use Rattle.bidding.specs.Moves.{arrived_of, entered}

-- The board with a new bidder, by its weights
abbrev pub entered_with : Auction → List ℕ → Auction
entered_with b weights =
    auction (record { items = b.market.items; slack = b.market.slack; arrived = b.market.arrived + 1; withdrawn = b.market.withdrawn }) weights b.state

pub entered-as : (b : Auction) (row weights : List ℕ) (o : Outcome AfterChain) → weights ≡ sets b.weights (b.market.arrived * max_items) row →
    o ≡ settle_of (fuel_of (entered_with b weights)) (entered_with b weights) b.market.arrived 0 → o ≡ arrived_of b row
unfolding arrived_of entered
entered-as b row weights o e h = h ∙ ap (λ w. settle_of (fuel_of (entered_with b w)) (entered_with b w) b.market.arrived 0) e
