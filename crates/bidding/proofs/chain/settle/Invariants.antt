-- `chain::settle` meets its contract: the chain on its way is the chain it began.
use Prim.Native.Nat.{◌-◌}
use Rattle.board.specs.Cells.{auction}
use Rattle.bidding.specs.Rule.{fuel_of}
use Rattle.bidding.proofs.Running.{Running}
use Rattle.bidding.proofs.chain.settle.Given as goal

abbrev pub invariant-loop-item : goal.invariant-loop-item
invariant-loop-item l =
    Running (auction l.market l.weights l.initial.state) l.bidder l.market l.weights l.state l.floors l.tested l.next l.bids

abbrev pub decreases-loop-item : goal.decreases-loop-item
decreases-loop-item l = fuel_of (auction l.market l.weights l.initial.state) - l.bids
