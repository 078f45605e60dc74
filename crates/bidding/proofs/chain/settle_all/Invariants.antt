-- `chain::settle_all` meets its contract: those of the marked bidders that have been passed have bid, and the others wait.
use Rattle.board.specs.Cells.{auction, scaled_at}
use Rattle.bidding.specs.Floors.{Floored}
use Rattle.bidding.specs.Withdrawals.{marked}
use Rattle.bidding.proofs.Withdrawing.{Between}
use Rattle.bidding.proofs.chain.settle_all.Given as goal

abbrev pub invariant-loop-i : goal.invariant-loop-i
invariant-loop-i l =
    Between (auction l.market l.weights l.initial.state) (marked l.waiting) l.i (auction l.market l.weights l.state) l.bids × Floored l.market (scaled_at l.state.price) l.floors
