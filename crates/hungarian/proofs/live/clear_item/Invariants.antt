-- `clear_item`: bidder by bidder.
use Rattle.hungarian.specs.LiveWeights.{Cleared}
use Rattle.hungarian.proofs.live.clear_item.Given as goal

abbrev pub invariant-loop-i : goal.invariant-loop-i
invariant-loop-i l = Cleared l.item l.i l.initial.weights l.weights
