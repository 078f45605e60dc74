-- `keep_live`: item by item.
use Rattle.hungarian.specs.LiveWeights.{LiveTo}
use Rattle.hungarian.proofs.live.keep_live.Given as goal

abbrev pub invariant-loop-k : goal.invariant-loop-k
invariant-loop-k l = LiveTo l.k l.initial.weights l.withdrawn l.weights
