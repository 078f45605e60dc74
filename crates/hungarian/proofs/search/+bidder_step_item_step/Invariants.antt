-- `bidder_step` and `item_step` end: the measure is twice the number of unvisited items, and one more for a bidder.
use Prim.Native.Nat.{◌+◌}
use Rattle.hungarian.specs.Tree.{unvisited}
use Rattle.hungarian.proofs.search.+bidder_step_item_step.Given as goal

abbrev pub decreases-bidder_step : goal.decreases-bidder_step
decreases-bidder_step l = unvisited l.search.now.visited + unvisited l.search.now.visited + 1

abbrev pub decreases-item_step : goal.decreases-item_step
decreases-item_step l = unvisited l.search.now.visited + unvisited l.search.now.visited
