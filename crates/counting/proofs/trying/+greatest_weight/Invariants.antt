-- The measure of `trying::greatest_weight` is how many bidders are left, and its loop has tried the items before k.
use Rattle.counting.proofs.Turns.{Tried}
use Rattle.counting.proofs.trying.+greatest_weight.Given as goal

abbrev pub decreases-greatest_weight : goal.decreases-greatest_weight
decreases-greatest_weight l = l.left

abbrev pub invariant-loop-k : goal.invariant-loop-k
invariant-loop-k l = Tried l.left l.items l.rows l.free l.best l.k
