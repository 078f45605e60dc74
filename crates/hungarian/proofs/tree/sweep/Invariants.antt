-- `sweep`: each item that is passed is relaxed, the others are as they were, and the fall is the least excess so far.
use Rattle.duality.specs.Lists.{cells}
use Rattle.hungarian.specs.Weights.{matrix_at}
use Rattle.hungarian.specs.Reach.{Swept}
use Rattle.hungarian.proofs.tree.sweep.Given as goal

abbrev pub invariant-loop-j : goal.invariant-loop-j
invariant-loop-j l =
    Swept (matrix_at l.cover.weights.now) (cells l.cover.price.now) l.bidder l.level l.left.items
    l.initial.edges.excess l.initial.edges.parents l.edges.excess l.edges.parents l.low l.cell l.fall l.j
