-- `adjust`: prices and gains are adjusted at each item that is passed.
use Rattle.duality.specs.Lists.{cells}
use Rattle.board.specs.Cells.{flag_at}
use Rattle.hungarian.proofs.Adjusting.{Adjusting}
use Rattle.hungarian.proofs.solver.adjust.Given as goal

abbrev pub invariant-loop-k : goal.invariant-loop-k
invariant-loop-k l =
    Adjusting (cells l.initial.price) (cells l.initial.gain) (cells l.holders) (flag_at l.search.visited) (cells l.search.edges.excess) l.search.front.fall
    l.price l.gain l.k
