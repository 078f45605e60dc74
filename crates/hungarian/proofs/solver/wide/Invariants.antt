-- `wide`: each cell is copied.
use Rattle.hungarian.proofs.Widening.{Widened}
use Rattle.hungarian.proofs.solver.wide.Given as goal

abbrev pub invariant-loop-i : goal.invariant-loop-i
invariant-loop-i l = Widened l.numbers l.list l.i
