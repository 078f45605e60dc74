-- `settle`: the first i bidders are settled.
use Rattle.hungarian.specs.Settled.{SettledIn}
use Rattle.hungarian.proofs.solver.settle.Given as goal

abbrev pub invariant-loop-i : goal.invariant-loop-i
invariant-loop-i l = SettledIn l.weights l.settled.price l.settled.gain l.settled.holder l.i
