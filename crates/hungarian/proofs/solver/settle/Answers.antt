-- `settle` meets its contract: the first i bidders are settled.
use Rattle.hungarian.proofs.Inserting.{none_in}
use Rattle.hungarian.proofs.solver.settle.Goals as goal

pub loop-i-init : goal.loop-i-init
loop-i-init c = none_in _
