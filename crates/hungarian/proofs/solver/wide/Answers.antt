-- `wide` meets its contract: each cell is copied.
use Rattle.hungarian.proofs.Widening.{widened_none}
use Rattle.hungarian.proofs.solver.wide.Goals as goal

pub loop-i-init : goal.loop-i-init
loop-i-init c = widened_none _
