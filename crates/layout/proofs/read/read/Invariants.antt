-- `read::read` meets its contract. The invariant: so many good lines have the rows so far, and the rest comes next.
use Rattle.std.proofs.Common.{length}
use Rattle.layout.proofs.Seen.{Going}
use Rattle.layout.proofs.read.read.Given as goal

abbrev pub invariant-loop-rest : goal.invariant-loop-rest
invariant-loop-rest l = Going l.text l.rest l.rows.items l.lines

abbrev pub decreases-loop-rest : goal.decreases-loop-rest
decreases-loop-rest l = length l.rest
