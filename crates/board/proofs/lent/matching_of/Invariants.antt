-- `lent::matching_of` meets its contract: each item that is passed has its holder's cell.
use Rattle.board.proofs.Filling.{Turning}
use Rattle.board.proofs.lent.matching_of.Given as goal

abbrev pub invariant-loop-k : goal.invariant-loop-k
invariant-loop-k l = Turning l.fn.holder l.k l.matching
