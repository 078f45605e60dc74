-- `sound::placing_of` meets its contract: what is known of the cells passed.
use Rattle.board.proofs.Placing.{Placed}
use Rattle.board.proofs.sound.placing_of.Given as goal

abbrev pub invariant-loop-k : goal.invariant-loop-k
invariant-loop-k l = Placed l.fn.holder l.arrived l.k l.item
