-- `shape::owners_of` meets its contract: each item has its own cell.
use Rattle.board.specs.Limits.{max_items}
use Rattle.board.proofs.Filling.{Filled}
use Rattle.supply.proofs.shape.owners_of.Given as goal

abbrev pub invariant-loop-k : goal.invariant-loop-k
invariant-loop-k l = Filled max_items (λ j. j) l.k l.cells
