-- `Left::all`: the list is filled from its start.
use Rattle.board.specs.Limits.{max_items}
use Rattle.board.proofs.Filling.{Filled}
use Rattle.hungarian.proofs.tree.Left.all.Given as goal

abbrev pub invariant-loop-k : goal.invariant-loop-k
invariant-loop-k l = Filled max_items (λ j. j) l.k l.items
