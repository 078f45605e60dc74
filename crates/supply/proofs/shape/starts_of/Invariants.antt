-- `shape::starts_of` meets its contract: the list is filled from its start.
use mathlib.Core.Path.{◌≡◌}
use Rattle.board.specs.Limits.{max_items}
use Rattle.board.proofs.Filling.{Filled}
use Rattle.supply.specs.Board.{start_in}
use Rattle.supply.proofs.shape.starts_of.Given as goal

abbrev pub invariant-loop-k : goal.invariant-loop-k
invariant-loop-k l = (l.next ≡ start_in l.items l.k) × Filled max_items (start_in l.items) l.k l.starts
