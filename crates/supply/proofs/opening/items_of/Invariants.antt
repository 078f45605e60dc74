-- `opening::items_of` meets its contract: the counts are written, cell by cell.
use mathlib.Core.Path.{◌≡◌}
use lib.ListN.{replicate}
use Rattle.duality.specs.Lists.{cells}
use Rattle.board.specs.Limits.{max_items}
use Rattle.board.specs.Lent.{written}
use Rattle.supply.proofs.opening.items_of.Given as goal

abbrev pub invariant-loop-k : goal.invariant-loop-k
invariant-loop-k l = l.places ≡ written l.k (cells l.counts) (replicate max_items 0)
