-- `columns::plan_by_item` meets its contract: the list is filled from its start.
use Prim.Native.Nat.{suc}
use lib.ListN.{get_or}
use Rattle.duality.specs.Lists.{cells}
use Rattle.duality.specs.Matching.{at_cell}
use Rattle.board.specs.Limits.{max_bidders}
use Rattle.board.proofs.Filling.{Filled}
use Rattle.supply.proofs.columns.plan_by_item.Given as goal

abbrev pub invariant-loop-i : goal.invariant-loop-i
invariant-loop-i l = Filled max_bidders (λ j. at_cell (λ s. suc (get_or l.owner s 0)) (cells l.plan j)) l.i l.named
