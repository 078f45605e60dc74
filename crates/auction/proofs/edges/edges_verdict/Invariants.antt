-- `edges::edges_verdict` meets its contract: what is left to test says the same as all.
use lib.ListN.{length}
use Rattle.supply.specs.ByItem.{withdrawn_at}
use Rattle.refusals.proofs.Each.{Left}
use Rattle.auction.specs.Edges.{item_in, weight_in, edge_checks}
use Rattle.auction.proofs.edges.edges_verdict.Given as goal

abbrev pub invariant-loop-i : goal.invariant-loop-i
invariant-loop-i l = Left (edge_checks l.sheet.items.count (withdrawn_at l.sheet) (item_in l.edges) (weight_in l.edges)) (length l.edges) l.i
