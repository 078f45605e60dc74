-- `items::items_verdict` meets its contract: what is left to test says the same as all.
use lib.ListN.{length}
use Rattle.duality.specs.Lists.{cells}
use Rattle.supply.specs.ByItem.{withdrawn_at}
use Rattle.refusals.proofs.Each.{Left}
use Rattle.auction.specs.Items.{item_checks}
use Rattle.auction.proofs.items.items_verdict.Given as goal

abbrev pub invariant-loop-i : goal.invariant-loop-i
invariant-loop-i l = Left (item_checks l.sheet.items.count (withdrawn_at l.sheet) (cells l.items)) (length l.items) l.i
