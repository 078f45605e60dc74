-- `columns::plan_by_item` meets its contract: the list is filled from its start.
use Rattle.supply.proofs.columns.plan_by_item.Goals as goal

pub item_number-requires : goal.item_number-requires
item_number-requires c = c.requires.plan c.loop-i.i c.loop-i-test.true
