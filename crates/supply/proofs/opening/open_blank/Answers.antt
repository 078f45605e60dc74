-- `opening::open_blank` meets its contract.
use Rattle.supply.proofs.Openings.{blank-opened}
use Rattle.supply.proofs.opening.open_blank.Goals as goal

pub returns : goal.returns
returns c = blank-opened _ _ _ c.requires.blank c.items_of-board.ensures c.sum_of-board.ensures.sum
