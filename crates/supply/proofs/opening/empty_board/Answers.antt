-- `opening::empty_board` meets its contract.
use Rattle.supply.proofs.Openings.{board-opened}
use Rattle.supply.proofs.opening.empty_board.Goals as goal

pub returns : goal.returns
returns c =
    board-opened _ _ _ c.items_of-items.ensures c.sum_of.ensures.sum c.empty-auction.ensures
