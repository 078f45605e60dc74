-- `LiveSheet::weight` meets its contract: the first place speaks for the item.
use Rattle.matching.proofs.Firsts.{live-cell}
use Rattle.matching.proofs.live.LiveSheet.weight.Goals as goal

pub returns-clause-live : goal.returns-clause-live
returns-clause-live c =
    rw (← c.self.view_is) (live-cell c.self.invariant _ (rw (← c.self.view_is) at c.requires.item) _ _ _ _ c.if-board-s-ne0.false c.weight_in-weight.ensures.weight)
