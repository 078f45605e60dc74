-- `clash::cell_holds` meets its contract: an item may be named as often as it has places.
use mathlib.Core.Path.{◌∙◌}
use Rattle.matching.proofs.CellTests.{cell-left}
use Rattle.matching.proofs.clash.cell_holds.Goals as goal

pub returns-clause-test : goal.returns-clause-test
returns-clause-test c =
    cell-left _ _ _ _ _ _ _ _ c.if-item-eq0.false (rw c.items.ensures.items at c.if-item-items.false) (λ e. c.if-weight-eq0.false (c.weight.ensures.live ∙ e))
    c.named_before.ensures.named (c.from.ensures ∙ c.places.ensures)
