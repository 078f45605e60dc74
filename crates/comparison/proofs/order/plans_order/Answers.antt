-- `order::plans_order` meets its contract: weights first, then cells.
use mathlib.Core.Path.{ap₂, ◌∙◌}
use Rattle.std.specs.Ordering.{ordering_then}
use Rattle.std.specs.Cmp.{ranks}
use Rattle.comparison.proofs.CellsInOrder.{then_smaller, cells_in_order}
use Rattle.comparison.proofs.order.plans_order.Goals as goal

pub returns : goal.returns
returns c = c.then.ensures ∙ ap₂ ordering_then c.cmp.ensures (c.cmp-2.ensures ∙ cells_in_order _ _ c.requires) ∙ then_smaller _ _ _ _ (ranks c.args.other.0 c.args.weight.0)
