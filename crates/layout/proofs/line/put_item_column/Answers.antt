-- `line::put_item_column` meets its contract.
use Rattle.std.proofs.Common.{List, ℕ, [], ◌∷◌, ◌++◌, ap}
use Rattle.text.proofs.Outs.{puts_as}
use Rattle.layout.specs.Limits.{item_columns, blank}
use Rattle.layout.specs.Page.{padded}
use Rattle.layout.proofs.Columns.{dashes, item-decimal}
use Rattle.layout.proofs.line.put_item_column.Goals as goal

pub returns-then-item-eq0 : goal.returns-then-item-eq0
returns-then-item-eq0 c = puts_as (dashes c.args.item c.if-item-eq0.true) c.put_all.ensures

pub returns-else-item-eq0 : goal.returns-else-item-eq0
returns-else-item-eq0 c =
    let e = ap (λ (text : List ℕ). padded item_columns text ++ (blank ∷ [])) (item-decimal c.args.item c.if-item-eq0.false) in
    puts_as e c.put_column.ensures
