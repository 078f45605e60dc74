-- `line::put_row` meets its contract. Four columns, one after the other.
use Rattle.text.proofs.Outs.{puts_then, puts_as}
use Rattle.layout.proofs.Rows.{row-parts}
use Rattle.layout.proofs.line.put_row.Goals as goal

pub returns : goal.returns
returns c =
    puts_as (row-parts c.args.n c.args.row)
    (puts_then c.put_column.ensures (puts_then c.put_item_column.ensures (puts_then c.put_column-2.ensures c.put_column-3.ensures)))
