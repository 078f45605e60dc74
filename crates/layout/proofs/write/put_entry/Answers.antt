-- `write::put_entry` meets its contract.
use Rattle.text.proofs.Outs.{puts_then, puts_as}
use Rattle.layout.proofs.Written.{entry-parts}
use Rattle.layout.proofs.write.put_entry.Goals as goal

pub returns : goal.returns
returns c = puts_as (entry-parts c.args.i c.args.row) (puts_then c.put_break.ensures c.put_row.ensures)
