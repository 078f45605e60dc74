-- `column::put_blanks` meets its contract.
use lib.ListN.{replicate-append-replicate}
use Rattle.text.proofs.Outs.{puts_none, puts_then, puts_as}
use Rattle.layout.specs.Limits.{blank}
use Rattle.layout.proofs.column.put_blanks.Goals as goal

pub loop-init : goal.loop-init
loop-init c = puts_none c.args.out.now

pub loop-preserved : goal.loop-preserved
loop-preserved c = puts_as (replicate-append-replicate c.loop.counter 1 blank) (puts_then c.loop.invariant c.put.ensures)
