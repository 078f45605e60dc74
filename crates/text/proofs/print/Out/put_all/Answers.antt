-- `print::put_all` meets its contract.
use Rattle.std.proofs.Common.{sym}
use Rattle.std.proofs.lemmas.List.{take_more}
use Rattle.text.proofs.Outs.{puts_then, puts_as}
use Rattle.text.proofs.print.Out.put_all.Goals as goal

pub loop-byte-preserved : goal.loop-byte-preserved
loop-byte-preserved c =
    puts_as (sym (take_more c.args.bytes.now c.loop-byte.byte-index 0 c.loop-byte-test.true)) (puts_then c.loop-byte.invariant c.put.ensures)
