-- `output::put_last` meets its contract: two lines.
use Rattle.std.proofs.Common.{arith}
use Rattle.text.proofs.Outs.{puts_then}
use Rattle.history.proofs.output.put_last.Goals as goal

pub returns-clause-put : goal.returns-clause-put
returns-clause-put c =
    let at = c.requires in
    puts_then (c.put_line.ensures.line (omega arith)) (c.put_line-2.ensures.line (omega (arith, c.put_line.ensures.short (omega arith))))
