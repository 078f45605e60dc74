-- `write::put_break` meets its contract.
use Rattle.std.proofs.Common.{sym, ◌∙◌}
use Rattle.text.proofs.Outs.{puts_none, puts_as}
use Rattle.layout.proofs.Fronts.{next-bytes}
use Rattle.layout.proofs.Written.{break-due, break-none}
use Rattle.layout.proofs.write.put_break.Goals as goal

pub returns-then-breaks_after : goal.returns-then-breaks_after
returns-then-breaks_after c = puts_as (break-due c.args.i _ next-bytes (sym c.breaks_after.ensures ∙ c.if-breaks_after.true)) c.put_all.ensures

pub returns-else-breaks_after : goal.returns-else-breaks_after
returns-else-breaks_after c = puts_as (break-none c.args.i (sym c.breaks_after.ensures ∙ c.if-breaks_after.false)) (puts_none c.args.out.now)
