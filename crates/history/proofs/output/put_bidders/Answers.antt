-- `output::put_bidders` meets its contract: line by line.
use Rattle.std.proofs.Common.{arith}
use Rattle.text.proofs.Outs.{puts_none, puts_then, puts_as}
use Rattle.duality.specs.Lists.{cells}
use Rattle.history.proofs.Outputs.{bidder-more, no-bidders}
use Rattle.history.proofs.output.put_bidders.Goals as goal

pub loop-i-init : goal.loop-i-init
loop-i-init c = record { put = puts_as (no-bidders _ _) (puts_none c.args.out.now); few = omega arith }

pub loop-i-preserved : goal.loop-i-preserved
loop-i-preserved c =
    let a = c.args in
    let i = c.loop-i.invariant in
    record {
      put =
          puts_as (bidder-more (cells a.plan.now) (cells a.gains.now) c.loop-i.i)
          (puts_then i.put (c.put_line.ensures.line (omega (arith, i.few, c.requires.count, c.requires.at))));
      few = omega (arith, i.few, c.put_line.ensures.short (omega arith));
    }
