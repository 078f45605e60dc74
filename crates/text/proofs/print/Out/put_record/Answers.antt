-- `print::put_record` meets its contract. Assumes nothing.
use Rattle.std.proofs.Common.{◌≡◌, take, arith}
use Rattle.std.proofs.lemmas.List.{take_all}
use Rattle.text.proofs.Puts.{tabbed-more}
use Rattle.text.proofs.Outs.{puts_then, puts_as}
use Rattle.text.proofs.print.Out.put_record.Goals as goal

pub loop-n-preserved : goal.loop-n-preserved
loop-n-preserved c =
    let i = c.loop-n.invariant in
    let p = puts_then c.put-in-loop-n.ensures c.put_number.ensures.put in
    record {
      put = puts_as (tabbed-more c.args.fields.now c.loop-n.n-index c.loop-n-test.true) (puts_then i.put p);
      few = omega (arith, i.few, c.put-in-loop-n.ensures.moved, c.put_number.ensures.few);
    }

pub returns : goal.returns
returns c =
    let ns = c.args.fields.now in
    let i = c.loop-n.invariant in
    let all : take c.loop-n.n-index ns ≡ ns = take_all c.loop-n.n-index ns c.loop-n-test.false in
    let line = puts_then c.put.ensures (puts_then (rw all at i.put) c.put-2.ensures) in
    record {
      line = line;
      short = λ h. omega (arith, c.put.ensures.moved, i.few, c.put-2.ensures.moved);
    }
