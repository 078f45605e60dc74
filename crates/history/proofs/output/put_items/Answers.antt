-- `output::put_items` meets its contract: line by line, each item by the flag of its first place.
use Rattle.std.proofs.Common.{◌≡◌, ◌∙◌, ap, arith}
use Rattle.text.proofs.Outs.{puts_none, puts_then, puts_as}
use Rattle.duality.specs.Lists.{cells}
use Rattle.board.specs.Cells.{flag_at}
use Rattle.supply.specs.ByItem.{gone_by}
use Rattle.history.specs.Output.{item_lines}
use Rattle.history.proofs.Outputs.{item-more, no_items, flags-same}
use Rattle.history.proofs.output.put_items.Goals as goal
use Rattle.history.proofs.output.put_items.Invariants.{gone}

pub loop-k-init : goal.loop-k-init
loop-k-init c = record { put = puts_as (no_items _ _) (puts_none c.args.out.now); few = omega arith }

pub loop-k-preserved : goal.loop-k-preserved
loop-k-preserved c =
    let a = c.args in
    let i = c.loop-k.invariant in
    record {
      put = puts_as (item-more (gone c.starts_of-starts.result a.withdrawn) (cells a.prices.now) c.loop-k.k) (puts_then i.put c.put_item.ensures.put);
      few = omega (arith, i.few, c.put_item.ensures.few);
    }

pub returns-clause-put : goal.returns-clause-put
returns-clause-put c =
    let a = c.args in
    let starts = c.starts_of-starts.result in
    let all : c.loop-k.k ≡ a.items.count = omega arith in
    let same =
    flags-same a.items.count (gone starts a.withdrawn) (gone_by a.items a.withdrawn) (cells a.prices.now)
    (λ k m. ap (flag_at a.withdrawn) (c.starts_of-starts.ensures k m)) in
    puts_as (ap (item_lines (gone starts a.withdrawn) (cells a.prices.now)) all ∙ same) c.loop-k.invariant.put
