-- `spread::push_places` meets its contract: number by number.
use mathlib.Core.Path.{sym, ◌∙◌}
use mathlib.Core.List.{append-nil}
use native.Mathlib.Omega.{arith}
use borrow.Author.Rules.{rules}
use lib.ListN.{take, length-set}
use Rattle.supply.proofs.Spreading.{numbers-none, numbers-next}
use Rattle.supply.proofs.spread.push_places.Goals as goal

pub loop-j-init : goal.loop-j-init
loop-j-init c =
    (search rules, search rules, sym (rw (numbers-none c.args.from) (append-nil (take c.args.named.now.count c.args.named.now.numbers))))

pub loop-j-preserved : goal.loop-j-preserved
loop-j-preserved c =
    let named = c.args.named.now in (
      length-set c.loop-j.named.numbers c.loop-j.named.count _ ∙ c.loop-j.invariant.0,
      omega arith,
      numbers-next
          (take named.count named.numbers)
          c.loop-j.named.numbers
          c.args.from
          c.loop-j.j
          c.loop-j.named.count
          (omega arith)
          c.loop-j.invariant.2,
    )
