-- `shape::fill` meets its contract: cell by cell.
use mathlib.Core.Path.{◌≡◌}
use native.Mathlib.Omega.{arith}
use borrow.Author.Rules.{rules}
use Rattle.supply.proofs.Shaping.{filled-start, filled-one, filled_next}
use Rattle.supply.proofs.shape.fill.Goals as goal

pub returns-then-cells-eq1 : goal.returns-then-cells-eq1
returns-then-cells-eq1 c =
    rw c.if-cells-eq1.true (filled-one c.args.list.now c.args.from c.args.value)

pub loop-j-init : goal.loop-j-init
loop-j-init c = (search rules, filled-start _ _ _)

pub loop-j-preserved : goal.loop-j-preserved
loop-j-preserved c = (omega arith, filled_next _ _ _ _ _ c.loop-j.invariant.1)

pub returns : goal.returns
returns c =
    let all : c.loop-j.j ≡ c.args.cells = omega arith in
    rw (← all) c.loop-j.invariant.1
