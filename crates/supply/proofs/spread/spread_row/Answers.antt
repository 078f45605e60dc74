-- `spread::spread_row` meets its contract: the places of one item after another are written.
use mathlib.Core.Path.{refl}
use native.Mathlib.Omega.{arith}
use Rattle.duality.specs.Lists.{cells}
use Rattle.supply.proofs.Shaping.{starts-in, start-next, spread_none, spread-next}
use Rattle.supply.proofs.Spreading.{spread-all}
use Rattle.supply.proofs.spread.spread_row.Goals as goal

pub loop-k-init : goal.loop-k-init
loop-k-init c = (refl, spread_none c.args.items (cells c.args.row))

pub fill-requires : goal.fill-requires
fill-requires c =
    let h = starts-in c.args.items c.loop-k.k (omega arith) in
    omega (arith, c.loop-k.invariant.0, c.count_in-places.ensures.count, c.requires.all)

pub overflow_add-next : goal.overflow_add-next
overflow_add-next c =
    let h = starts-in c.args.items c.loop-k.k (omega arith) in
    omega (arith, c.loop-k.invariant.0, c.count_in-places.ensures.count, c.requires.all)

pub loop-k-preserved : goal.loop-k-preserved
loop-k-preserved c =
    let items = c.args.items in
    let inv = c.loop-k.invariant in
    let same = c.count_in-places.ensures.count in (
      start-next items c.loop-k.k _ _ inv.0 same,
      spread-next items (cells c.args.row) c.loop-k.k _ _ _ _ _ (omega arith) inv.0 same refl inv.1 c.fill.ensures,
    )

pub returns : goal.returns
returns c =
    spread-all c.args.items c.args.row c.loop-k.k _ (omega arith) c.loop-k.invariant.1
