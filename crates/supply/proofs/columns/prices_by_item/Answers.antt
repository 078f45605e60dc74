-- `columns::prices_by_item` meets its contract: the list is filled from its start.
use native.Mathlib.Omega.{arith}
use Rattle.duality.specs.Lists.{cells}
use Rattle.board.proofs.Filling.{filled_more}
use Rattle.supply.proofs.Shaping.{starts-in, start-next}
use Rattle.supply.proofs.Reading.{least-item}
use Rattle.supply.proofs.columns.prices_by_item.Goals as goal

pub least_price-requires : goal.least_price-requires
least_price-requires c =
    let part = starts-in c.args.items c.loop-k.k c.loop-k-test.true in
    let h = c.count_in-places.ensures.count in
    record { from = omega (arith, c.requires.all, c.loop-k.invariant.0); places = omega (arith, c.requires.all, c.loop-k.invariant.0) }

pub overflow_add-next : goal.overflow_add-next
overflow_add-next c =
    let part = starts-in c.args.items c.loop-k.k c.loop-k-test.true in
    let h = c.count_in-places.ensures.count in
    omega (arith, c.requires.all, c.loop-k.invariant.0)

pub loop-k-preserved : goal.loop-k-preserved
loop-k-preserved c =
    let inv = c.loop-k.invariant in
    let items = c.args.items in
    let k = c.loop-k.k in
    let places = c.count_in-places.ensures.count in (
      start-next items k _ _ inv.0 places,
      filled_more
          inv.1
          (omega (arith, c.requires.count))
          (least-item items (cells c.args.prices.now) k _ _ _ inv.0 places c.least_price.ensures),
    )
