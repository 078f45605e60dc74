-- `spread::spread_items` meets its contract: the places of one item after another.
use mathlib.Core.Path.{◌≡◌, sym, ap}
use Prim.Native.Nat.{◌-◌}
use native.Mathlib.Omega.{arith}
use lib.ListN.{length}
use Rattle.duality.specs.Lists.{cells}
use Rattle.supply.specs.Spread.{places_named}
use Rattle.supply.proofs.Spreading.{named_none, named-before, named_in, named-few, named_more}
use Rattle.supply.proofs.spread.spread_items.Goals as goal

pub loop-item-init : goal.loop-item-init
loop-item-init c =
    let e = sym (named_none c.args.items (cells c.args.list.now)) in
    (ap length e, e)

pub overflow_sub-k : goal.overflow_sub-k
overflow_sub-k c = (c.requires.listable.within c.loop-item.item-index (omega arith)).low

pub bounds-starts-k : goal.bounds-starts-k
bounds-starts-k c = let w = c.requires.listable.within c.loop-item.item-index (omega arith) in omega (arith, w.low, w.high)

pub bounds-items-k : goal.bounds-items-k
bounds-items-k c = let w = c.requires.listable.within c.loop-item.item-index (omega arith) in omega (arith, w.low, w.high)

pub push_places-requires : goal.push_places-requires
push_places-requires c =
    let i = c.loop-item.item-index in
    let l = c.requires.listable in
    let w = l.within i (omega arith) in
    let items = c.args.items in
    let numbers = cells c.args.list.now in
    let own = c.requires.starts (numbers i - 1) (omega (arith, w.low, w.high)) in
    let all = named_in items numbers (length c.args.list.now) l i (omega arith) in
    let before = named-before items numbers (length c.args.list.now) l i (omega arith) in
    let size = c.loop-item.invariant.0 in
    let own_places = c.count_in.ensures.count in
    record { room = omega (arith, c.requires.fits.all); among = omega (arith, c.requires.fits.all) }

pub loop-item-preserved : goal.loop-item-preserved
loop-item-preserved c =
    let i = c.loop-item.item-index in
    let w = c.requires.listable.within i (omega arith) in
    let numbers = cells c.args.list.now in
    let own = c.requires.starts (numbers i - 1) (omega (arith, w.low, w.high)) in
    let inv = c.loop-item.invariant in
    let push = c.push_places.ensures in
    named_more c.args.items numbers i _ _ _ _ _ _ inv.0 inv.1 own c.count_in.ensures.count push.count push.numbers

pub returns-clause-few : goal.returns-clause-few
returns-clause-few c =
    let list = c.args.list.now in
    let all : c.loop-item.item-index ≡ length list = omega arith in
    let few = named-few c.args.items (cells list) (length list) c.requires.listable in
    let e : c.loop-item.named.count ≡ length (places_named c.args.items (cells list) (length list)) = rw (← all) c.loop-item.invariant.0 in
    omega (arith, few, e, c.requires.fits.all)

pub returns-clause-numbers : goal.returns-clause-numbers
returns-clause-numbers c =
    let all : c.loop-item.item-index ≡ length c.args.list.now = omega arith in
    rw (← all) c.loop-item.invariant.1
