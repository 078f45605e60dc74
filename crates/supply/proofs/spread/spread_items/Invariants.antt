-- `spread::spread_items` meets its contract: the places of one item after another.
use Rattle.std.proofs.Common.{◌≡◌}
use lib.ListN.{length, take}
use Rattle.duality.specs.Lists.{cells}
use Rattle.supply.specs.Spread.{places_named}
use Rattle.supply.proofs.spread.spread_items.Given as goal

abbrev pub invariant-loop-item : goal.invariant-loop-item
invariant-loop-item l =
    (l.named.count ≡ length (places_named l.items (cells l.list) l.item-index)) ×
    (take l.named.count l.named.numbers ≡ places_named l.items (cells l.list) l.item-index)
