-- `spread::push_places` meets its contract: number by number.
use Rattle.std.proofs.Common.{◌≡◌, ◌++◌}
use Prim.Native.Nat.{◌+◌}
use lib.ListN.{length, take}
use Rattle.board.specs.Limits.{max_items}
use Rattle.supply.specs.Spread.{numbers_from}
use Rattle.supply.proofs.spread.push_places.Given as goal

abbrev pub invariant-loop-j : goal.invariant-loop-j
invariant-loop-j l =
    (length l.named.numbers ≡ max_items) × (l.named.count ≡ l.initial.named.count + l.j) ×
    (take l.named.count l.named.numbers ≡ take l.initial.named.count l.initial.named.numbers ++ numbers_from l.from l.j)
