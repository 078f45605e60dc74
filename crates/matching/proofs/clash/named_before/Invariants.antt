-- `clash::named_before` meets its contract: the bidders passed that name the item are counted.
use Rattle.std.proofs.Common.{◌≡◌, ◌≤◌, eqb}
use Rattle.duality.specs.Lists.{cells}
use Rattle.places.specs.Places.{count_to}
use Rattle.matching.proofs.clash.named_before.Given as goal

abbrev pub invariant-loop-h : goal.invariant-loop-h
invariant-loop-h l = (l.named ≡ count_to l.h (λ j. eqb (cells l.plan j) l.item)) × (l.named ≤ l.h)
