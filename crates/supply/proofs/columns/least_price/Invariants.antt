-- `columns::least_price` meets its contract: a loop comes to the least of so many.
use Rattle.std.proofs.Common.{◌≡◌, ◌+◌}
use Rattle.duality.specs.Lists.{cells}
use Rattle.places.specs.Total.{least_of}
use Rattle.supply.proofs.columns.least_price.Given as goal

abbrev pub invariant-loop-price : goal.invariant-loop-price
invariant-loop-price l = l.least ≡ least_of (cells l.prices l.from) l.price-index (λ i. cells l.prices (l.from + i))
