-- `columns::prices_by_item` meets its contract: the list is filled from its start.
use mathlib.Core.Path.{◌≡◌}
use Rattle.duality.specs.Lists.{cells}
use Rattle.places.specs.Total.{least_price}
use Rattle.board.specs.Limits.{max_bidders}
use Rattle.board.proofs.Filling.{Filled}
use Rattle.supply.specs.Board.{places_in, start_in}
use Rattle.supply.proofs.columns.prices_by_item.Given as goal

abbrev pub invariant-loop-k : goal.invariant-loop-k
invariant-loop-k l =
    (l.next ≡ start_in l.items l.k) × Filled max_bidders (least_price (places_in l.items) (cells l.prices)) l.k l.least
