-- `spread::spread_row` meets its contract: the places of one item after another are written.
use mathlib.Core.Path.{◌≡◌}
use Rattle.duality.specs.Lists.{cells}
use Rattle.supply.specs.Board.{start_in}
use Rattle.supply.proofs.Shaping.{spread_to}
use Rattle.supply.proofs.spread.spread_row.Given as goal

abbrev pub invariant-loop-k : goal.invariant-loop-k
invariant-loop-k l = (l.next ≡ start_in l.items l.k) × (l.spread ≡ spread_to l.items (cells l.row) l.k)
