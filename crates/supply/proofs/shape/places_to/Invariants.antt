-- `shape::places_to` meets its contract: a sum of bytes.
use mathlib.Core.Path.{◌≡◌}
use Prim.Native.Nat.{◌*◌, ◌≤◌}
use Rattle.duality.specs.Lists.{cells}
use Rattle.places.specs.Places.{places_to}
use Rattle.supply.proofs.shape.places_to.Given as goal

abbrev pub invariant-loop-cell : goal.invariant-loop-cell
invariant-loop-cell l = (l.all ≡ places_to (cells l.places) l.cell-index) × (l.all ≤ l.cell-index * 256)
