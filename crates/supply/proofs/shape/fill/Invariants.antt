-- `shape::fill` meets its contract: cell by cell.
use mathlib.Core.Path.{◌≡◌}
use Prim.Native.Nat.{◌≤◌}
use Rattle.supply.specs.Shape.{filled}
use Rattle.supply.proofs.shape.fill.Given as goal

abbrev pub invariant-loop-j : goal.invariant-loop-j
invariant-loop-j l = (l.j ≤ l.cells) × (l.list ≡ filled l.initial.list l.from l.j l.value)
