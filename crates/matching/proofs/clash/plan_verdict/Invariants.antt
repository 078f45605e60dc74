-- `clash::plan_verdict`: the cells passed hold.
use mathlib.Core.Path.{◌≡◌}
use mathlib.Core.Bool.{true}
use Prim.Native.Nat.{ℕ, ◌≤◌, ◌<◌}
use Rattle.duality.specs.Lists.{cells}
use Rattle.places.specs.PlanTest.{cell_test_with}
use Rattle.supply.specs.Board.{places_at}
use Rattle.supply.specs.ByItem.{live}
use Rattle.matching.proofs.clash.plan_verdict.Given as goal

abbrev pub invariant-loop-i : goal.invariant-loop-i
invariant-loop-i l =
    let b = l.sheet in
    ((j : ℕ) → j < l.i → cell_test_with b.items.count (places_at b) (live b) (cells l.plan) j (cells l.plan j) ≡ true) ×
    ((j : ℕ) → j < l.i → cells l.plan j ≤ b.items.count)
