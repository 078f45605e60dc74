-- `weight::plan_weight`: the edges passed are added.
use mathlib.Core.Path.{◌≡◌}
use Prim.Native.Nat.{◌*◌, ◌≤◌}
use Rattle.duality.specs.Matching.{weight_of}
use Rattle.duality.specs.Lists.{cells}
use Rattle.board.specs.Limits.{word_limit}
use Rattle.supply.specs.ByItem.{live}
use Rattle.matching.proofs.weight.plan_weight.Given as goal

abbrev pub invariant-loop-i : goal.invariant-loop-i
invariant-loop-i l = (l.sum ≡ weight_of l.i (live l.sheet) (cells l.plan)) × (l.sum ≤ l.i * word_limit)
