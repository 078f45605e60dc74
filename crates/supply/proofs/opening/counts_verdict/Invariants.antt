-- `opening::counts_verdict` meets its contract: what is left to test says the same as all.
use mathlib.Core.Path.{◌≡◌}
use mathlib.Core.Bool.{true}
use Prim.Native.Nat.{ℕ, ◌<◌}
use Rattle.duality.specs.Lists.{cells}
use Rattle.board.specs.Ranges.{within_test}
use Rattle.supply.specs.Board.{max_places}
use Rattle.supply.proofs.opening.counts_verdict.Given as goal

abbrev pub invariant-loop-k : goal.invariant-loop-k
invariant-loop-k l = (j : ℕ) → j < l.k → within_test max_places (cells l.counts j) ≡ true
