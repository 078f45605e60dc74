-- `cover::gains_verdict`: the gains passed are within the limit.
use mathlib.Core.Path.{◌≡◌}
use mathlib.Core.Bool.{true}
use Prim.Native.Nat.{ℕ, ◌<◌}
use lib.Dec.{leb}
use Rattle.duality.specs.Lists.{cells}
use Rattle.board.specs.Limits.{max_price}
use Rattle.certificate.proofs.cover.gains_verdict.Given as goal

abbrev pub invariant-loop-i : goal.invariant-loop-i
invariant-loop-i l = (j : ℕ) → j < l.i → leb (cells l.gains j) max_price ≡ true
