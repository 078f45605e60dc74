-- `cover::prices_verdict`: the prices passed hold.
use mathlib.Core.Path.{◌≡◌}
use mathlib.Core.Bool.{true, not, ◌&&◌, ◌||◌}
use Prim.Native.Nat.{ℕ, ◌<◌}
use lib.Dec.{eqb, leb}
use Rattle.board.specs.Limits.{max_price}
use Rattle.duality.specs.Lists.{cells}
use Rattle.supply.specs.ByItem.{withdrawn_at}
use Rattle.certificate.proofs.cover.prices_verdict.Given as goal

abbrev pub invariant-loop-k : goal.invariant-loop-k
invariant-loop-k l = (j : ℕ) → j < l.k → (leb (cells l.prices j) max_price && (not (withdrawn_at l.sheet j) || eqb (cells l.prices j) 0)) ≡ true
