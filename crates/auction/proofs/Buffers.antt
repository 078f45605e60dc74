-- The tests of an arrival's edges read only the cells below their number.
use mathlib.Core.Path.{◌≡◌}
use mathlib.Core.Bool.{Bool}
use Prim.Native.Nat.{ℕ, ◌<◌}
use native.Mathlib.Omega.{arith}
use Rattle.auction.specs.Edges.{edge_checks, edges_checks}
use Rattle.refusals.proofs.Each.{each-as}
use Rattle.auction.proofs.EdgeTests.{order-as}

-- Tests and rows read only the cells below a number
pub edges-as : (items : ℕ) (withdrawn : ℕ → Bool) (f f' g g' : ℕ → ℕ) (n : ℕ) → ((j : ℕ) → j < n → f j ≡ f' j) → ((j : ℕ) → j < n → g j ≡ g' j) →
    edges_checks items withdrawn f g 0 n ≡ edges_checks items withdrawn f' g' 0 n
unfolding edge_checks
edges-as items withdrawn f f' g g' n e h =
    each-as _ _ 0 n (λ j l. rw (e j (omega arith), h j (omega arith), order-as f f' j (λ k m. e k (omega arith))))
