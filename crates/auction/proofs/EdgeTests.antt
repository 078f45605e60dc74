-- The test of an edge's order: what it decides, and what it reads.
use mathlib.Core.Path.{◌≡◌, refl}
use mathlib.Core.Bool.{true, false}
use Prim.Native.Nat.{ℕ, zero, suc, ◌-◌, ◌≤◌, ◌<◌}
use native.Mathlib.Omega.{arith}
use lib.Dec.{leb}
use Rattle.duality.specs.Decide.{Decides}
use Rattle.duality.proofs.Decide.{clash, reword, le-decides}
use Rattle.board.specs.Ranges.{within_test}
use Rattle.board.proofs.Tests.{within-decides}
use Rattle.auction.specs.Edges.{order_test}

-- The first edge is never out of order
pub order-decides : (item : ℕ → ℕ) (i : ℕ) → Decides (order_test item i) ((0 < i) × (item i ≤ item (i - 1)))
unfolding order_test
order-decides item zero = record { sound = λ e. absurd (clash false e refl); complete = λ h. absurd (omega arith) }
order-decides item (suc i) =
    let e : suc i - 1 ≡ i = omega arith in
    rw e (reword (le-decides (item (suc i)) (item i)) (λ h. (omega arith, h)) (λ h. h.1))

pub order-first : (item : ℕ → ℕ) (i : ℕ) → i ≤ 0 → order_test item i ≡ false
unfolding order_test
order-first item zero l = refl
order-first item (suc i) l = absurd (omega arith)

pub order-next : (item : ℕ → ℕ) (i : ℕ) → 0 < i → order_test item i ≡ leb (item i) (item (i - 1))
unfolding order_test
order-next item zero l = absurd (omega arith)
order-next item (suc i) l = let e : suc i - 1 ≡ i = omega arith in rw e refl

-- It reads only the cells up to its own
pub order-as : (f g : ℕ → ℕ) (i : ℕ) → ((j : ℕ) → j ≤ i → f j ≡ g j) → order_test f i ≡ order_test g i
unfolding order_test
order-as f g zero e = refl
order-as f g (suc i) e = rw (e (suc i) (omega arith), e i (omega arith))

-- An item of the board: its cell
module _ (known item : ℕ) (e : within_test known item ≡ true) where
  pub number-low : 1 ≤ item
  number-low = ((within-decides known item).sound e).low

  pub in_count : item - 1 < known
  in_count = omega (arith, number-low, ((within-decides known item).sound e).high)

-- What the tests of an item need
pub ruleset item_tests = (number-low, in_count, order-first, order-next)
