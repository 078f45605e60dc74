-- A list of items, tested one by one: what it says that all are served, and how many decide.
use Rattle.std.specs.Prelude.{Err, Ok}
use mathlib.Core.Path.{◌≡◌, sym, ◌∙◌}
use mathlib.Core.Bool.{Bool, false}
use Prim.Native.Nat.{ℕ, zero, suc, ◌-◌, ◌≤◌, ◌<◌}
use native.Mathlib.Omega.{arith}
use borrow.Author.Tests.{leb-false, not-false}
use Rattle.duality.proofs.Below.{one_more}
use Rattle.refusals.specs.declared.Refusal.{Refusal}
use Rattle.board.specs.Limits.{max_items, max_edges}
use Rattle.refusals.specs.Demand1.{first_of}
use Rattle.board.specs.Ranges.{Within}
use Rattle.auction.specs.Edges.{order_test}
use Rattle.auction.specs.Items.{item_checks, items_checks}
use Rattle.board.proofs.Tests.{within-decides}
use Rattle.refusals.proofs.Verdicts.{served-next, unserved}
use Rattle.refusals.proofs.Each.{each-as, each-served, each_first}
use Rattle.auction.proofs.EdgeTests.{order-as}

-- Items that are served: each on the board and not withdrawn, and rising
pub record ItemsAccepted (items : ℕ) (withdrawn : ℕ → Bool) (item : ℕ → ℕ) (n : ℕ) : Type 0 where
  pub known : (i : ℕ) → i < n → Within 1 items (item i)
  pub here : (i : ℕ) → i < n → withdrawn (item i - 1) ≡ false
  pub rising : (i : ℕ) → suc i < n → item i < item (suc i)

module _ (items : ℕ) (withdrawn : ℕ → Bool) (item : ℕ → ℕ) where
  -- What is served of the item in cell i
  pub record ItemServed (i : ℕ) : Type 0 where
    pub known : Within 1 items (item i)
    pub here : withdrawn (item i - 1) ≡ false
    pub ordered : order_test item i ≡ false

  pub accepted : (n : ℕ) → ((i : ℕ) → i < n → ItemServed i) → ItemsAccepted items withdrawn item n
  unfolding order_test
  accepted n s = record { known = λ i l. (s i l).known; here = λ i l. (s i l).here; rising = λ i l. leb-false _ _ (s (suc i) l).ordered }

  served-item : (i : ℕ) → first_of (item_checks items withdrawn item i) ≡ Ok tt → ItemServed i
  unfolding item_checks
  served-item i e =
      let a = served-next _ _ e in
      let b = served-next _ _ a.1 in
      let c = served-next _ _ b.1 in
      record { known = (within-decides items (item i)).sound (not-false _ a.0); here = b.0; ordered = c.0 }

  pub served-items : (n : ℕ) → first_of (items_checks items withdrawn item 0 n) ≡ Ok tt → ItemsAccepted items withdrawn item n
  served-items n e = accepted n (λ i l. served-item i (each-served _ 0 n e i (omega arith) (omega arith)))

-- ---- Rising

module _ {items : ℕ} {withdrawn : ℕ → Bool} {item : ℕ → ℕ} {n : ℕ} (a : ItemsAccepted items withdrawn item n) where
  -- An item is below each that comes after it
  pub rises : (j : ℕ) → j < n → (i : ℕ) → i < j → item i < item j
  rises zero h i l = absurd (omega arith)
  rises (suc j) h i l = one_more j (λ i. item i < item (suc j)) (λ i m. omega (arith, rises j (omega arith) i m, a.rising j h)) (a.rising j h) i l

  -- Rising from 1 on, the item of cell i is above i
  rising-above : (i : ℕ) → i < n → i < item i
  rising-above zero l = (a.known zero l).low
  rising-above (suc i) l = omega (arith, rising-above i (omega arith), a.rising i l)

  -- Of 65 items one is not on the board
  pub too_many : items ≤ max_items → max_edges ≤ n → ⊥
  too_many h l = omega (arith, rising-above max_items (omega arith), (a.known max_items (omega arith)).high)

-- ---- How many decide

module _ (items : ℕ) (withdrawn : ℕ → Bool) where
  pub items_as : (f g : ℕ → ℕ) (n : ℕ) → ((j : ℕ) → j < n → f j ≡ g j) → items_checks items withdrawn f 0 n ≡ items_checks items withdrawn g 0 n
  unfolding item_checks
  items_as f g n e = each-as _ _ 0 n (λ j l. rw (e j (omega arith), order-as f g j (λ k m. e k (omega arith))))

  module _ (item : ℕ → ℕ) (h : items ≤ max_items) where
    -- One of the first 65 items is refused
    pub first-refused : (r : Refusal) × (first_of (items_checks items withdrawn item 0 max_edges) ≡ Err r)
    first-refused = unserved _ (λ e. too_many (served-items items withdrawn item max_edges e) h (omega arith))

    -- What comes after them is not looked at
    pub items-first : (n : ℕ) → max_edges < n → first_of (items_checks items withdrawn item 0 n) ≡ first_of (items_checks items withdrawn item 0 max_edges)
    items-first n l = let (r, e) = first-refused in each_first _ max_edges n r (omega arith) e ∙ sym e
