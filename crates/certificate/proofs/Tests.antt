-- What the tests of the check decide.
use mathlib.Core.Path.{◌≡◌}
use mathlib.Core.Bool.{Bool, true, not, ◌&&◌, ◌||◌}
use Prim.Native.Nat.{ℕ, ◌+◌, ◌-◌, ◌*◌, ◌≤◌, ◌<◌}
use lib.ListN.{length}
use lib.Dec.{eqb, leb}
use borrow.Author.Tests.{not-false}
use Rattle.duality.specs.Decide.{Decides}
use Rattle.duality.proofs.Decide.{reword, eq-decides, le-decides, and-decides, or-decides, all-decides}
use Rattle.supply.specs.declared.record.Board.{Board}
use Rattle.board.specs.Lent.{Lists}
use Rattle.board.specs.Limits.{max_price}
use Rattle.certificate.specs.Check.{Even, even_test, covered_test}

-- A cell per bidder, per item, per bidder, and no more
pub even-decides : (bidders items plan prices gains : ℕ) →
    Decides (even_test bidders items plan prices gains) ((plan ≡ bidders) × ((prices ≡ items) × (gains ≡ bidders)))
unfolding even_test
even-decides bidders items plan prices gains =
    and-decides (eq-decides plan bidders) (and-decides (eq-decides prices items) (eq-decides gains bidders))

pub lists-even : (b : Board) (l : Lists) →
    Decides (even_test b.market.arrived b.items.count (length l.plan) (length l.prices) (length l.gains)) (Even b l)
lists-even b l =
    reword (even-decides _ _ _ _ _)
    (λ h. record { plan = h.0; prices = h.1.0; gains = h.1.1 })
    (λ h. (h.plan, (h.prices, h.gains)))

-- A price within the limit, and 0 where the item is withdrawn
pub price-decides : (y : ℕ) (withdrawn : Bool) →
    Decides (leb y max_price && (not withdrawn || eqb y 0)) ((y ≤ max_price) × (withdrawn ≡ true → y ≡ 0))
price-decides y withdrawn =
    reword (and-decides (le-decides y max_price) (or-decides (eq-decides y 0)))
    (λ h. (h.0, λ e. h.1 (rw e)))
    (λ h. (h.0, λ e. h.1 (not-false withdrawn e)))

-- Every live edge of a bidder is covered
pub covered-decides : (items : ℕ) (row : ℕ → ℕ) (p q : ℕ) (prices : ℕ → ℕ) (y : ℕ) →
    Decides (covered_test items row p q prices y) ((k : ℕ) → k < items → (q - p) * row k ≤ y + prices k)
unfolding covered_test
covered-decides items row p q prices y = all-decides items _ _ (λ k. le-decides ((q - p) * row k) (y + prices k))
