-- What the tests of the calls decide.
use mathlib.Core.Path.{◌≡◌, refl, ap}
use mathlib.Core.Bool.{Bool, true, false, not}
use Prim.Native.Nat.{ℕ, ◌≤◌}
use lib.Dec.{eqb}
use borrow.Author.Tests.{eq-eqb, ne_eqb}
use Rattle.duality.specs.Decide.{Decides}
use Rattle.duality.proofs.Decide.{clash, reword, le-decides, lt-decides, and-decides}
use Rattle.board.specs.Limits.{max_q}
use Rattle.board.specs.Ranges.{SlackIn, Within, within_test, slack_test}
use Rattle.board.specs.Lent.{room_test}

-- The test of a negation
pub no-decides : {t : Bool} {P : Type 0} → Decides t P → Decides (not t) (P → ⊥)
no-decides {t} {P} d = go t d
  where
    go : (t : Bool) → Decides t P → Decides (not t) (P → ⊥)
    go true d = record { sound = λ e p. clash false e refl; complete = λ f. absurd (f (d.sound refl)) }
    go false d = record { sound = λ e p. clash false (d.complete p) refl; complete = λ f. refl }

pub within-decides : (z x : ℕ) → Decides (within_test z x) (Within 1 z x)
unfolding within_test
within-decides z x =
    reword (and-decides (le-decides 1 x) (le-decides x z)) (λ h. record { low = h.0; high = h.1 }) (λ h. (h.low, h.high))

pub slack-decides : (least p q : ℕ) → Decides (slack_test least p q) (SlackIn least p q)
unfolding slack_test
slack-decides least p q =
    reword (and-decides (le-decides least p) (and-decides (lt-decides p q) (le-decides q max_q)))
    (λ h. record { low = h.0; below = h.1.0; high = h.1.1 })
    (λ h. (h.low, (h.below, h.high)))

-- A flag that is not 0, and one that is
pub flag-on : (flag : ℕ) → (flag ≡ 0 → ⊥) → not (eqb flag 0) ≡ true
flag-on flag ne = ap not (ne_eqb flag 0 ne)

pub flag_off : (flag : ℕ) → flag ≡ 0 → not (eqb flag 0) ≡ false
flag_off flag e = ap not (eq-eqb flag 0 e)

-- A cell per bidder, per item, per bidder
pub room-decides : (bidders items plan prices gains : ℕ) →
    Decides (room_test bidders items plan prices gains) ((bidders ≤ plan) × ((items ≤ prices) × (bidders ≤ gains)))
unfolding room_test
room-decides bidders items plan prices gains = and-decides (le-decides bidders plan) (and-decides (le-decides items prices) (le-decides bidders gains))
