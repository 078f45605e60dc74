-- Laws of tests: what decides parts decides the whole.
use mathlib.Core.Path.{◌≡◌, refl, sym}
use mathlib.Core.Bool.{Bool, true, false, not, ◌&&◌, ◌||◌}
use mathlib.Core.Logic.{◌↔◌}
use Prim.Native.Nat.{ℕ, zero, suc, ◌+◌, ◌<◌, ◌≤◌}
use native.Mathlib.Nat.{not-suc-le-zero}
use native.Mathlib.Numerals.{add-one}
use native.Mathlib.Omega.{arith}
use lib.Dec.{eqb, ltb, leb}
use borrow.Author.Tests.{ltb-true, ltb-false, leb-true, eqb-true, eqb-false, lt-ltb, le-ltb, le-leb, eq-eqb, ne_eqb, not-true}
use Rattle.duality.specs.Decide.{Decides, all_below}
use Rattle.duality.proofs.Below.{one_more}

pub clash : (t : Bool) → t ≡ true → t ≡ false → ⊥
clash t e f = let z : true ≡ false = cc in let w : ◌≡◌ {A = ℕ} 0 1 = cc in omega arith

-- What a test is, from what it decides
pub true-is : {t : Bool} {P : Type 0} → Decides t P → P → true ≡ t
true-is d h = sym (d.complete h)

pub false-is : (t : Bool) {P : Type 0} → Decides t P → (P → ⊥) → false ≡ t
false-is true d h = absurd (h (d.sound refl))
false-is false d h = refl

pub same_test : (s t : Bool) {P : Type 0} → Decides s P → Decides t P → s ≡ t
same_test true t d e = true-is e (d.sound refl)
same_test false t d e = false-is t e (λ p. clash false (d.complete p) refl)

-- What one test decides comes to the same
pub agree : {t : Bool} {P Q : Type 0} → Decides t P → Decides t Q → P ↔ Q
agree d e = (λ p. e.sound (d.complete p), λ q. d.sound (e.complete q))

-- The same test for another wording
pub reword : {t : Bool} {P Q : Type 0} → Decides t P → (P → Q) → (Q → P) → Decides t Q
reword d f g = record { sound = λ e. f (d.sound e); complete = λ q. d.complete (g q) }

pub le-decides : (a b : ℕ) → Decides (leb a b) (a ≤ b)
le-decides a b = record { sound = leb-true a b; complete = le-leb a b }

pub lt-decides : (a b : ℕ) → Decides (ltb a b) (a < b)
lt-decides a b = record { sound = ltb-true a b; complete = lt-ltb a b }

pub eq-decides : (a b : ℕ) → Decides (eqb a b) (a ≡ b)
eq-decides a b = record { sound = eqb-true a b; complete = eq-eqb a b }

pub true-decides : (t : Bool) → Decides t (t ≡ true)
true-decides t = record { sound = λ e. e; complete = λ e. e }

pub not-decides : (t : Bool) → Decides (not t) (t ≡ false)
not-decides t = record { sound = not-true t; complete = λ e. rw e }

pub ne-decides : (a b : ℕ) → Decides (not (eqb a b)) (a ≡ b → ⊥)
ne-decides a b = reword (not-decides (eqb a b)) (eqb-false a b) (ne_eqb a b)

pub and-decides : {s t : Bool} {P Q : Type 0} → Decides s P → Decides t Q → Decides (s && t) (P × Q)
and-decides {s} {t} {P} {Q} d e = go s t d e
  where
    go : (s t : Bool) → Decides s P → Decides t Q → Decides (s && t) (P × Q)
    go true t d e = record { sound = λ h. (d.sound refl, e.sound h); complete = λ h. e.complete h.1 }
    go false t d e = record { sound = λ h. absurd (clash false h refl); complete = λ h. d.complete h.0 }

-- A test that is asked only where another fails
pub or-decides : {s t : Bool} {P : Type 0} → Decides t P → Decides (s || t) (s ≡ false → P)
or-decides {s} {t} {P} d = go s t d
  where
    go : (s t : Bool) → Decides t P → Decides (s || t) (s ≡ false → P)
    go true t d = record { sound = λ h e. absurd (clash true refl e); complete = λ h. refl }
    go false t d = record { sound = λ h e. d.sound h; complete = λ h. d.complete (h refl) }

pub all-decides : (n : ℕ) (f : ℕ → Bool) (P : ℕ → Type 0) → ((i : ℕ) → Decides (f i) (P i)) → Decides (all_below n f) ((i : ℕ) → i < n → P i)
unfolding all_below
all-decides zero f P d = record { sound = λ e i l. absurd (not-suc-le-zero l); complete = λ h. refl }
all-decides (suc n) f P d =
    reword (and-decides (all-decides n f P d) (d n)) (λ h. one_more n P h.0 h.1) (λ h. (λ i l. h i (omega arith), h n (omega arith)))

-- From a number on
pub from-decides : (from n : ℕ) (f : ℕ → Bool) (P : ℕ → Type 0) → ((i : ℕ) → Decides (f i) (P i)) →
    Decides (all_below n (λ i. ltb i from || f i)) ((i : ℕ) → from ≤ i → i < n → P i)
from-decides from n f P d =
    reword (all-decides n (λ i. ltb i from || f i) (λ i. ltb i from ≡ false → P i) (λ i. or-decides (d i)))
    (λ h i l m. h i m (le-ltb i from l))
    (λ h i m e. h i (ltb-false i from e) m)

-- A loop that stops at the first failure
pub all-step : (k : ℕ) (f : ℕ → Bool) → all_below k f ≡ true → f k ≡ true → all_below (k + 1) f ≡ true
unfolding all_below
all-step k f h g = rw (add-one, h, g)

pub all-fails : (n k : ℕ) (f : ℕ → Bool) → k < n → f k ≡ false → false ≡ all_below n f
all-fails n k f h e =
    false-is (all_below n f) (all-decides n f (λ i. f i ≡ true) (λ i. true-decides (f i))) (λ a. clash (f k) (a k h) e)
