-- Tests that fail exactly when a statement holds.
use mathlib.Core.Path.{◌≡◌, refl}
use mathlib.Core.Bool.{Bool, true, false, not, ◌&&◌, ◌||◌}
use mathlib.Core.Logic.{◌⊎◌, inl, inr, ⊎_elim, by_cases}
use Prim.Native.Nat.{ℕ, zero, suc, ◌≤◌, ◌<◌}
use native.Mathlib.Nat.{not-suc-le-zero}
use native.Mathlib.Decide.{dec_lt}
use native.Mathlib.Omega.{arith}
use lib.Dec.{eqb, ltb, leb}
use borrow.Author.Tests.{ltb-false, le-ltb, leb-false, lt-leb, eqb-false, ne_eqb, not-true, not-false}
use Rattle.duality.specs.Decide.{Decides, all_below}
use Rattle.duality.proofs.Decide.{clash}

pub record Fails (t : Bool) (P : Type 0) : Type 0 where
  pub sound : t ≡ false → P
  pub complete : P → t ≡ false

pub not-fails : {t : Bool} {P : Type 0} → Fails t P → Decides (not t) P
not-fails {t} f = record { sound = λ e. f.sound (not-true t e); complete = λ p. rw (f.complete p) }

-- The same for another wording
pub refail : {t : Bool} {P Q : Type 0} → Fails t P → (P → Q) → (Q → P) → Fails t Q
refail d f g = record { sound = λ e. f (d.sound e); complete = λ q. d.complete (g q) }

pub fail-lt : (a b : ℕ) → Fails (ltb a b) (b ≤ a)
fail-lt a b = record { sound = ltb-false a b; complete = le-ltb a b }

pub fail-le : (a b : ℕ) → Fails (leb a b) (b < a)
fail-le a b = record { sound = leb-false a b; complete = lt-leb a b }

pub fail-eq : (a b : ℕ) → Fails (eqb a b) (a ≡ b → ⊥)
fail-eq a b = record { sound = eqb-false a b; complete = ne_eqb a b }

-- A negation fails exactly when its test holds
pub fail-not : {t : Bool} {P : Type 0} → Decides t P → Fails (not t) P
fail-not {t} d = record { sound = λ e. d.sound (not-false t e); complete = λ p. rw (d.complete p) }

-- One of two tests fails
pub fail-and : {s t : Bool} {P Q : Type 0} → Fails s P → Fails t Q → Fails (s && t) (P ⊎ Q)
fail-and {s} {t} {P} {Q} d e = go s d
  where
    go : (s : Bool) → Fails s P → Fails (s && t) (P ⊎ Q)
    go true d = record { sound = λ h. inr (e.sound h); complete = ⊎_elim (λ p. absurd (clash true refl (d.complete p))) e.complete }
    go false d = record { sound = λ h. inl (d.sound refl); complete = λ h. refl }

-- Both of two tests fail
pub fail-or : {s t : Bool} {P Q : Type 0} → Fails s P → Fails t Q → Fails (s || t) (P × Q)
fail-or {s} {t} {P} {Q} d e = go s d
  where
    go : (s : Bool) → Fails s P → Fails (s || t) (P × Q)
    go true d = record { sound = λ h. absurd (clash true refl h); complete = λ h. d.complete h.0 }
    go false d = record { sound = λ h. (d.sound refl, e.sound h); complete = λ h. e.complete h.1 }

-- A test fails at some number below a bound
pub record Somewhere (n : ℕ) (P : ℕ → Type 0) : Type 0 where
  pub at : ℕ
  pub below : at < n
  pub holds : P at

pub fail-all : (n : ℕ) (f : ℕ → Bool) (P : ℕ → Type 0) → ((i : ℕ) → Fails (f i) (P i)) → Fails (all_below n f) (Somewhere n P)
unfolding all_below
fail-all zero f P d = record { sound = λ h. absurd (clash true refl h); complete = λ h. absurd (not-suc-le-zero h.below) }
fail-all (suc n) f P d =
    refail (fail-and (fail-all n f P d) (d n))
    (⊎_elim (λ s. record { at = s.at; below = omega arith; holds = s.holds }) (λ p. record { at = n; below = omega arith; holds = p }))
    (λ s. by_cases (dec_lt s.at n)
    (λ l. inl (record { at = s.at; below = l; holds = s.holds }))
    (λ g. let e : s.at ≡ n = omega arith in inr (rw e at s.holds)))
