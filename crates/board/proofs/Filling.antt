-- Lists that a loop fills from their start.
use mathlib.Core.Path.{◌≡◌, refl, sym, ◌∙◌}
use mathlib.Core.Logic.{by_cases}
use mathlib.Core.List.{List}
use Prim.Native.Nat.{ℕ, zero, suc, ◌+◌, ◌≤◌, ◌<◌}
use native.Mathlib.Nat.{suc_inj}
use native.Mathlib.Numerals.{add-one}
use native.Mathlib.Decide.{ℕ_discrete, dec_lt}
use native.Mathlib.Omega.{arith}
use lib.ListN.{length, get_or, set, replicate, length-set, length-replicate, get_or-eq_default}
use lib.Seq.{get_or-set_same, get_or-set_other}
use borrow.Author.Count.{below_more}
use Rattle.board.specs.Limits.{max_bidders}
use Rattle.board.specs.Live.{held_by}
use Rattle.board.proofs.LiveLaws.{held-here, held-before, held-names}

-- A list of n cells, of which the first k are f's
pub record Filled (n : ℕ) (f : ℕ → ℕ) (k : ℕ) (l : List ℕ) : Type 0 where
  pub size : length l ≡ n
  pub cells : (j : ℕ) → j < k → get_or l j 0 ≡ f j

pub filled_none : (n : ℕ) (f : ℕ → ℕ) → Filled n f 0 (replicate n 0)
filled_none n f = record { size = length-replicate {A = ℕ} n 0; cells = λ j l. absurd (omega arith) }

pub filled_more : {n : ℕ} {f : ℕ → ℕ} {k : ℕ} {l : List ℕ} {v : ℕ} → Filled n f k l → k < n → v ≡ f k → Filled n f (k + 1) (set l k v)
filled_more {n} {f} {k} {l} {v} h low e =
    record {
      size = length-set l k v ∙ h.size;
      cells = below_more
          _
          k
          (λ j m. get_or-set_other l k j v 0 (λ x. omega arith) ∙ h.cells j m)
          (get_or-set_same l k v 0 (omega (arith, h.size)) ∙ e);
    }

-- A cell of equal ones, also one past the end
pub blank : {A : Type 0} (n k : ℕ) (a : A) → get_or (replicate n a) k a ≡ a
blank zero k a = refl
blank (suc n) zero a = refl
blank (suc n) (suc k) a = blank n k a

-- ---- A matching, turned round from the holders of the first k items
pub record Turning (holder : List ℕ) (k : ℕ) (matching : List ℕ) : Type 0 where
  pub size : length matching ≡ max_bidders
  pub cells : (i : ℕ) → i < max_bidders → get_or matching i 0 ≡ held_by holder k i

pub turn-none : (holder : List ℕ) → Turning holder 0 (replicate max_bidders 0)
unfolding held_by
turn-none holder = record { size = length-replicate {A = ℕ} max_bidders 0; cells = λ i l. blank {A = ℕ} max_bidders i 0 }

-- All holders are among so many bidders
pub turn-all : {holder : List ℕ} {k : ℕ} {matching : List ℕ} → ((j : ℕ) → j < k → get_or holder j 0 ≤ max_bidders) → Turning holder k matching →
    (i : ℕ) → get_or matching i 0 ≡ held_by holder k i
turn-all {holder} {k} {matching} few t i =
    by_cases (dec_lt i max_bidders)
    (λ l. t.cells i l)
    (λ g. get_or-eq_default matching 0 (omega (arith, t.size)) ∙ sym (go (held_by holder k i) refl (omega arith)))
  where
    go : (c : ℕ) → held_by holder k i ≡ c → max_bidders ≤ i → held_by holder k i ≡ 0
    go zero e out = e
    go (suc j) e out = let h = held-names holder k i j e in absurd (omega (arith, few j h.0, h.1))

module _ {holder : List ℕ} {k : ℕ} {matching : List ℕ} (t : Turning holder k matching) where
  -- Nobody holds the next item
  pub turn-free : get_or holder k 0 ≡ 0 → Turning holder (k + 1) matching
  turn-free e = record { size = t.size; cells = λ i l. t.cells i l ∙ sym (rw add-one (held-before holder k i (λ q. omega (arith, e, q)))) }

  -- Bidder x + 1 does
  pub turn-held : {x v : ℕ} → x < max_bidders → get_or holder k 0 ≡ suc x → v ≡ k + 1 → Turning holder (k + 1) (set matching x v)
  turn-held {x} {v} lx e ev =
      record {
        size = length-set matching x v ∙ t.size;
        cells = λ i l. by_cases (ℕ_discrete i x)
            (λ (q : i ≡ x). rw (q, get_or-set_same matching x v 0 (omega (arith, t.size))) (ev ∙ sym (rw add-one (held-here holder k x e))))
            (λ ne. get_or-set_other matching x i v 0 ne ∙ t.cells i l ∙ sym (rw add-one (held-before holder k i (λ q. ne (suc_inj (sym q ∙ e))))));
      }
