-- Cells of arrays, holders, and marks of visited items.
use mathlib.Core.Path.{◌≡◌, refl, sym, ap, ◌∙◌}
use mathlib.Core.List.{List, [], ◌∷◌}
use mathlib.Core.Logic.{◌≢◌, ◌⊎◌, inl, inr, ⊎_elim, by_cases}
use mathlib.Core.Bool.{Bool, true, false, not}
use Prim.Native.Nat.{ℕ, zero, suc, ◌+◌, ◌-◌, ◌<◌}
use native.Mathlib.Omega.{arith}
use native.Mathlib.Decide.{ℕ_discrete}
use native.Mathlib.Nat.{suc_inj}
use lib.Dec.{eqb}
use lib.ListN.{get_or, set, length, replicate}
use lib.Seq.{get_or-set_same, get_or-set_other}
use borrow.Author.Tests.{ne_eqb}
use Rattle.duality.proofs.Decide.{clash}
use Rattle.board.specs.Cells.{flag_at}
use Rattle.hungarian.specs.Settled.{Holds}
use Rattle.hungarian.specs.Tree.{Tree, Visited, Unvisited, unvisited, visited_at, excess_at, risen, price_now}

-- A cell that is not 0 names a bidder
pub held_by_lem : {x : ℕ} → (x ≡ 0 → ⊥) → x ≡ suc (x - 1)
held_by_lem n = omega arith

-- An array of what is read past its end
pub get_or-all : {A : Type 0} (n k : ℕ) (d : A) → get_or (replicate n d) k d ≡ d
get_or-all zero k d = refl
get_or-all (suc n) zero d = refl
get_or-all (suc n) (suc k) d = get_or-all n k d

-- Of the first n + 1 items the last has the one holder, so what another bidder holds is among the first n
pub earlier : (holder : ℕ → ℕ) (n i k j : ℕ) → Holds holder n i → Holds holder k j → j ≢ i → k < n + 1 → k < n
earlier holder n i k j h₁ h₂ ne l = let other : k ≢ n = λ (e : k ≡ n). ne (suc_inj (sym (rw e at h₂) ∙ h₁)) in omega arith

pub mark : (b : Bool) → (b ≡ true) ⊎ (b ≡ false)
mark true = inl refl
mark false = inr refl

pub never : {b : Bool} {C : Type 0} → b ≡ true → b ≡ false → C
never p q = absurd (clash _ p q)

-- A cell of marks is 0 where there is none
pub marked : {x : ℕ} → (x ≡ 0 → ⊥) → not (eqb x 0) ≡ true
marked {x} ne = ap not (ne_eqb x 0 ne)

pub unmarked : {x : ℕ} → x ≡ 0 → not (eqb x 0) ≡ false
unmarked z = rw z refl

-- A mark that is set where there was none leaves fewer
pub fewer : (marks : List ℕ) (k : ℕ) → k < length marks → flag_at marks k ≡ false → unvisited (set marks k 1) < unvisited marks
unfolding unvisited
fewer [] k l u = absurd (omega arith)
fewer (zero ∷ marks) zero l u = omega arith
fewer (suc n ∷ marks) zero l u = never (marked {x = suc n} (λ e. absurd (omega arith))) u
fewer (zero ∷ marks) (suc k) l u = omega (arith, fewer marks k (omega arith) u)
fewer (suc n ∷ marks) (suc k) l u = fewer marks k (omega arith) u

-- A mark is the new one or an old one; the old ones stay, and where there is none now there was none
same_flag : (marks : List ℕ) (k j : ℕ) → j ≢ k → flag_at (set marks k 1) j ≡ flag_at marks j
same_flag marks k j ne = ap (λ x. not (eqb x 0)) (get_or-set_other marks k j 1 0 ne)

pub new : (marks : List ℕ) (k : ℕ) → k < length marks → flag_at (set marks k 1) k ≡ true
new marks k l = ap (λ x. not (eqb x 0)) (get_or-set_same marks k 1 0 l)

pub new-or-old : (marks : List ℕ) (k j : ℕ) → flag_at (set marks k 1) j ≡ true → (j ≡ k) ⊎ (flag_at marks j ≡ true)
new-or-old marks k j p = by_cases (ℕ_discrete j k) (λ e. inl e) (λ ne. inr (sym (same_flag marks k j ne) ∙ p))

pub old : (marks : List ℕ) (k j : ℕ) → k < length marks → flag_at marks j ≡ true → flag_at (set marks k 1) j ≡ true
old marks k j l p =
    by_cases (ℕ_discrete j k)
    (λ (e : j ≡ k). rw e (new marks k l))
    (λ ne. same_flag marks k j ne ∙ p)

pub none_before : (marks : List ℕ) (k j : ℕ) → k < length marks → flag_at (set marks k 1) j ≡ false → flag_at marks j ≡ false
none_before marks k j l p = ⊎_elim (λ q. never (old marks k j l q) p) (λ q. q) (mark (flag_at marks j))

-- The price of a visited item by now, and of an unvisited one
pub risen-visited : (price : ℕ → ℕ) (visited : ℕ → Bool) (excess : ℕ → ℕ) (fall k : ℕ) → visited k ≡ true → risen price visited excess fall k ≡ price k + (fall - excess k)
risen-visited price visited excess fall k v = rw v

pub risen-unvisited : (price : ℕ → ℕ) (visited : ℕ → Bool) (excess : ℕ → ℕ) (fall k : ℕ) → visited k ≡ false → risen price visited excess fall k ≡ price k
risen-unvisited price visited excess fall k u = rw u

pub price-visited : (price : ℕ → ℕ) (t : Tree) (k : ℕ) → Visited t k → price_now price t k ≡ price k + (t.fall - excess_at t k)
price-visited price t k v = risen-visited price (visited_at t) (excess_at t) t.fall k v

pub price-unvisited : (price : ℕ → ℕ) (t : Tree) (k : ℕ) → Unvisited t k → price_now price t k ≡ price k
price-unvisited price t k u = risen-unvisited price (visited_at t) (excess_at t) t.fall k u
