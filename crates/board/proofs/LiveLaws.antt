-- Laws of the matching and of the edges that a board's cells stand for.
use mathlib.Core.Path.{◌≡◌, refl}
use mathlib.Core.Bool.{Bool, true, false, cond}
use mathlib.Core.List.{List, [], ◌∷◌, ◌++◌, append-nil}
use mathlib.Core.Logic.{⊎_elim}
use Prim.Native.Nat.{ℕ, zero, suc, ◌≤◌, ◌<◌}
use native.Mathlib.Nat.{suc_inj, not-suc-le-zero, eq-or-lt_of_le}
use native.Mathlib.Omega.{arith}
use lib.ListN.{get_or}
use lib.Dec.{eqb}
use borrow.Author.Tests.{eqb-true, eqb-false, eq-eqb, ne_eqb}
use Rattle.duality.proofs.Below.{one_more}
use Rattle.board.specs.declared.record.Edge.{Edge}
use Rattle.board.specs.Limits.{max_weight}
use Rattle.board.specs.Cells.{edge}
use Rattle.board.specs.Live.{held_by, edges_in}
use Rattle.board.specs.Sound.{Rising, Weighed}

-- ---- Who holds what: the cells of the first m items are `holder`.
module _ (holder : List ℕ) where
  -- One item more, whose cell names the bidder, or does not
  pub held-here : (m i : ℕ) → get_or holder m 0 ≡ suc i → held_by holder (suc m) i ≡ suc m
  unfolding held_by
  held-here m i e = rw (eq-eqb _ _ e)

  pub held-before : (m i : ℕ) → (get_or holder m 0 ≡ suc i → ⊥) → held_by holder (suc m) i ≡ held_by holder m i
  unfolding held_by
  held-before m i h = rw (ne_eqb _ _ h)

  -- The item that a bidder holds names it
  pub held-names : (m i k : ℕ) → held_by holder m i ≡ suc k → (k < m) × (get_or holder k 0 ≡ suc i)
  unfolding held_by
  held-names zero i k e = absurd (omega arith)
  held-names (suc m) i k e = go (eqb (get_or holder m 0) (suc i)) refl e (held-names m i k)
    where
      go : (t : Bool) → eqb (get_or holder m 0) (suc i) ≡ t → cond t (suc m) (held_by holder m i) ≡ suc k →
          (held_by holder m i ≡ suc k → (k < m) × (get_or holder k 0 ≡ suc i)) → (k < suc m) × (get_or holder k 0 ≡ suc i)
      go true q e below = let same : k ≡ m = omega arith in (omega arith, rw same (eqb-true _ _ q))
      go false q e below = let r = below e in (omega arith, r.1)

  pub held-within : (m i : ℕ) → held_by holder m i ≤ m
  held-within m i = go (held_by holder m i) refl
    where
      go : (c : ℕ) → held_by holder m i ≡ c → c ≤ m
      go zero e = omega arith
      go (suc k) e = (held-names m i k e).0

  -- Of the items that name a bidder it holds the last
  pub held-last : (m i k : ℕ) → k < m → get_or holder k 0 ≡ suc i → k < held_by holder m i
  unfolding held_by
  held-last zero i k l e = absurd (not-suc-le-zero l)
  held-last (suc m) i k l e = go (eqb (get_or holder m 0) (suc i)) refl (held-last m i k)
    where
      go : (t : Bool) → eqb (get_or holder m 0) (suc i) ≡ t → (k < m → get_or holder k 0 ≡ suc i → k < held_by holder m i) →
          k < cond t (suc m) (held_by holder m i)
      go true q below = l
      go false q below =
          ⊎_elim
          (λ (x : suc k ≡ suc m). absurd (eqb-false _ _ q (rw (suc_inj x) at e)))
          (λ x. below (omega arith) e)
          (eq-or-lt_of_le l)

  -- So one that holds nothing is named by none
  pub held_none : (m i k : ℕ) → held_by holder m i ≡ 0 → k < m → get_or holder k 0 ≡ suc i → ⊥
  held_none m i k z l e = omega (arith, held-last m i k l e)

-- ---- The edges of a row: `ws` are its weights.

-- One edge more at the end of edges that rise, above them all
rising-more : {m n low : ℕ} {es : List Edge} (e : Edge) → Rising m low es → low ≤ m → m < e.item → e.item ≤ n → Rising n low (es ++ (e ∷ []))
rising-more {low = low} e Rising.ends a l h = let x : low < e.item = omega arith in Rising.next x h Rising.ends
rising-more e (Rising.next {e = d} x y r) a l h = Rising.next {e = d} x (omega arith) (rising-more e r y l h)

rising-wider : {m n low : ℕ} {es : List Edge} → Rising m low es → m ≤ n → Rising n low es
rising-wider Rising.ends h = Rising.ends
rising-wider (Rising.next {e = d} x y r) h = Rising.next {e = d} x (omega arith) (rising-wider r h)

-- They stand in strictly rising order at items of the board, by form
pub rising-edges : (ws : List ℕ) (m : ℕ) → Rising m 0 (edges_in ws m)
unfolding edges_in
rising-edges ws zero = Rising.ends
rising-edges ws (suc m) = go (eqb (get_or ws m 0) 0) (rising-edges ws m)
  where
    go : (t : Bool) → Rising m 0 (edges_in ws m) → Rising (suc m) 0 (edges_in ws m ++ cond t [] (edge (suc m) (get_or ws m 0) ∷ []))
    go true r = rw append-nil (rising-wider r (omega arith))
    go false r = rising-more (edge (suc m) (get_or ws m 0)) r (omega arith) (omega arith) (omega arith)

weighed-both : {es fs : List Edge} → Weighed es → Weighed fs → Weighed (es ++ fs)
weighed-both Weighed.ends s = s
weighed-both (Weighed.next a b r) s = Weighed.next a b (weighed-both r s)

weighed-first : (es fs : List Edge) → Weighed (es ++ fs) → Weighed es
weighed-first [] fs r = Weighed.ends
weighed-first (e ∷ es) fs (Weighed.next a b r) = Weighed.next a b (weighed-first es fs r)

weighed-last : (es fs : List Edge) → Weighed (es ++ fs) → Weighed fs
weighed-last [] fs r = r
weighed-last (e ∷ es) fs (Weighed.next a b r) = weighed-last es fs r

-- Their weights are within limits exactly when no weight of the row is above the limit
pub edges-weighed : (ws : List ℕ) (m : ℕ) → ((k : ℕ) → k < m → get_or ws k 0 ≤ max_weight) → Weighed (edges_in ws m)
unfolding edges_in
edges-weighed ws zero h = Weighed.ends
edges-weighed ws (suc m) h = weighed-both (edges-weighed ws m (λ k l. h k (omega arith))) (go (eqb (get_or ws m 0) 0) refl)
  where
    go : (t : Bool) → eqb (get_or ws m 0) 0 ≡ t → Weighed (cond t [] (edge (suc m) (get_or ws m 0) ∷ []))
    go true q = Weighed.ends
    go false q =
        Weighed.next {e = edge (suc m) (get_or ws m 0)} (omega (arith, eqb-false (get_or ws m 0) 0 q)) (h m (omega arith)) Weighed.ends

pub weighed-edges : (ws : List ℕ) (m : ℕ) → Weighed (edges_in ws m) → (k : ℕ) → k < m → get_or ws k 0 ≤ max_weight
unfolding edges_in
weighed-edges ws zero r k l = absurd (not-suc-le-zero l)
weighed-edges ws (suc m) r k l =
    one_more
    m
    (λ j. get_or ws j 0 ≤ max_weight)
    (weighed-edges ws m (weighed-first (edges_in ws m) _ r))
    (go (eqb (get_or ws m 0) 0) refl (weighed-last (edges_in ws m) _ r))
    k
    l
  where
    go : (t : Bool) → eqb (get_or ws m 0) 0 ≡ t → Weighed (cond t [] (edge (suc m) (get_or ws m 0) ∷ [])) → get_or ws m 0 ≤ max_weight
    go true q r = omega (arith, eqb-true (get_or ws m 0) 0 q)
    go false q (Weighed.next a b r) = b
