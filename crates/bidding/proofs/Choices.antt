-- Which item the rule chooses, and the second utility beside it: the computed answer is right, and there is one right answer.
use mathlib.Core.Path.{◌≡◌, refl, sym, ◌∙◌, ap}
use mathlib.Core.Logic.{◌⊎◌, inl, inr, ⊎_elim, by_cases}
use mathlib.Core.Bool.{Bool, true, false, cond}
use Prim.Native.Nat.{ℕ, zero, suc, ◌*◌, ◌≤◌, ◌<◌, max}
use native.Mathlib.Nat.{not-suc-le-zero, le_refl, le_antisymm}
use native.Mathlib.Decide.{dec_lt}
use native.Mathlib.Omega.{arith}
use lib.Dec.{ltb}
use borrow.Author.Tests.{ltb-false, le-ltb}
use Rattle.duality.specs.Steps.{utility, Open}
use Rattle.duality.specs.Decide.{Decides}
use Rattle.duality.proofs.Below.{one_more}
use Rattle.duality.proofs.Decide.{clash, reword, lt-decides, eq-decides, and-decides, or-decides}
use Rattle.board.specs.declared.units.Pence.{Pence}
use Rattle.board.specs.declared.units.Scaled.{Scaled}
use Rattle.bidding.specs.declared.rule.Best.{Best}
use Rattle.std.proofs.Common.{Option, Some, None}
use Rattle.bidding.specs.Rule.{best_edge, Chosen, Second, NoneOpen, beats, offer_of, best_of}
use Rattle.board.specs.Cells.{pence, scaled}
use Rattle.bidding.specs.RuleLaws.{Choice, chosen, none, BestIsChosen, ChosenOnce, SecondOnce, SecondWithin, TiesByWeight}

-- The edge at item k + 1 goes before that at item j + 1, or they are the same
record Before (q : ℕ) (w y : ℕ → ℕ) (k j : ℕ) : Type 0 where
  pub greatest : utility q (w j) (y j) ≤ utility q (w k) (y k)
  pub heaviest : utility q (w j) (y j) ≡ utility q (w k) (y k) → w j ≤ w k
  pub lowest : utility q (w j) (y j) ≡ utility q (w k) (y k) → w j ≡ w k → k ≤ j

-- What `beats` decides of the edge at item m + 1 beside that at item k + 1: where its utility is not greater, it is equal and the weight is greater
abbrev Beats : ℕ → (ℕ → ℕ) → (ℕ → ℕ) → ℕ → ℕ → Type 0
Beats q w y m k = utility q (w m) (y m) ≤ utility q (w k) (y k) → (utility q (w m) (y m) ≡ utility q (w k) (y k)) × (w k < w m)

beats-decides : (q m : ℕ) (w y : ℕ → ℕ) (k : ℕ) →
    Decides (beats (utility q (w m) (y m)) (w m) (utility q (w k) (y k)) (w k)) (Beats q w y m k)
beats-decides q m w y k =
    let u = utility q (w m) (y m) in
    let g = utility q (w k) (y k) in
    reword (or-decides {s = ltb g u} (and-decides (eq-decides u g) (lt-decides (w k) (w m)))) (λ h l. h (le-ltb g u l)) (λ h e. h (ltb-false g u e))

module _ {q m : ℕ} {w y : ℕ → ℕ} where
  -- An edge that beats another goes before all that the other went before
  overtakes : {k : ℕ} → Beats q w y m k → (j : ℕ) → Before q w y k j → Before q w y m j
  overtakes {k} b j f =
      by_cases (dec_lt (utility q (w k) (y k)) (utility q (w m) (y m)))
      (λ l. record { greatest = omega (arith, f.greatest); heaviest = λ e. absurd (omega (arith, f.greatest)); lowest = λ e _. absurd (omega (arith, f.greatest)) })
      (λ g.
      let t = b (omega arith) in
      record {
        greatest = omega (arith, t.0, f.greatest);
        heaviest = λ e. omega (arith, t.1, f.heaviest (e ∙ t.0));
        lowest = λ e v. absurd (omega (arith, t.1, f.heaviest (e ∙ t.0)));
      })

  -- Otherwise the other, at a lower item, goes before it
  stays-before : {k : ℕ} → k < m → (Beats q w y m k → ⊥) → Before q w y k m
  stays-before {k} l n =
      record {
        greatest = by_cases (dec_lt (utility q (w k) (y k)) (utility q (w m) (y m))) (λ g. absurd (n (λ h. absurd (omega arith)))) (λ g. omega arith);
        heaviest = λ e. by_cases (dec_lt (w k) (w m)) (λ g. absurd (n (λ h. (e, g)))) (λ g. omega arith);
        lowest = λ _ _. omega arith;
      }

module _ {p q m : ℕ} {w y : ℕ → ℕ} where
  -- The chosen one goes before every open edge
  goes_before : {k : ℕ} → Chosen p q m w y k → (j : ℕ) → j < m → Open p q (w j) (y j) → Before q w y k j
  goes_before c j l o = record { greatest = c.greatest j l o; heaviest = c.heaviest j l o; lowest = c.lowest j l o }

  is-chosen : {k : ℕ} → k < suc m → Open p q (w k) (y k) → ((j : ℕ) → j < suc m → Open p q (w j) (y j) → Before q w y k j) → Chosen p q (suc m) w y k
  is-chosen l o h =
      record {
        item = l;
        «open» = o;
        greatest = λ j l o. (h j l o).greatest;
        heaviest = λ j l o. (h j l o).heaviest;
        lowest = λ j l o. (h j l o).lowest;
      }

  -- The chosen item stays so where the next edge is not open or does not go before
  keeps : {k : ℕ} → Chosen p q m w y k → (Open p q (w m) (y m) → Before q w y k m) → Chosen p q (suc m) w y k
  keeps {k} c h = is-chosen (omega (arith, c.item)) c.«open» (one_more m (λ j. Open p q (w j) (y j) → Before q w y k j) (goes_before c) h)

  -- The next edge, where it goes before every open one
  betters : Open p q (w m) (y m) → ((j : ℕ) → j < m → Open p q (w j) (y j) → Before q w y m j) → Chosen p q (suc m) w y m
  betters o h =
      let same : Before q w y m m = record { greatest = le_refl _; heaviest = λ _. le_refl _; lowest = λ _ _. le_refl _ } in
      is-chosen (le_refl (suc m)) o (one_more m (λ j. Open p q (w j) (y j) → Before q w y m j) h (λ _. same))

  -- An item among the first m is among one more
  further : {k s : ℕ} → Second p q m w y k s →
      ((j : ℕ) × (j < suc m) × (j ≡ k → ⊥) × Open p q (w j) (y j) × (utility q (w j) (y j) ≡ s)) ⊎ (s ≡ 0)
  further t = ⊎_elim (λ r. let (j, l, ne, o, e) = r in inl (j, omega arith, ne, o, e)) (λ z. inr z) t.reached

  -- Beside the chosen item the second utility stays so where the next edge is not open
  second-stays : {k s : ℕ} → Second p q m w y k s → (Open p q (w m) (y m) → ⊥) → Second p q (suc m) w y k s
  second-stays {k} {s} t shut =
      record {
        greatest = one_more m (λ j. (j ≡ k → ⊥) → Open p q (w j) (y j) → utility q (w j) (y j) ≤ s) t.greatest (λ ne o. absurd (shut o));
        reached = further t;
      }

  -- Where the next edge goes before, what was chosen is second
  second-was : {k : ℕ} → Chosen p q m w y k → Second p q (suc m) w y m (utility q (w k) (y k))
  second-was {k} c =
      record {
        greatest = one_more m (λ j. (j ≡ m → ⊥) → Open p q (w j) (y j) → utility q (w j) (y j) ≤ utility q (w k) (y k)) (λ j l ne o. c.greatest j l o) (λ ne o. absurd (ne refl));
        reached = inl (k, omega (arith, c.item), (λ e. omega (arith, c.item)), c.«open», refl);
      }

  -- The first open edge is alone
  second_none : NoneOpen p q m w y → Second p q (suc m) w y m 0
  second_none h =
      record {
        greatest = one_more m (λ j. (j ≡ m → ⊥) → Open p q (w j) (y j) → utility q (w j) (y j) ≤ 0) (λ j l ne o. absurd (h j l o)) (λ ne o. absurd (ne refl));
        reached = inr refl;
      }

  -- Where the next edge is open and does not go before, it may be second
  second_more : {k s : ℕ} → k < m → Second p q m w y k s → Open p q (w m) (y m) → Second p q (suc m) w y k (max s (utility q (w m) (y m)))
  second_more {k} {s} l t o =
      let u = utility q (w m) (y m) in
      record {
        greatest = one_more m (λ j. (j ≡ k → ⊥) → Open p q (w j) (y j) → utility q (w j) (y j) ≤ max s u) (λ j lj ne oj. omega (arith, t.greatest j lj ne oj)) (λ ne _. omega arith);
        reached = by_cases (dec_lt s u)
            (λ h. let e : u ≡ max s u = omega arith in inl (m, omega arith, (λ e. omega arith), o, e))
            (λ h. let e : max s u ≡ s = omega arith in rw e (further t));
      }

  after_none : (t : Bool) → Decides t (Open p q (w m) (y m)) → NoneOpen p q m w y →
      Choice p q (suc m) w y (cond t (Some (best_edge m (pence (w m)) (scaled (utility q (w m) (y m))) (scaled 0))) None)
  after_none true d h = chosen (betters (d.sound refl) (λ j l o. absurd (h j l o))) (second_none h)
  after_none false d h = none (one_more m _ h (λ o. clash false (d.complete o) refl))

  after-chosen : {k s : ℕ} (t v : Bool) → Decides t (Open p q (w m) (y m)) → Decides v (Beats q w y m k) → Chosen p q m w y k → Second p q m w y k s →
      Choice p q (suc m) w y (cond t
      (cond v (Some (best_edge m (pence (w m)) (scaled (utility q (w m) (y m))) (scaled (utility q (w k) (y k)))))
      (Some (best_edge k (pence (w k)) (scaled (utility q (w k) (y k))) (scaled (max s (utility q (w m) (y m)))))))
      (Some (best_edge k (pence (w k)) (scaled (utility q (w k) (y k))) (scaled s))))
  after-chosen true true d e c r = chosen (betters (d.sound refl) (λ j l o. overtakes (e.sound refl) j (goes_before c j l o))) (second-was c)
  after-chosen true false d e c r = chosen (keeps c (λ o. stays-before c.item (λ h. clash false (e.complete h) refl))) (second_more c.item r (d.sound refl))
  after-chosen false v d e c r = chosen (keeps c (λ o. absurd (clash false (d.complete o) refl))) (second-stays r (λ o. clash false (d.complete o) refl))

  after : {best : Option Best} → Choice p q m w y best → Choice p q (suc m) w y (offer_of p q m (w m) (y m) best)
  unfolding offer_of
  after (none h) = after_none _ (lt-decides (p * w m) (utility q (w m) (y m))) h
  after (chosen {k = k} c r) = after-chosen _ _ (lt-decides (p * w m) (utility q (w m) (y m))) (beats-decides q m w y k) c r

pub best-is-chosen : BestIsChosen
unfolding best_of
best-is-chosen p q zero w y = none (λ k l. absurd (not-suc-le-zero l))
best-is-chosen p q (suc m) w y = after (best-is-chosen p q m w y)

pub chosen-once : ChosenOnce
chosen-once p q m w y j k c d =
    let u : utility q (w j) (y j) ≡ utility q (w k) (y k) =
    le_antisymm (d.greatest j c.item c.«open») (c.greatest k d.item d.«open») in
    let v : w j ≡ w k = le_antisymm (d.heaviest j c.item c.«open» u) (c.heaviest k d.item d.«open» (sym u)) in
    le_antisymm (c.lowest k d.item d.«open» (sym u) (sym v)) (d.lowest j c.item c.«open» u v)

-- A second utility is at most any other
second-le : {p q m : ℕ} {w y : ℕ → ℕ} {k s t : ℕ} → Second p q m w y k s → Second p q m w y k t → s ≤ t
second-le {s = s} {t} a b = ⊎_elim (λ r. let (j, l, ne, o, e) = r in omega (arith, e, b.greatest j l ne o)) (λ z. omega arith) a.reached

pub second-once : SecondOnce
second-once p q m w y k s t a b = le_antisymm (second-le a b) (second-le b a)

pub second-within : SecondWithin
second-within p q m w y k s c r = ⊎_elim (λ r. let (j, l, ne, o, e) = r in omega (arith, e, c.greatest j l o)) (λ z. omega arith) r.reached

pub ties-by-weight : TiesByWeight
ties-by-weight p q m w y j k c l o u =
    by_cases (dec_lt (w j) (w k)) (λ h. inl h) (λ g. let v : w j ≡ w k = omega (arith, c.heaviest j l o u) in inr (v, c.lowest j l o u v))

-- What an answer says
pub record Answers (p q m : ℕ) (w y : ℕ → ℕ) (k : ℕ) (v : Pence) (u s : Scaled) : Type 0 where
  pub chosen : Chosen p q m w y k
  pub weight : v ≡ pence (w k)
  pub utility : u ≡ scaled (utility q (w k) (y k))
  pub second : Second p q m w y k s.0

module _ (p q m : ℕ) (w y : ℕ → ℕ) where
  pub best-at : (k : ℕ) (v : Pence) (u s : Scaled) → best_of p q w y m ≡ Some (best_edge k v u s) → Answers p q m w y k v u s
  best-at k v u s e = go (best-is-chosen p q m w y) e
    where
      go : {best : Option Best} → Choice p q m w y best → best ≡ Some (best_edge k v u s) → Answers p q m w y k v u s
      go (none h) e = let z : ◌≡◌ {A = ℕ} 0 1 = cc in absurd (omega arith)
      go (chosen {k = j} {s = t} c r) e =
          let all : best_edge j (pence (w j)) (scaled (utility q (w j) (y j))) (scaled t) ≡ best_edge k v u s = cc in
          let same : j ≡ k = ap (λ (b : Best). b.item) all in
          let weight : v ≡ pence (w j) = sym (ap (λ (b : Best). b.weight) all) in
          let gain : u ≡ scaled (utility q (w j) (y j)) = sym (ap (λ (b : Best). b.utility) all) in
          let left : scaled t ≡ s = ap (λ (b : Best). b.second) all in
          rw (← same, ← left) (record { chosen = c; weight = weight; utility = gain; second = r })

  pub best-nothing : best_of p q w y m ≡ None → NoneOpen p q m w y
  best-nothing e = go (best-is-chosen p q m w y) e
    where
      go : {best : Option Best} → Choice p q m w y best → best ≡ None → NoneOpen p q m w y
      go (none h) e = h
      go (chosen c r) e = let z : ◌≡◌ {A = ℕ} 0 1 = cc in absurd (omega arith)
