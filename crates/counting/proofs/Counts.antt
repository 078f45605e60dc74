-- The count is the greatest of all trials, and trials are plans; so it is the greatest weight of a plan.
use mathlib.Core.Path.{◌≡◌, refl, ap, subst}
use mathlib.Core.Logic.{⊎_elim, by_cases}
use Prim.Native.Nat.{ℕ, zero, suc, ◌+◌, ◌-◌, ◌≤◌, ◌<◌, max}
use native.Mathlib.Nat.{eq-zero-or-pos}
use native.Mathlib.Decide.{dec_lt}
use native.Mathlib.Omega.{arith}
use lib.Dec.{eqb}
use Rattle.duality.specs.Sums.{upd}
use Rattle.duality.specs.Matching.{at_cell, weight_of}
use Rattle.duality.specs.Greatest.{greatest_of}
use Rattle.duality.proofs.Sums.{sum_to-head, upd-all}
use Rattle.duality.proofs.GreatestWeight.{greatest_of-first, greatest_of-ge, greatest-weight}
use Rattle.places.specs.Places.{flag}
use Rattle.places.specs.Plan.{namers, IsPlan}
use Rattle.places.proofs.Counts.{flag-eq, flag-ne}
use Rattle.places.proofs.Spread.{plans-of-ones}
use Rattle.places.proofs.GreatestWeightWith.{greatest-weight-with}
use Rattle.counting.specs.Count.{Trial, if_free, count_with}
use Rattle.counting.specs.CountLaws.{CountIsBestTrial, TrialsArePlans, CountMeans, CountIsGreatest, CountOfOnes}

-- ---- The first bidder, and the rest

-- What an item counts for the first bidder
abbrev pub trying : ℕ → ℕ → (ℕ → ℕ) → (ℕ → ℕ → ℕ) → ℕ → ℕ
trying n m free w k = if_free (free k) (w 0 k + count_with n m (upd k (free k - 1) free) (λ i. w (suc i)))

-- Where a place is free, the item is tried
pub tried : (free x : ℕ) → 0 < free → if_free free x ≡ x
tried zero x h = absurd (omega arith)
tried (suc free) x h = refl

-- What holds of the first and of each number holds of the greatest
greatest_of-holds : (P : ℕ → Type 0) (x m : ℕ) (f : ℕ → ℕ) → P x → ((k : ℕ) → k < m → P (f k)) → P (greatest_of x m f)
greatest_of-holds P x zero f p h = p
greatest_of-holds P x (suc m) f p h =
    by_cases (dec_lt (greatest_of x m f) (f m))
    (λ l. let e : f m ≡ max (greatest_of x m f) (f m) = omega arith in subst P e (h m (omega arith)))
    (λ l. let e : greatest_of x m f ≡ max (greatest_of x m f) (f m) = omega arith in
    subst P e (greatest_of-holds P x m f p (λ k lk. h k (omega arith))))

-- ---- The greatest of all trials

-- None for anybody
all_none : (n m : ℕ) (free : ℕ → ℕ) (w : ℕ → ℕ → ℕ) → Trial m n free w 0
all_none zero m free w = Trial.ends
all_none (suc n) m free w = Trial.none (all_none n m free (λ i. w (suc i)))

trial-counted : (n m : ℕ) (free : ℕ → ℕ) (w : ℕ → ℕ → ℕ) → Trial m n free w (count_with n m free w)
trial-counted zero m free w = Trial.ends
trial-counted (suc n) m free w =
    greatest_of-holds (Trial m (suc n) free w) (count_with n m free (λ i. w (suc i))) m (trying n m free w)
    (Trial.none {w = w} (trial-counted n m free (λ i. w (suc i))))
    (λ k l. item k l (free k) refl (trial-counted n m (upd k (free k - 1) free) (λ i. w (suc i))))
  where
    item : (k : ℕ) → k < m → (f : ℕ) → free k ≡ f → Trial m n (upd k (free k - 1) free) (λ i. w (suc i)) (count_with n m (upd k (free k - 1) free) (λ i. w (suc i))) →
        Trial m (suc n) free w (if_free f (w 0 k + count_with n m (upd k (free k - 1) free) (λ i. w (suc i))))
    item k l zero e t = all_none (suc n) m free w
    item k l (suc f) e t = Trial.item {free = free} {w = w} k l (omega arith) t

trial-within : {m n : ℕ} {free : ℕ → ℕ} {w : ℕ → ℕ → ℕ} {x : ℕ} → Trial m n free w x → x ≤ count_with n m free w
trial-within {m} Trial.ends = omega arith
trial-within {m} (Trial.none {n} {free} {w} {x} t) = omega (arith, trial-within t, greatest_of-first (count_with n m free (λ i. w (suc i))) m (trying n m free w))
trial-within {m} (Trial.item {n} {free} {w} {x} k l some t) =
    omega (
      arith,
      trial-within t,
      tried (free k) (w 0 k + count_with n m (upd k (free k - 1) free) (λ i. w (suc i))) some,
      greatest_of-ge (count_with n m free (λ i. w (suc i))) m (trying n m free w) k l,
    )

pub count-is-best-trial : CountIsBestTrial
count-is-best-trial n m free w = record { tried = trial-counted n m free w; best = λ x t. trial-within t }

-- ---- A trial is a plan, and a plan is a trial

-- A cell before those of the rest
abbrev before : ℕ → (ℕ → ℕ) → ℕ → ℕ
before c plan zero = c
before c plan (suc i) = plan i

-- Who names an item: the first bidder, and those of the rest
namers-head : (n : ℕ) (plan : ℕ → ℕ) (k : ℕ) → namers (suc n) plan k ≡ flag (eqb (plan 0) (suc k)) + namers n (λ i. plan (suc i)) k
namers-head n plan k = sum_to-head n (λ i. flag (eqb (plan i) (suc k)))

weight-head : (n : ℕ) (w : ℕ → ℕ → ℕ) (plan : ℕ → ℕ) → weight_of (suc n) w plan ≡ at_cell (w 0) (plan 0) + weight_of n (λ i. w (suc i)) (λ i. plan (suc i))
weight-head n w plan = sum_to-head n (λ i. at_cell (w i) (plan i))

-- One place of an item fewer: what holds of it, and of the others as they were
fewer : (P : ℕ → ℕ → Type 0) (k : ℕ) (free : ℕ → ℕ) → P k (free k - 1) → ((j : ℕ) → (j ≡ k → ⊥) → P j (free j)) → (j : ℕ) → P j (upd k (free k - 1) free j)
fewer P k free = upd-all P k (free k - 1) free

module _ {n m : ℕ} {free : ℕ → ℕ} {w : ℕ → ℕ → ℕ} {plan : ℕ → ℕ} (p : IsPlan (suc n) m free w plan) where
  -- The cells of the rest are a plan, where so many places are free as they name
  rest : (left : ℕ → ℕ) → ((k : ℕ) → k < m → namers n (λ i. plan (suc i)) k ≤ left k) → IsPlan n m left (λ i. w (suc i)) (λ i. plan (suc i))
  rest left h = record { along = λ i k l e. p.along (suc i) k (omega arith) e; within = h }

  -- The first bidder has none
  rest-none : (k : ℕ) → k < m → namers n (λ i. plan (suc i)) k ≤ free k
  rest-none k l = omega (arith, namers-head n plan k, p.within k l)

  -- The first bidder has item k + 1
  rest-with : (k : ℕ) → plan 0 ≡ suc k → (j : ℕ) → j < m → namers n (λ i. plan (suc i)) j ≤ upd k (free k - 1) free j
  rest-with k e =
      fewer (λ j v. j < m → namers n (λ i. plan (suc i)) j ≤ v) k free
      (λ l. omega (arith, namers-head n plan k, flag-eq (plan 0) (suc k) e, p.within k l))
      (λ j ne l. rest-none j l)

  named-free : (k : ℕ) → plan 0 ≡ suc k → 0 < free k
  named-free k e = omega (arith, namers-head n plan k, flag-eq (plan 0) (suc k) e, p.within k (p.along 0 k (omega arith) e).0)

plan-tried : (n m : ℕ) (free : ℕ → ℕ) (w : ℕ → ℕ → ℕ) (plan : ℕ → ℕ) → IsPlan n m free w plan → Trial m n free w (weight_of n w plan)
plan-tried zero m free w plan p = Trial.ends
plan-tried (suc n) m free w plan p =
    go (plan 0) refl (λ left h. plan-tried n m left (λ i. w (suc i)) (λ i. plan (suc i)) (rest p left h))
  where
    go : (c : ℕ) → plan 0 ≡ c
        → ((left : ℕ → ℕ) → ((k : ℕ) → k < m → namers n (λ i. plan (suc i)) k ≤ left k) → Trial m n left (λ i. w (suc i)) (weight_of n (λ i. w (suc i)) (λ i. plan (suc i))))
        → Trial m (suc n) free w (weight_of (suc n) w plan)
    go zero e ih =
        let same : weight_of n (λ i. w (suc i)) (λ i. plan (suc i)) ≡ weight_of (suc n) w plan = omega (arith, weight-head n w plan, ap (at_cell (w 0)) e) in
        subst (Trial m (suc n) free w) same (Trial.none {w = w} (ih free (rest-none p)))
    go (suc k) e ih =
        let same : w 0 k + weight_of n (λ i. w (suc i)) (λ i. plan (suc i)) ≡ weight_of (suc n) w plan = omega (arith, weight-head n w plan, ap (at_cell (w 0)) e) in
        subst (Trial m (suc n) free w) same
        (Trial.item {free = free} {w = w} k (p.along 0 k (omega arith) e).0 (named-free p k e) (ih (upd k (free k - 1) free) (rest-with p k e)))

-- A plan of so much weight
abbrev Weighs : ℕ → ℕ → (ℕ → ℕ) → (ℕ → ℕ → ℕ) → ℕ → Type 0
Weighs n m free w x = (plan : ℕ → ℕ) × IsPlan n m free w plan × (weight_of n w plan ≡ x)

module _ (n m : ℕ) (free : ℕ → ℕ) (w : ℕ → ℕ → ℕ) where
  -- A cell, and a plan of the rest on what it leaves
  joined : (left : ℕ → ℕ) (c x y : ℕ) → Weighs n m left (λ i. w (suc i)) x → at_cell (w 0) c + x ≡ y → ((k : ℕ) → c ≡ suc k → (k < m) × (0 < w 0 k))
      → ((k : ℕ) → k < m → flag (eqb c (suc k)) + left k ≤ free k) → Weighs (suc n) m free w y
  joined left c x y (plan, p, h) sum edge room = (
    before c plan,
    record { along = along; within = λ k l. omega (arith, namers-head n (before c plan) k, room k l, p.within k l) },
    omega (arith, weight-head n w (before c plan), h, sum),
  )
    where
      along : (i k : ℕ) → i < suc n → before c plan i ≡ suc k → (k < m) × (0 < w i k)
      along zero k l e = edge k e
      along (suc i) k l e = p.along i k (omega arith) e

  -- None
  with_none : (left : ℕ → ℕ) (x y : ℕ) → x ≡ y → ((k : ℕ) → k < m → left k ≤ free k) → Weighs n m left (λ i. w (suc i)) x → Weighs (suc n) m free w y
  with_none left x y same room f = joined left 0 x y f (omega arith) (λ k e. absurd (omega arith)) (λ k l. omega (arith, flag-ne 0 (suc k) (λ e. omega arith), room k l))

  -- Item k + 1, of which a place is free: along its edge, or where there is none without it
  with_item : (k x : ℕ) → k < m → 0 < free k → Weighs n m (upd k (free k - 1) free) (λ i. w (suc i)) x → Weighs (suc n) m free w (w 0 k + x)
  with_item k x l some f =
      ⊎_elim
      (λ (z : w 0 k ≡ 0). with_none (upd k (free k - 1) free) x (w 0 k + x) (omega arith) no_more f)
      (λ edge. joined (upd k (free k - 1) free) (suc k) x (w 0 k + x) f (omega arith) (λ j (e : suc k ≡ suc j). let s : k ≡ j = omega arith in rw (← s) (l, edge)) room)
      (eq-zero-or-pos (w 0 k))
    where
      no_more : (j : ℕ) → j < m → upd k (free k - 1) free j ≤ free j
      no_more = fewer (λ j v. j < m → v ≤ free j) k free (λ _. omega arith) (λ j ne _. omega arith)

      room : (j : ℕ) → j < m → flag (eqb (suc k) (suc j)) + upd k (free k - 1) free j ≤ free j
      room =
          fewer (λ j v. j < m → flag (eqb (suc k) (suc j)) + v ≤ free j) k free
          (λ _. omega (arith, flag-eq (suc k) (suc k) refl))
          (λ j ne _. omega (arith, flag-ne (suc k) (suc j) (λ (e : suc k ≡ suc j). ne (omega arith))))

trial-planned : {m n : ℕ} {free : ℕ → ℕ} {w : ℕ → ℕ → ℕ} {x : ℕ} → Trial m n free w x → Weighs n m free w x
trial-planned Trial.ends = (λ _. 0, record { along = λ i k l e. absurd (omega arith); within = λ k l. omega arith }, refl)
trial-planned {m} (Trial.none {n} {free} {w} {x} t) = with_none n m free w free x x refl (λ k l. omega arith) (trial-planned t)
trial-planned {m} (Trial.item {n} {free} {w} {x} k l some t) = with_item n m free w k x l some (trial-planned t)

pub trials-are-plans : TrialsArePlans
trials-are-plans n m free w x = (trial-planned, λ (plan, p, e). subst (Trial m n free w) e (plan-tried n m free w plan p))

-- ---- So it is the greatest weight

count-bound : (n m : ℕ) (free : ℕ → ℕ) (w : ℕ → ℕ → ℕ) (plan : ℕ → ℕ) → IsPlan n m free w plan → weight_of n w plan ≤ count_with n m free w
count-bound n m free w plan p = trial-within (plan-tried n m free w plan p)

pub count-means : CountMeans
count-means n m free w = record { bound = count-bound n m free w; attained = trial-planned (trial-counted n m free w) }

pub count-is-greatest : CountIsGreatest
count-is-greatest n m count w =
    let g = greatest-weight-with n m count w in
    let (plan, p, e) = (count-means n m count w).attained in
    let (best, q, h) = g.attained in
    omega (arith, e, g.bound plan p, h, count-bound n m count w best q)

pub count-of-ones : CountOfOnes
count-of-ones n m count w ones =
    let g = greatest-weight n m w in
    let (plan, p, e) = (count-means n m count w).attained in
    let (best, q, h) = g.attained in
    omega (arith, e, g.bound plan ((plans-of-ones n m count w plan ones).0 p), h, count-bound n m count w best ((plans-of-ones n m count w best ones).1 q))
