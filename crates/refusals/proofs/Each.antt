-- The checks of the cells of a list: what is served, what decides, and how a loop over the cells comes to the verdict.
use Rattle.std.specs.Prelude.{Err, Ok}
use mathlib.Core.Path.{◌≡◌, refl, sym, ap, ap₂, ◌∙◌}
use mathlib.Core.List.{List, ◌++◌, append_assoc}
use mathlib.Core.Logic.{⊎_elim}
use Prim.Native.Nat.{ℕ, zero, suc, ◌+◌, ◌-◌, ◌≤◌, ◌<◌}
use native.Mathlib.Nat.{zero-add, add-zero, eq-or-lt_of_le}
use native.Mathlib.Numerals.{add-one}
use native.Mathlib.Omega.{arith}
use Rattle.refusals.specs.declared.Refusal.{Refusal}
use Rattle.refusals.specs.Demand1.{Check, first_of, Verdict}
use Rattle.refusals.specs.Each.{each_checks}
use Rattle.refusals.proofs.Verdicts.{Decided, ends, decided-append, first_on, first_stops, served-both}

-- Cells that are tested alike
pub each-as : (f g : ℕ → List Check) (i n : ℕ) → ((j : ℕ) → j < i + n → f j ≡ g j) → each_checks f i n ≡ each_checks g i n
unfolding each_checks
each-as f g i zero e = refl
each-as f g i (suc n) e = ap₂ ◌++◌ (e i (omega arith)) (each-as f g (suc i) n (λ j l. e j (omega arith)))

module _ (checks : ℕ → List Check) where
  -- Where all are served, each is
  pub each-served : (i n : ℕ) → first_of (each_checks checks i n) ≡ Ok tt → (j : ℕ) → i ≤ j → j < i + n → first_of (checks j) ≡ Ok tt
  unfolding each_checks
  each-served i zero e j l h = absurd (omega arith)
  each-served i (suc n) e j l h =
      let u = served-both (checks i) (each_checks checks (suc i) n) e in
      ⊎_elim (λ (q : i ≡ j). rw q at u.0) (λ m. each-served (suc i) n u.1 j m (omega arith)) (eq-or-lt_of_le l)

  -- Where each is served, all are
  pub each-serves : (i n : ℕ) → ((j : ℕ) → i ≤ j → j < i + n → first_of (checks j) ≡ Ok tt) → first_of (each_checks checks i n) ≡ Ok tt
  unfolding each_checks first_of
  each-serves i zero h = refl
  each-serves i (suc n) h =
      first_on (checks i) (each_checks checks (suc i) n) (h i (omega arith) (omega arith)) ∙
      each-serves (suc i) n (λ j l m. h j (omega arith) (omega arith))

  -- The checks of the first m cells stand before those of the others
  pub each-split : (m n i : ℕ) → each_checks checks i (m + n) ≡ each_checks checks i m ++ each_checks checks (i + m) n
  unfolding each_checks
  each-split zero n i = rw (zero-add n, add-zero i)
  each-split (suc m) n i =
      let e : suc m + n ≡ suc (m + n) = omega arith in
      let f : i + suc m ≡ suc i + m = omega arith in
      rw (e, f, append_assoc) (ap (λ l. checks i ++ l) (each-split m n (suc i)))

  -- A refusal of the first m cells decides
  pub each_first : (m n : ℕ) (r : Refusal) → m ≤ n → first_of (each_checks checks 0 m) ≡ Err r → first_of (each_checks checks 0 n) ≡ Err r
  each_first m n r l e = let q : n ≡ m + (n - m) = omega arith in rw (q, each-split m (n - m) 0) (first_stops _ _ r e)

  decided-from : {Met : Refusal → Type 0} (i n : ℕ) → ((j : ℕ) → j < i + n → Decided Met (checks j)) → Decided Met (each_checks checks i n)
  unfolding each_checks
  decided-from i zero d = ends
  decided-from i (suc n) d = decided-append (d i (omega arith)) (decided-from (suc i) n (λ j l. d j (omega arith)))

  pub cells-decided : {Met : Refusal → Type 0} (n : ℕ) → ((i : ℕ) → i < n → Decided Met (checks i)) → Decided Met (each_checks checks 0 n)
  cells-decided n d = decided-from 0 n (λ j l. d j (omega arith))

-- ---- A loop over n cells has come to cell i: what is left says the same as all

pub record Left (checks : ℕ → List Check) (n i : ℕ) : Type 0 where
  pub within : i ≤ n
  pub same : first_of (each_checks checks 0 n) ≡ first_of (each_checks checks i (n - i))

module _ {checks : ℕ → List Check} {n : ℕ} where
  pub each_start : Left checks n 0
  each_start = let e : n - 0 ≡ n = omega arith in record { within = omega arith; same = rw e }

  module _ {i : ℕ} (left : Left checks n i) where
    pub each-end : n ≤ i → Ok tt ≡ first_of (each_checks checks 0 n)
    unfolding first_of each_checks
    each-end l = let e : n - i ≡ 0 = omega arith in rw (left.same, e)

    -- The verdict v on cell i
    module _ (l : i < n) {v : Verdict} (e : v ≡ first_of (checks i)) where
      next-cell : each_checks checks i (n - i) ≡ checks i ++ each_checks checks (suc i) (n - suc i)
      unfolding each_checks
      next-cell = let s : n - i ≡ suc (n - suc i) = omega arith in rw s

      pub each_on : v ≡ Ok tt → Left checks n (i + 1)
      each_on s = record { within = omega arith; same = left.same ∙ rw (add-one, next-cell) (first_on _ _ (sym e ∙ s)) }

      pub each-stop : {r : Refusal} → v ≡ Err r → v ≡ first_of (each_checks checks 0 n)
      each-stop {r} s = s ∙ sym (left.same ∙ rw next-cell (first_stops _ _ r (sym e ∙ s)))

-- Where the first k cells are served, what is left from there says the same as all
pub each_left : (checks : ℕ → List Check) (n k : ℕ) → k ≤ n → ((j : ℕ) → j < k → first_of (checks j) ≡ Ok tt) → Left checks n k
each_left checks n k l h =
    let q : n ≡ k + (n - k) = omega arith in
    record {
      within = l;
      same =
          ap (λ m. first_of (each_checks checks 0 m)) q ∙
          (ap first_of (each-split checks k (n - k) 0) ∙
          rw (zero-add k) (first_on _ _ (each-serves checks 0 k (λ j a b. h j (omega arith)))));
    }
