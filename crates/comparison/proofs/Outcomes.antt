-- The comparison's outcome, as the code comes to it; and what is told names one answer.
use Rattle.std.specs.Prelude.{Err, Ok, OnOk}
use mathlib.Core.Path.{◌≡◌, refl, sym, ap, ap₂, ◌∙◌}
use mathlib.Core.List.{List, [], ◌∷◌}
use Prim.Native.Nat.{ℕ, ◌-◌, ◌<◌}
use native.Mathlib.Omega.{arith}
use lib.IntN.{ℤ}
use lib.ListN.{get_or}
use Rattle.refusals.specs.declared.Refusal.{Refusal}
use Rattle.refusals.specs.Codes.{code}
use Rattle.refusals.specs.Told.{refused}
use Rattle.refusals.specs.Demand1.{Check, Verdict}
use Rattle.refusals.proofs.Verdicts.{codes-apart}
use Rattle.refusals.proofs.Answers.{numbered}
use Rattle.supply.specs.declared.record.Board.{Board}
use Rattle.supply.specs.Board.{places_at}
use Rattle.supply.specs.ByItem.{live}
use Rattle.std.specs.declared.cmp.Ordering.{Ordering}
use Rattle.std.specs.declared.cmp.Ordering.TheVariants.{Less, Equal, Greater}
use Rattle.comparison.specs.declared.Comparison.{Comparison}
use Rattle.comparison.specs.Compare.{Compared, plans_checks, compare_by, order_number, compared, uncompared, compared_told}
use Rattle.comparison.specs.Demand1.{ComparedApart}

-- Refusals 9 and 10 of two plans, on a board
abbrev pub plans_on : Board → List ℕ → List ℕ → List Check
plans_on b = plans_checks b.market.arrived b.items.count (places_at b) (live b)

-- ---- What is told names the answer

pub told-refused : (c : Compared) (r : Refusal) → compared_told c ≡ uncompared (refused r) → c ≡ Err r
told-refused (Ok (d, o)) r e = let z = ap (λ (t : Comparison). t.number) e in absurd (omega (arith, numbered r))
told-refused (Err s) r e = ap Err (codes-apart s r (ap (λ (t : Comparison). code t.number t.place) e))

orders-numbered : (o : Ordering) → 0 < order_number o
orders-numbered Less = omega arith
orders-numbered Equal = omega arith
orders-numbered Greater = omega arith

-- The order that has a number
order_at : ℕ → Ordering
order_at n = get_or (Less ∷ Equal ∷ Greater ∷ []) (n - 1) Equal

order-at : (o : Ordering) → order_at (order_number o) ≡ o
unfolding order_at
order-at Less = refl
order-at Equal = refl
order-at Greater = refl

told-apart : (x y : Compared) → compared_told x ≡ compared_told y → x ≡ y
told-apart (Ok (d, o)) (Ok (e, p)) h =
    ap₂ (λ d o. Ok (d, o)) (ap (λ (t : Comparison). t.difference) h) (sym (order-at o) ∙ ap (λ (t : Comparison). order_at t.order) h ∙ order-at p)
told-apart (Ok (d, o)) (Err r) h = told-refused (Ok (d, o)) r h
told-apart (Err s) (Err r) h = told-refused (Err s) r h
told-apart (Err r) (Ok (e, p)) h = sym (told-refused (Ok (e, p)) r (sym h))

pub compared-apart : ComparedApart
compared-apart = record { answers = told-apart; orders = orders-numbered }

module _ (b : Board) (first second : List ℕ) where
  pub by-refused : (r : Refusal) (v : Verdict) → compare_by b first second v ≡ Err r → v ≡ Err r
  unfolding compare_by
  by-refused r (Ok tt) e = let z : ◌≡◌ {A = ℕ} 0 1 = cc in absurd (omega arith)
  by-refused r (Err s) e = let h : s ≡ r = cc in ap Err h

  pub by-served : (d : ℤ) (o : ℕ) (v : Verdict) → compared_told (compare_by b first second v) ≡ compared d o → v ≡ Ok tt
  unfolding compare_by
  by-served d o (Ok tt) e = refl
  by-served d o (Err r) e = let z = ap (λ (t : Comparison). t.number) e in absurd (omega (arith, numbered r))

-- What holds where a verdict is served
pub on_served : {P : Type 0} (v : Verdict) → (v ≡ Ok tt → P) → OnOk v P
on_served (Ok tt) f = f refl
on_served (Err r) f = tt
