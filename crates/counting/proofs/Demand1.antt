-- Demand 1 of the slow count: 13, then 17.
use Rattle.std.specs.Prelude.{Err, Ok}
use mathlib.Core.Path.{◌≡◌, refl, sym, ap}
use mathlib.Core.Bool.{false}
use mathlib.Core.List.{[], ◌∷◌}
use mathlib.Core.Logic.{by_cases}
use Prim.Native.Nat.{ℕ, ◌≤◌}
use native.Mathlib.Decide.{dec_lt}
use native.Mathlib.Omega.{arith}
use lib.Dec.{ltb}
use Rattle.duality.specs.Decide.{Decides}
use Rattle.duality.proofs.Decide.{clash, reword, lt-decides, or-decides, false-is}
use Rattle.refusals.specs.declared.Refusal.{Refusal}
use Rattle.refusals.specs.declared.Refusal.TheVariants.{Spoilt, Large}
use Rattle.refusals.specs.declared.Told.{Told}
use Rattle.refusals.specs.Told.{served, refused}
use Rattle.refusals.specs.Demand1.{check_for, first_of, Verdict}
use Rattle.refusals.proofs.Verdicts.{Decided, ends, next, demand-1, served-next}
use Rattle.refusals.proofs.Answers.{refused-apart, served-apart}
use Rattle.refusals.proofs.Places.{test-served, test-serves}
use Rattle.board.proofs.Tests.{no-decides}
use Rattle.supply.specs.declared.record.Board.{Board}
use Rattle.supply.specs.Board.{all_places}
use Rattle.supply.specs.Sound.{Sound}
use Rattle.supply.proofs.SoundLaw.{sound-decides}
use Rattle.counting.specs.Limits.{max_counted}
use Rattle.counting.specs.Call.{CountMet, large_test, counting_checks, count_on, count_by, count_of, counted_told}
use Rattle.counting.specs.Demand1.{CountDemand1, CountOrder, CountTakes}
use Rattle.counting.proofs.Outcomes.{last-served}

-- The test fails exactly where neither is over 6
pub large-decides : (n p : ℕ) → Decides (large_test n p) ((n ≤ max_counted) × (p ≤ max_counted) → ⊥)
unfolding large_test
large-decides n p =
    reword (or-decides {s = ltb max_counted n} (lt-decides max_counted p))
    (λ f (a, b). absurd (omega (arith, f (sym (false-is (ltb max_counted n) (lt-decides max_counted n) (λ l. omega arith))))))
    (λ f e. by_cases (dec_lt max_counted p) (λ l. l)
    (λ g. absurd (f (by_cases (dec_lt max_counted n) (λ l. absurd (clash (ltb max_counted n) ((lt-decides max_counted n).complete l) e)) (λ h. omega arith), omega arith))))

pub not-large : (n p : ℕ) → large_test n p ≡ false → (n ≤ max_counted) × (p ≤ max_counted)
not-large n p e = (
  by_cases (dec_lt max_counted n) (λ l. absurd (clash (large_test n p) ((large-decides n p).complete (λ (a, b). omega arith)) e)) (λ h. omega arith),
  by_cases (dec_lt max_counted p) (λ l. absurd (clash (large_test n p) ((large-decides n p).complete (λ (a, b). omega arith)) e)) (λ h. omega arith),
)

module _ (b : Board) where
  spoilt-met : CountMet b Spoilt → Sound b → ⊥
  spoilt-met (CountMet.spoilt f) = f

  large-met : CountMet b Large → (b.market.arrived ≤ max_counted) × (all_places b.items ≤ max_counted) → ⊥
  large-met (CountMet.many-bidders l) (x, y) = omega arith
  large-met (CountMet.many-places l) (x, y) = omega arith

  met-large : ((b.market.arrived ≤ max_counted) × (all_places b.items ≤ max_counted) → ⊥) → CountMet b Large
  met-large f =
      by_cases (dec_lt max_counted b.market.arrived) (λ l. CountMet.many-bidders l)
      (λ g. by_cases (dec_lt max_counted (all_places b.items)) (λ l. CountMet.many-places l) (λ h. absurd (f (omega arith, omega arith))))

  count-decided : Decided (CountMet b) (counting_checks b)
  count-decided =
      next (reword (no-decides (sound-decides b)) (λ f. CountMet.spoilt f) spoilt-met)
      (next (reword (large-decides b.market.arrived (all_places b.items)) met-large large-met) ends)

  -- ---- What is told names the verdict

  told-refused : (r : Refusal) (v : Verdict) → counted_told (count_by b v) ≡ refused r → v ≡ Err r
  unfolding count_by
  told-refused r (Ok tt) e = served-apart _ r _ _ e
  told-refused r (Err s) e = ap Err (refused-apart s r e)

  told-served : (w : ℕ) (v : Verdict) → counted_told (count_by b v) ≡ served w → (v ≡ Ok tt) × (w ≡ count_on b)
  unfolding count_by
  told-served w (Ok tt) e = (refl, sym (ap (λ (t : Told). t.value) e))
  told-served w (Err s) e = served-apart w s _ _ (sym e)

  serving : (v : Verdict) → v ≡ Ok tt → counted_told (count_by b v) ≡ served (count_on b)
  unfolding count_by
  serving v e = rw e

  refusing : (r : Refusal) (v : Verdict) → v ≡ Err r → counted_told (count_by b v) ≡ refused r
  unfolding count_by
  refusing r v e = rw e

pub count-demand-1 : CountDemand1
unfolding count_of
count-demand-1 b =
    demand-1 (count-decided b)
    (λ r. (refusing b r (first_of (counting_checks b)), told-refused b r (first_of (counting_checks b))))
    (serving b (first_of (counting_checks b)), λ e. (told-served b (count_on b) (first_of (counting_checks b)) e).0)

pub count_order : CountOrder
count_order b = refl

-- Neither is over 6: the last check is passed
few-served : (n p : ℕ) → n ≤ max_counted → p ≤ max_counted → first_of (check_for Large (large_test n p) ∷ []) ≡ Ok tt
few-served n p l m = last-served Large (large_test n p) (sym (false-is (large_test n p) (large-decides n p) (λ f. f (l, m))))

pub count-takes : CountTakes
unfolding count_of
count-takes b w = (
  λ e. let (v, x) = told-served b w (first_of (counting_checks b)) e in
      let (sound, rest) = test-served _ _ _ v in
      let (bidders, places) = not-large _ _ (served-next _ _ rest).0 in
      (record { sound = (sound-decides b).sound sound; bidders = bidders; places = places }, x),
  λ (t, x). let v = test-serves Spoilt _ _ ((sound-decides b).complete t.sound) (few-served _ _ t.bidders t.places) in
      rw x (serving b (first_of (counting_checks b)) v),
)
