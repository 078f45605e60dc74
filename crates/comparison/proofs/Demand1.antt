-- Demand 1 of the comparison: the board first, then the first plan, then the second.
use Rattle.std.specs.Prelude.{Err, Ok}
use mathlib.Core.Path.{◌≡◌, refl, sym, ◌∙◌}
use mathlib.Core.Bool.{Bool, true, false}
use mathlib.Core.List.{List}
use mathlib.Core.Logic.{◌↔◌}
use Prim.Native.Nat.{ℕ, suc}
use lib.ListN.{length}
use Rattle.duality.specs.Lists.{cells}
use Rattle.places.specs.PlanTest.{cell_test_with}
use Rattle.duality.proofs.Decide.{reword, eq-decides, false-is, clash}
use Rattle.refusals.specs.declared.Refusal.{Refusal}
use Rattle.refusals.specs.declared.Refusal.TheVariants.{Uneven, Clash, Spoilt}
use Rattle.refusals.specs.Demand1.{codes_of, first_of, Verdict}
use Rattle.refusals.specs.Each.{places_of}
use Rattle.refusals.proofs.Verdicts.{Decided, next, refuses, serves, served_by, refused_by, first_on, first_stops, served-both}
use Rattle.refusals.proofs.Places.{test-served, test-serves, cells-decide, cells-codes, codes-both}
use Rattle.supply.specs.declared.record.Board.{Board}
use Rattle.supply.specs.Board.{places_at}
use Rattle.supply.specs.ByItem.{live}
use Rattle.supply.specs.Sound.{Sound}
use Rattle.supply.specs.SoundTest.{sound_test}
use Rattle.board.proofs.Tests.{no-decides}
use Rattle.supply.proofs.SoundLaw.{sound-decides}
use Rattle.matching.specs.Clash.{Clashes, clash_checks}
use Rattle.matching.specs.Plans.{PlanOn}
use Rattle.matching.proofs.Clashes.{clashes-tested, unclashed-matches}
use Rattle.comparison.specs.Compare.{PlanMet, plan_checks_on, plans_checks, compare_checks, compare_by, compare_of}
use Rattle.comparison.specs.Demand1.{CompareRefused, CompareDemand1, CompareOrder, ComparesPlans, Tells, TellsRefusal}
use Rattle.comparison.proofs.Outcomes.{plans_on, told-refused, by-refused, by-served}

-- ---- One plan

module _ (b : Board) (plan : List ℕ) where
  uneven-met : PlanMet b plan Uneven → length plan ≡ b.market.arrived → ⊥
  uneven-met (PlanMet.uneven f) = f

  clash-met : (i : ℕ) → PlanMet b plan (Clash (suc i)) → Clashes b (cells plan) i
  clash-met i (PlanMet.clash h x) = x

  plan-decided : Decided (PlanMet b plan) (plan_checks_on b plan)
  plan-decided =
      next (reword (no-decides (eq-decides (length plan) b.market.arrived)) (λ f. PlanMet.uneven f) uneven-met)
      (cells-decide _ (λ i. cell_test_with b.items.count (places_at b) (live b) (cells plan) i (cells plan i)) b.market.arrived
      (λ i h. reword (clashes-tested b (cells plan) i) (λ x. PlanMet.clash h x) (clash-met i)))

  -- Nothing is met exactly when it is a plan on the live sheet
  pub plan-served : (first_of (plan_checks_on b plan) ≡ Ok tt) ↔ PlanOn b plan
  plan-served = (
    λ e. let (size, rest) = test-served _ _ _ e in
        record { size = (eq-decides (length plan) b.market.arrived).sound size; matches = (unclashed-matches _ _ _ _ _).0 rest },
    λ p. test-serves _ _ _ ((eq-decides (length plan) b.market.arrived).complete p.size) ((unclashed-matches _ _ _ _ _).1 p.matches),
  )

-- ---- The board, and two plans

module _ (b : Board) (first second : List ℕ) where
  -- The verdict of a sound board is that of the plans
  verdict-sound : Sound b → first_of (compare_checks b first second) ≡ first_of (plans_on b first second)
  unfolding first_of
  verdict-sound s = let e : sound_test b ≡ true = (sound-decides b).complete s in rw e

  verdict-spoilt : (Sound b → ⊥) → first_of (compare_checks b first second) ≡ Err Spoilt
  unfolding first_of
  verdict-spoilt f = let e : false ≡ sound_test b = false-is _ (sound-decides b) f in rw (← e)

  plans-refused-by : (r : Refusal) → Sound b → first_of (plans_on b first second) ≡ Err r → CompareRefused b first second r
  unfolding plans_checks
  plans-refused-by r s e = go (first_of (plan_checks_on b first)) refl
    where
      go : (v : Verdict) → first_of (plan_checks_on b first) ≡ v → CompareRefused b first second r
      go (Ok tt) q =
          CompareRefused.by-second s (serves (PlanMet b first) (plan-decided b first) q)
          (refuses (PlanMet b second) (plan-decided b second) r (sym (first_on _ _ q) ∙ e))
      go (Err t) q =
          let h : Err t ≡ Err r = sym (first_stops _ _ t q) ∙ e in
          CompareRefused.by_first s (refuses (PlanMet b first) (plan-decided b first) r (q ∙ h))

  refused-so : (r : Refusal) → first_of (compare_checks b first second) ≡ Err r → CompareRefused b first second r
  refused-so r e = go (sound_test b) refl
    where
      go : (t : Bool) → sound_test b ≡ t → CompareRefused b first second r
      go true q = let s = (sound-decides b).sound q in plans-refused-by r s (sym (verdict-sound s) ∙ e)
      go false q =
          let f : Sound b → ⊥ = λ s. clash (sound_test b) ((sound-decides b).complete s) q in
          let g : Err Spoilt ≡ Err r = sym (verdict-spoilt f) ∙ e in
          let h : Spoilt ≡ r = cc in
          rw (← h) (CompareRefused.spoilt f)

  so-refused : (r : Refusal) → CompareRefused b first second r → first_of (compare_checks b first second) ≡ Err r
  unfolding plans_checks
  so-refused r (CompareRefused.spoilt f) = verdict-spoilt f
  so-refused r (CompareRefused.by_first s l) = verdict-sound s ∙ first_stops _ _ r (refused_by (PlanMet b first) (plan-decided b first) r l)
  so-refused r (CompareRefused.by-second s u l) =
      verdict-sound s ∙ first_on _ _ (served_by (PlanMet b first) (plan-decided b first) u) ∙ refused_by (PlanMet b second) (plan-decided b second) r l

  -- Both verdicts are served
  all-served : (first_of (compare_checks b first second) ≡ Ok tt) ↔ (Sound b × (first_of (plan_checks_on b first) ≡ Ok tt) × (first_of (plan_checks_on b second) ≡ Ok tt))
  unfolding plans_checks
  all-served = (
    λ e. let (sound, rest) = test-served _ _ _ e in
        let (one, other) = served-both _ _ rest in
        ((sound-decides b).sound sound, one, other),
    λ (s, one, other). test-serves _ _ _ ((sound-decides b).complete s) (first_on _ _ one ∙ other),
  )

  told-so : (r : Refusal) → TellsRefusal b first second r ↔ CompareRefused b first second r
  unfolding compare_of compare_by
  told-so r = (
    λ e. refused-so r (by-refused b first second r _ (told-refused _ r e)),
    λ c. rw (so-refused r c),
  )

  served-told : Tells b first second ↔ (first_of (compare_checks b first second) ≡ Ok tt)
  unfolding compare_of compare_by
  served-told = (λ e. by-served b first second _ _ _ e, λ e. rw e)

pub compare-demand-1 : CompareDemand1
compare-demand-1 b first second =
    record {
      refuses = told-so b first second;
      serves = (
        λ e. let (s, one, other) = (all-served b first second).0 ((served-told b first second).0 e) in
            record { sound = s; first = serves (PlanMet b first) (plan-decided b first) one; second = serves (PlanMet b second) (plan-decided b second) other },
        λ c. (served-told b first second).1 ((all-served b first second).1
            (c.sound, served_by (PlanMet b first) (plan-decided b first) c.first, served_by (PlanMet b second) (plan-decided b second) c.second)),
      );
      numbered = λ c. (
        λ a. record { refusal = a.refusal; coded = a.coded; holds = (told-so b first second a.refusal).0 a.holds },
        λ a. record { refusal = a.refusal; coded = a.coded; holds = (told-so b first second a.refusal).1 a.holds },
      );
    }

pub compares-plans : ComparesPlans
compares-plans b first second = (
  λ e. let (s, one, other) = (all-served b first second).0 ((served-told b first second).0 e) in
      record { sound = s; first = (plan-served b first).0 one; second = (plan-served b second).0 other },
  λ t. (served-told b first second).1 ((all-served b first second).1 (t.sound, (plan-served b first).1 t.first, (plan-served b second).1 t.second)),
)

tens : (b : Board) (plan : List ℕ) →
    codes_of (clash_checks b.items.count (places_at b) (live b) (cells plan) b.market.arrived) ≡ places_of 10 1 b.market.arrived
tens b plan =
    cells-codes
    (λ i. Clash (suc i))
    (λ i. cell_test_with b.items.count (places_at b) (live b) (cells plan) i (cells plan i))
    10
    suc
    (λ j. refl)
    (λ j. refl)
    b.market.arrived

pub compare_order : CompareOrder
unfolding plans_checks
compare_order b first second = rw (codes-both, tens b first, tens b second)
