-- Demand 1 of the comparison, told in numbers. Two plans can meet the same row at the same place, so what is met is said plan by plan.
use Rattle.std.specs.Prelude.{◌≡◌, List, ◌∷◌, ◌++◌, ◌↔◌, ℕ, ◌<◌}
use Rattle.refusals.specs.declared.Refusal.{Refusal}
use Rattle.refusals.specs.declared.Refusal.TheVariants.{Spoilt}
use Rattle.refusals.specs.Codes.{Code, code, Coded}
use Rattle.refusals.specs.Told.{refused}
use Rattle.refusals.specs.Demand1.{codes_of, Unmet, Leads}
use Rattle.refusals.specs.Each.{places_of}
use Rattle.supply.specs.declared.record.Board.{Board}
use Rattle.supply.specs.Sound.{Sound}
use Rattle.matching.specs.Plans.{PlanOn}
use Rattle.std.specs.declared.cmp.Ordering.{Ordering}
use Rattle.comparison.specs.Compare.{Compared, PlanMet, plan_checks_on, compare_checks, difference_of, order_of, compare_of, order_number, compared, uncompared, compared_told}

-- "13, then 9 and 10 for the first plan, then 9 and 10 for the second": what is refused, and by what
pub data CompareRefused (b : Board) (first second : List ℕ) : Refusal → Type 0 where
  -- "the board handed in is not sound"
  spoilt : (Sound b → ⊥) → CompareRefused b first second Spoilt
  by_first : {r : Refusal} → Sound b → Leads (PlanMet b first) (plan_checks_on b first) r → CompareRefused b first second r
  by-second : {r : Refusal} → Sound b → Unmet (PlanMet b first) (plan_checks_on b first) → Leads (PlanMet b second) (plan_checks_on b second) r →
      CompareRefused b first second r

-- Nothing is met
pub record CompareServed (b : Board) (one other : List ℕ) : Type 0 where
  pub sound : Sound b
  pub first : Unmet (PlanMet b one) (plan_checks_on b one)
  pub second : Unmet (PlanMet b other) (plan_checks_on b other)

-- What the call tells of two plans
abbrev pub Tells : Board → List ℕ → List ℕ → Type 0
Tells b first second = compared_told (compare_of b first second) ≡ compared (difference_of b first second) (order_number (order_of b first second))

abbrev pub TellsRefusal : Board → List ℕ → List ℕ → Refusal → Type 0
TellsRefusal b first second r = compared_told (compare_of b first second) ≡ uncompared (refused r)

-- "If a call meets a condition in the table of refusals, it gives that number by the stated order of checks .. otherwise it is served". Board and plans
-- are only read
pub record Compares (b : Board) (first second : List ℕ) : Type 0 where
  pub refuses : (r : Refusal) → TellsRefusal b first second r ↔ CompareRefused b first second r
  pub serves : Tells b first second ↔ CompareServed b first second
  -- In numbers
  pub numbered : (c : Code) → Coded (TellsRefusal b first second) c ↔ Coded (CompareRefused b first second) c

abbrev pub CompareDemand1 : Type 0
CompareDemand1 = (b : Board) (first second : List ℕ) → Compares b first second

-- What is told names one answer, and no order is told as that of a refused call
pub record ComparedApart : Type 0 where
  pub answers : (x y : Compared) → compared_told x ≡ compared_told y → x ≡ y
  pub orders : (o : Ordering) → 0 < order_number o

-- Numbers and places of the checks, in their order
abbrev pub CompareOrder : Type 0
CompareOrder =
    (b : Board) (first second : List ℕ) →
    codes_of (compare_checks b first second) ≡
    code 13 0 ∷ ((code 9 0 ∷ places_of 10 1 b.market.arrived) ++ (code 9 0 ∷ places_of 10 1 b.market.arrived))

-- It serves exactly two plans on a sound board's live sheet
pub record TwoPlans (b : Board) (one other : List ℕ) : Type 0 where
  pub sound : Sound b
  pub first : PlanOn b one
  pub second : PlanOn b other

abbrev pub ComparesPlans : Type 0
ComparesPlans = (b : Board) (first second : List ℕ) → Tells b first second ↔ TwoPlans b first second
