-- Two plans side by side (document 02, R-4): what the call answers, on all inputs. A plan is read by cell: bidder i + 1 is cell i.
use Rattle.std.specs.Prelude.{◌≡◌, cond, not, List, ◌∷◌, ◌++◌, ℕ, zero, suc, ◌<◌, ℤ, pos, ◌-ℤ◌, length, eqb, ltb, Err, Ok, Result}
use Rattle.std.specs.declared.cmp.Ordering.{Ordering}
use Rattle.std.specs.declared.cmp.Ordering.TheVariants.{Less, Equal, Greater}
use Rattle.duality.specs.Lists.{cells}
use Rattle.refusals.specs.declared.Refusal.{Refusal}
use Rattle.refusals.specs.declared.Refusal.TheVariants.{Uneven, Clash, Spoilt}
use Rattle.refusals.specs.declared.Told.{Told}
use Rattle.refusals.specs.Told.{refused}
use Rattle.refusals.specs.Demand1.{Check, check_for, first_of, Verdict}
use Rattle.supply.specs.declared.record.Board.{Board}
use Rattle.supply.specs.Board.{places_at}
use Rattle.supply.specs.ByItem.{live}
use Rattle.supply.specs.SoundTest.{sound_test}
use Rattle.matching.specs.Clash.{Clashes, clash_checks}
use Rattle.matching.specs.Plans.{weight_on}
use Rattle.comparison.specs.declared.Comparison.{Comparison}

-- ---- The checks: "13, then 9 and 10 for the first plan, then 9 and 10 for the second"

-- The rows of the table that one plan can meet, in its words
pub data PlanMet (b : Board) (plan : List ℕ) : Refusal → Type 0 where
  -- "a list to be checked has another length": a cell for each bidder
  uneven : (length plan ≡ b.market.arrived → ⊥) → PlanMet b plan Uneven
  -- "cell neither 0 nor a kettle's number, or ..": the check's own row; the place is the bidder's number
  clash : {i : ℕ} → i < b.market.arrived → Clashes b (cells plan) i → PlanMet b plan (Clash (suc i))

-- "9 and 10 for" one plan. Of so many bidders and items, the places of each, and the live weights w
abbrev pub plan_checks : ℕ → ℕ → (ℕ → ℕ) → (ℕ → ℕ → ℕ) → List ℕ → List Check
plan_checks bidders items count w plan = check_for Uneven (not (eqb (length plan) bidders)) ∷ clash_checks items count w (cells plan) bidders

abbrev pub plan_checks_on : Board → List ℕ → List Check
plan_checks_on b plan = plan_checks b.market.arrived b.items.count (places_at b) (live b) plan

unfoldable pub plans_checks : ℕ → ℕ → (ℕ → ℕ) → (ℕ → ℕ → ℕ) → List ℕ → List ℕ → List Check
plans_checks bidders items count w first second = plan_checks bidders items count w first ++ plan_checks bidders items count w second

abbrev pub compare_checks : Board → List ℕ → List ℕ → List Check
compare_checks b first second = check_for Spoilt (not (sound_test b)) ∷ plans_checks b.market.arrived b.items.count (places_at b) (live b) first second

-- ---- "the difference in pence, negative where the first is worth less": a whole number, without a limit

abbrev pub difference_of : Board → List ℕ → List ℕ → ℤ
difference_of b first second = pos (weight_on b first) -ℤ pos (weight_on b second)

-- ---- "the greater worth first, then by the plan's cells, the first smaller cell making the earlier plan"

-- The smaller of two numbers first; of equal ones the rest decides
unfoldable pub smaller_first : ℕ → ℕ → Ordering → Ordering
smaller_first x y rest = cond (ltb x y) Less (cond (ltb y x) Greater rest)

-- n cells of two plans, from cell i on
unfoldable pub cells_order : (ℕ → ℕ) → (ℕ → ℕ) → ℕ → ℕ → Ordering
cells_order first second i zero = Equal
cells_order first second i (suc n) = smaller_first (first i) (second i) (cells_order first second (suc i) n)

-- Where the first plan stands beside the second. Of weights the greater is first, so the second's is asked whether it is the smaller
abbrev pub order_of : Board → List ℕ → List ℕ → Ordering
order_of b first second = smaller_first (weight_on b second) (weight_on b first) (cells_order (cells first) (cells second) 0 b.market.arrived)

-- ---- The answer. The plans and the board are only read

-- The difference, and where the first plan stands beside the second; or the refusal
abbrev pub Compared : Type 0
Compared = Result (ℤ × Ordering) Refusal

unfoldable pub compare_by : Board → List ℕ → List ℕ → Verdict → Compared
compare_by b first second (Ok tt) = Ok (difference_of b first second, order_of b first second)
compare_by b first second (Err r) = Err r

unfoldable pub compare_of : Board → List ℕ → List ℕ → Compared
compare_of b first second = compare_by b first second (first_of (compare_checks b first second))

-- ---- What is told: number 0 with difference and order, or the refusal with neither. No order is 0, so that a refusal is not read as one

abbrev pub order_number : Ordering → ℕ
order_number Less = 1
order_number Equal = 2
order_number Greater = 3

abbrev pub compared : ℤ → ℕ → Comparison
compared difference order = record { number = 0; place = 0; difference = difference; order = order }

abbrev pub uncompared : Told → Comparison
uncompared t = record { number = t.number; place = t.place; difference = pos 0; order = 0 }

abbrev pub compared_told : Compared → Comparison
compared_told (Ok (difference, order)) = compared difference (order_number order)
compared_told (Err r) = uncompared (refused r)
