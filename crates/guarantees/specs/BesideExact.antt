-- A plan beside the one that the exact level leaves.
use Rattle.std.specs.Prelude.{◌≡◌, List, ◌↔◌, ℕ, ◌-◌, ◌≤◌, pos, neg_ℤ, take}
use Rattle.duality.specs.Matching.{weight_of}
use Rattle.places.specs.Plan.{IsPlan}
use Rattle.supply.specs.declared.record.Board.{Board}
use Rattle.supply.specs.Board.{places_at}
use Rattle.supply.specs.ByItem.{live}
use Rattle.supply.specs.Sound.{Sound}
use Rattle.supply.specs.Lent.{Roomy}
use Rattle.board.specs.Lent.{Lists}
use Rattle.hungarian.specs.Exact.{Greatest, greatest_on, ExactOutcome}
use Rattle.matching.specs.Plans.{PlanOn, weight_on}
use Rattle.comparison.specs.Compare.{difference_of}
use Rattle.comparison.specs.Demand1.{Tells}

-- "a plan of greatest worth": no plan on the live sheet weighs more
abbrev pub GreatestPlan : Board → List ℕ → Type 0
GreatestPlan b plan = (other : ℕ → ℕ) → IsPlan b.market.arrived b.items.count (places_at b) (live b) other → weight_of b.market.arrived (live b) other ≤ weight_on b plan

-- A plan and the exact level's, which has a cell for each bidder
pub record BesideExact (b : Board) (plan exact : List ℕ) : Type 0 where
  -- The call tells their difference and order
  pub told : Tells b plan exact
  -- It is never above 0, and as much below as the plan falls short of the greatest weight
  pub short : difference_of b plan exact ≡ neg_ℤ (pos (greatest_on b - weight_on b plan))
  -- It is 0 exactly where the plan is one of greatest weight
  pub best : (difference_of b plan exact ≡ pos 0) ↔ GreatestPlan b plan

-- Of every sound board, lists long enough, and whatever plan the exact level leaves in them: "Which of several best plans or lists comes out is free"
abbrev pub NoDifferenceBest : Type 0
NoDifferenceBest =
    (b : Board) (before after : Lists) (answer : Greatest) → Sound b → Roomy b before → ExactOutcome b before answer after →
    (plan : List ℕ) → PlanOn b plan → BesideExact b plan (take b.market.arrived after.plan)
