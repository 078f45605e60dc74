-- A matching on a board's live edges as a list that a caller lends (document 01: a plan on the live sheet), and the most that one can weigh.
use Rattle.std.specs.Prelude.{◌≡◌, List, ℕ, ◌*◌, ◌≤◌, length}
use Rattle.duality.specs.Matching.{weight_of}
use Rattle.places.specs.Plan.{IsPlan}
use Rattle.duality.specs.Lists.{cells}
use Rattle.supply.specs.declared.record.Board.{Board}
use Rattle.board.specs.Limits.{max_items, max_weight}
use Rattle.supply.specs.Board.{places_at}
use Rattle.supply.specs.ByItem.{live}
use Rattle.supply.specs.Sound.{Sound}

-- A cell for each bidder and no more; "one kettle or none, only along entries", and "once per place"
pub record PlanOn (b : Board) (plan : List ℕ) : Type 0 where
  pub size : length plan ≡ b.market.arrived
  pub matches : IsPlan b.market.arrived b.items.count (places_at b) (live b) (cells plan)

-- "Its worth is the sum of the entries used"
abbrev pub weight_on : Board → List ℕ → ℕ
weight_on b plan = weight_of b.market.arrived (live b) (cells plan)

-- The greatest weight that a board can hold: every place in use, each by an edge of the greatest weight
abbrev pub most_weight : ℕ
most_weight = max_items * max_weight

abbrev pub PlansWithin : Type 0
PlansWithin = (b : Board) (plan : List ℕ) → Sound b → PlanOn b plan → weight_on b plan ≤ most_weight
