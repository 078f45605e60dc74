-- Demand 3 in one piece, and what else follows of every outcome of the exact call.
use Rattle.std.specs.Prelude.{◌≡◌, ◌↔◌, List, ℕ, ◌+◌, ◌≤◌, length, drop}
use Rattle.duality.specs.Lists.{cells, sum}
use Rattle.duality.specs.Matching.{weight_of}
use Rattle.duality.specs.Cover.{Covers}
use Rattle.places.specs.Plan.{IsPlan}
use Rattle.places.specs.Total.{total_with, sum_with}
use Rattle.places.specs.EqualExactlyWhenBestWith.{BestListsWith}
use Rattle.supply.specs.declared.record.Board.{Board}
use Rattle.supply.specs.Board.{places_at}
use Rattle.supply.specs.ByItem.{live}
use Rattle.supply.specs.Sound.{Sound}
use Rattle.refusals.specs.Told.{served, refused}
use Rattle.refusals.specs.Demand1.{Demand1}
use Rattle.supply.specs.Lent.{Roomy, ReadOutMet}
use Rattle.board.specs.Lent.{Lists}
use Rattle.hungarian.specs.Exact.{Greatest, exact_checks, greatest_on, exact_told, Shows, ExactOutcome}

-- "Take any sound board, any plan on its live sheet and any list of whole-penny prices and gains that covers that sheet, whoever made them. The plan's
-- worth equals the list's sum exactly when every other plan on that sheet is worth at most as much and every other covering list sums to at least as
-- much." A list has "a price for each kettle and a gain for each batch, whole numbers from 0 and of any size", withdrawn kettles' prices too; and "Demand 3
-- is still due on every sound board, a list's sum counting each kettle's price once per place" (document 02, R-6)
abbrev pub EqualExactlyWhenBestOn : Board → Type 0
EqualExactlyWhenBestOn b =
    (plan prices gains : List ℕ) →
    length plan ≡ b.market.arrived → length prices ≡ b.items.count → length gains ≡ b.market.arrived →
    IsPlan b.market.arrived b.items.count (places_at b) (live b) (cells plan) → Covers b.market.arrived b.items.count (live b) 1 (cells prices) (cells gains) →
    (weight_of b.market.arrived (live b) (cells plan) ≡ sum_with (places_at b) prices + sum gains) ↔
    BestListsWith b.market.arrived b.items.count (places_at b) (live b) plan prices gains

-- "Demand 3 needs only the exact level, and is owed in one piece as soon as a delivery has it"
pub record Demand3 (b : Board) (before : Lists) (answer : Greatest) (after : Lists) : Type 0 where
  -- "Two totals are equal exactly when neither can be bettered." "This must hold for plans that we didn't make"
  pub best : Sound b → EqualExactlyWhenBestOn b
  -- "For every sound board, given lists long enough, the exact level leaves, in the lists it was lent, a plan on the live sheet and a covering list whose
  -- two totals are equal, and returns that total." Only soundness and the three lengths are asked, never that it serves
  pub exact : Sound b → Roomy b before → Shows b before answer after

-- ---- What follows of every outcome

-- What the call does meets demand 3: on a sound board, given lists long enough, it is served
abbrev pub ExactGivesDemand3 : Type 0
ExactGivesDemand3 = (b : Board) (before after : Lists) (answer : Greatest) → ExactOutcome b before answer after → Demand3 b before answer after

-- Demand 1 of the exact call: "Read-out and exact 13, 8"; "otherwise it is served"
abbrev pub ExactDemand1 : Type 0
ExactDemand1 =
    (b : Board) (before after : Lists) (answer : Greatest) → ExactOutcome b before answer after →
    Demand1 (ReadOutMet b before) (exact_checks b before) (λ r. (exact_told answer ≡ refused r) × (after ≡ before)) (Shows b before answer after)

-- ---- What follows of the lists that show the answer

-- "a plan of greatest worth": the answer and both totals are the greatest weight, no plan weighs more and no cover totals less
pub record ShowsBest (b : Board) (answer : Greatest) (after : Lists) : Type 0 where
  pub answers : exact_told answer ≡ served (greatest_on b)
  pub weight : weight_of b.market.arrived (live b) (cells after.plan) ≡ greatest_on b
  pub sum : total_with b.market.arrived b.items.count (places_at b) (cells after.prices) (cells after.gains) ≡ greatest_on b
  pub greatest : (other : ℕ → ℕ) → IsPlan b.market.arrived b.items.count (places_at b) (live b) other → weight_of b.market.arrived (live b) other ≤ greatest_on b
  pub least : (y x : ℕ → ℕ) → Covers b.market.arrived b.items.count (live b) 1 y x → greatest_on b ≤ total_with b.market.arrived b.items.count (places_at b) y x

abbrev pub ExactIsBest : Type 0
ExactIsBest = (b : Board) (before after : Lists) (answer : Greatest) → Shows b before answer after → ShowsBest b answer after

-- "Further cells keep what they held": what stands behind a cell per bidder, per item, per bidder is as it was, and as long
pub record Keeps (b : Board) (before after : Lists) : Type 0 where
  pub plan : drop b.market.arrived after.plan ≡ drop b.market.arrived before.plan
  pub prices : drop b.items.count after.prices ≡ drop b.items.count before.prices
  pub gains : drop b.market.arrived after.gains ≡ drop b.market.arrived before.gains
  pub plan_length : length after.plan ≡ length before.plan
  pub prices_length : length after.prices ≡ length before.prices
  pub gains_length : length after.gains ≡ length before.gains

abbrev pub ExactKeeps : Type 0
ExactKeeps = (b : Board) (before after : Lists) (answer : Greatest) → Shows b before answer after → Keeps b before after
