-- The exact call: its whole outcome, on all inputs. "Which of several best plans or lists comes out is free."
use Rattle.std.specs.Prelude.{◌≡◌, true, List, ℕ, ◌≤◌, ◌<◌, length, Result, Err, Ok}
use Rattle.duality.specs.Lists.{cells}
use Rattle.duality.specs.Matching.{weight_of}
use Rattle.duality.specs.Cover.{Covers}
use Rattle.places.specs.Plan.{IsPlan}
use Rattle.places.specs.Total.{total_with}
use Rattle.places.specs.GreatestWeightWith.{greatest_with}
use Rattle.supply.specs.declared.record.Board.{Board}
use Rattle.refusals.specs.declared.Refusal.{Refusal}
use Rattle.refusals.specs.declared.Told.{Told}
use Rattle.refusals.specs.Told.{served, refused}
use Rattle.supply.specs.Board.{places_at}
use Rattle.supply.specs.ByItem.{withdrawn_at, live}
use Rattle.board.specs.declared.units.Pence.{Pence}
use Rattle.board.specs.Cells.{pence}
use Rattle.refusals.specs.Demand1.{Check, first_of, Verdict}
use Rattle.supply.specs.Lent.{read_out_checks}
use Rattle.board.specs.Lent.{Lists}

-- "Read-out and exact 13, 8"
abbrev pub exact_checks : Board → Lists → List Check
exact_checks = read_out_checks

-- "and returns that worth": of any plan on the live edges, the greatest weight, as a plain count over places
abbrev pub greatest_on : Board → ℕ
greatest_on b = greatest_with b.market.arrived b.items.count (places_at b) (live b)

-- The greatest weight of a plan on the live edges, or the refusal
abbrev pub Greatest : Type 0
Greatest = Result Pence Refusal

unfoldable pub exact_by : Board → Verdict → Greatest
exact_by b (Ok tt) = Ok (pence (greatest_on b))
exact_by b (Err r) = Err r

-- The answer, on all inputs
unfoldable pub exact_of : Board → Lists → Greatest
exact_of b l = exact_by b (first_of (exact_checks b l))

-- What is told: "and returns that worth"
abbrev pub exact_told : Greatest → Told
exact_told (Ok w) = served w.0
exact_told (Err r) = refused r

-- "Further cells keep what they held": a list keeps its length, and its cells from n on
pub record KeptFrom (n : ℕ) (before after : List ℕ) : Type 0 where
  pub size : length after ≡ length before
  pub further : (i : ℕ) → n ≤ i → cells after i ≡ cells before i

-- "the exact level leaves, in the lists it was lent, a plan on the live sheet and a covering list whose two totals are equal, and returns that total"
pub record Shows (b : Board) (before : Lists) (answer : Greatest) (after : Lists) : Type 0 where
  -- "a plan on the live sheet"
  pub matches : IsPlan b.market.arrived b.items.count (places_at b) (live b) (cells after.plan)
  -- "a covering list": "with gain plus price at least the worth on every live entry"
  pub covers : Covers b.market.arrived b.items.count (live b) 1 (cells after.prices) (cells after.gains)
  -- "Its worth is the sum of the entries used": the answer is the weight of the plan that is left
  pub weighs : exact_told answer ≡ served (weight_of b.market.arrived (live b) (cells after.plan))
  -- "a list's sum counting each kettle's price once per place" (document 02, R-6): the answer is the sum of the lists that are left
  pub totals : exact_told answer ≡ served (total_with b.market.arrived b.items.count (places_at b) (cells after.prices) (cells after.gains))
  -- "withdrawn kettles at 0"
  pub withdrawn : (k : ℕ) → k < b.items.count → withdrawn_at b k ≡ true → cells after.prices k ≡ 0
  -- "in three lists as at read-out": "a cell per batch, per kettle, per batch. Further cells keep what they held."
  pub plan : KeptFrom b.market.arrived before.plan after.plan
  pub prices : KeptFrom b.items.count before.prices after.prices
  pub gains : KeptFrom b.market.arrived before.gains after.gains

-- What the call does: its answer; refused, it leaves the lists as they were; served, they show the answer
pub record ExactOutcome (b : Board) (before : Lists) (answer : Greatest) (after : Lists) : Type 0 where
  pub answers : answer ≡ exact_of b before
  -- "each lent list stay byte for byte as they were"
  pub refused : (r : Refusal) → exact_told answer ≡ refused r → after ≡ before
  pub served : (w : ℕ) → exact_told answer ≡ served w → Shows b before answer after
