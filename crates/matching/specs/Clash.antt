-- Refusal 10: a cell of a matching that was made elsewhere (document 01: a plan), against a board's live edges.
use Rattle.std.specs.Prelude.{◌≡◌, true, not, List, ◌↔◌, ℕ, suc, ◌≤◌, ◌<◌, Ok}
use Rattle.duality.specs.Decide.{Decides}
use Rattle.places.specs.Plan.{namers, IsPlan}
use Rattle.places.specs.PlanTest.{cell_test_with}
use Rattle.refusals.specs.declared.Refusal.TheVariants.{Clash}
use Rattle.refusals.specs.Demand1.{Check, first_of}
use Rattle.refusals.specs.Each.{cell_checks}
use Rattle.supply.specs.declared.record.Board.{Board}
use Rattle.supply.specs.Board.{places_at}
use Rattle.supply.specs.ByItem.{withdrawn_at, weight_at, live}

-- "cell neither 0 nor a kettle's number, or its kettle gone, without entry for this batch, or named by an earlier batch". A matching is read by cell:
-- bidder i + 1 is cell i, item k + 1 is cell k
pub data Clashes (b : Board) (plan : ℕ → ℕ) (i : ℕ) : Type 0 where
  unknown : b.items.count < plan i → Clashes b plan i
  gone : {k : ℕ} → plan i ≡ suc k → withdrawn_at b k ≡ true → Clashes b plan i
  edgeless : {k : ℕ} → plan i ≡ suc k → weight_at b i k ≡ 0 → Clashes b plan i
  -- "A plan may name a kettle once per place" (document 02, R-6): as many earlier bidders name it as it has places
  named : {k : ℕ} → plan i ≡ suc k → places_at b k ≤ namers i plan k → Clashes b plan i

-- The checks of n bidders' cells, against the items, the places of each, and the live weights w; the place is the bidder's number
abbrev pub clash_checks : ℕ → (ℕ → ℕ) → (ℕ → ℕ → ℕ) → (ℕ → ℕ) → ℕ → List Check
clash_checks items count w plan n = cell_checks (λ i. Clash (suc i)) (λ i. cell_test_with items count w plan i (plan i)) n

-- ---- What the checks mean

-- The test of a cell fails exactly where the row of the table is met
abbrev pub ClashesTested : Type 0
ClashesTested = (b : Board) (plan : ℕ → ℕ) (i : ℕ) → Decides (not (cell_test_with b.items.count (places_at b) (live b) plan i (plan i))) (Clashes b plan i)

-- None is met exactly when the cells are a plan along the edges: "A plan gives each batch one kettle or none, only along entries", and "may name a kettle
-- once per place"
abbrev pub UnclashedMatches : Type 0
UnclashedMatches =
    (n items : ℕ) (count : ℕ → ℕ) (w : ℕ → ℕ → ℕ) (plan : ℕ → ℕ) → (first_of (clash_checks items count w plan n) ≡ Ok tt) ↔ IsPlan n items count w plan
