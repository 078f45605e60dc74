-- What the solver answers.
use Rattle.std.specs.Prelude.{◌≡◌, List, ℕ, suc, ◌≤◌, ◌<◌}
use Rattle.duality.specs.Matching.{IsMatching, weight_of}
use Rattle.duality.specs.Cover.{Covers, Tight, total}
use Rattle.duality.specs.Greatest.{greatest_weight}
use Rattle.duality.specs.StrongDuality.{Equal}
use Rattle.duality.specs.Lists.{cells}
use Rattle.board.specs.declared.lent.Columns.{Columns}
use Rattle.board.specs.Limits.{max_items}
use Rattle.hungarian.specs.Weights.{matrix_at}
use Rattle.hungarian.specs.Settled.{Holds}

-- The matching that the holders of the first n items are in
pub record Turned (holder matching : ℕ → ℕ) (n : ℕ) : Type 0 where
  pub placed : (i k : ℕ) → matching i ≡ suc k → (k < n) × Holds holder k i
  pub held : (k i : ℕ) → k < n → Holds holder k i → matching i ≡ suc k

-- "a plan of greatest worth and whole-penny prices and gains that cover the live sheet, sums equal": a matching of n bidders to m items and a cover of
-- their edges, tight, and the weight, which both total
pub record Solved (n m : ℕ) (w : ℕ → ℕ → ℕ) (matching price gain : ℕ → ℕ) (weight : ℕ) : Type 0 where
  pub matches : IsMatching n m w matching
  pub covers : Covers n m w 1 price gain
  pub tight : Tight n m w 1 matching price gain
  pub weighs : weight ≡ weight_of n w matching
  pub totals : weight ≡ total n m price gain

-- The same of what the solver answers, over a matrix of weights
abbrev pub SolvedBy : ℕ → List ℕ → Columns → ℕ → Type 0
SolvedBy n weights c weight = Solved n max_items (matrix_at weights) (cells c.plan) (cells c.prices) (cells c.gains) weight

-- The totals are equal, so no matching weighs more and no cover totals less; the weight is the greatest, by the plain count; and an item to which no
-- bidder has an edge, as one that is withdrawn, has price 0
pub record Follows (n m : ℕ) (w : ℕ → ℕ → ℕ) (matching price gain : ℕ → ℕ) (weight : ℕ) : Type 0 where
  pub equal : Equal n m w matching price gain
  pub greatest : weight ≡ greatest_weight n m w
  pub unwanted : (k : ℕ) → k < m → ((i : ℕ) → i < n → w i k ≡ 0) → price k ≡ 0

abbrev pub SolvedIsGreatest : Type 0
SolvedIsGreatest =
    (n m : ℕ) (w : ℕ → ℕ → ℕ) (matching price gain : ℕ → ℕ) (weight : ℕ) → Solved n m w matching price gain weight → Follows n m w matching price gain weight

-- What is solved for m items is solved for fewer, where the others have no edges
abbrev pub SolvedForFewer : Type 0
SolvedForFewer =
    (n m fewer : ℕ) (w : ℕ → ℕ → ℕ) (matching price gain : ℕ → ℕ) (weight : ℕ) → fewer ≤ m → ((i k : ℕ) → i < n → fewer ≤ k → k < m → w i k ≡ 0)
    → Solved n m w matching price gain weight → Solved n fewer w matching price gain weight
