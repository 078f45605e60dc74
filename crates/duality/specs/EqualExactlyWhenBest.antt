-- (e) Totals are equal exactly when neither can be bettered: over functions, and over lists of every length.
use Rattle.std.specs.Prelude.{◌≡◌, ◌↔◌, List, ℕ, ◌+◌, ◌≤◌, length}
use Rattle.duality.specs.Matching.{IsMatching, weight_of}
use Rattle.duality.specs.Cover.{Covers, total}
use Rattle.duality.specs.Lists.{cells, sum}

-- A matching of greatest weight, and a cover of least total
pub record Best (n m : ℕ) (w : ℕ → ℕ → ℕ) (matching price gain : ℕ → ℕ) : Type 0 where
  pub greatest : (other : ℕ → ℕ) → IsMatching n m w other → weight_of n w other ≤ weight_of n w matching
  pub least : (y x : ℕ → ℕ) → Covers n m w 1 y x → total n m price gain ≤ total n m y x

abbrev pub EqualExactlyWhenBest : Type 0
EqualExactlyWhenBest =
    (n m : ℕ) (w : ℕ → ℕ → ℕ) (matching price gain : ℕ → ℕ) →
    IsMatching n m w matching → Covers n m w 1 price gain →
    (weight_of n w matching ≡ total n m price gain) ↔ Best n m w matching price gain

-- The same of lists: n cells of a matching, m prices, n gains
pub record BestLists (n m : ℕ) (w : ℕ → ℕ → ℕ) (matching prices gains : List ℕ) : Type 0 where
  pub greatest : (other : List ℕ) → length other ≡ n → IsMatching n m w (cells other) → weight_of n w (cells other) ≤ weight_of n w (cells matching)
  pub least : (ys xs : List ℕ) → length ys ≡ m → length xs ≡ n → Covers n m w 1 (cells ys) (cells xs) → sum prices + sum gains ≤ sum ys + sum xs

abbrev pub EqualExactlyWhenBestLists : Type 0
EqualExactlyWhenBestLists =
    (n m : ℕ) (w : ℕ → ℕ → ℕ) (matching prices gains : List ℕ) →
    length matching ≡ n → length prices ≡ m → length gains ≡ n →
    IsMatching n m w (cells matching) → Covers n m w 1 (cells prices) (cells gains) →
    (weight_of n w (cells matching) ≡ sum prices + sum gains) ↔ BestLists n m w matching prices gains
