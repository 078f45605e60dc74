-- Covers: a price for each item and a gain for each bidder, the variables of the dual linear program.
use Rattle.std.specs.Prelude.{◌≡◌, ℕ, suc, ◌+◌, ◌*◌, ◌≤◌, ◌<◌}
use Rattle.duality.specs.Sums.{sum_to}

-- "Covering means gain plus price at least (q - p) × w on every live entry": here at any factor c, which is 1 for whole pence
abbrev pub Covers : ℕ → ℕ → (ℕ → ℕ → ℕ) → ℕ → (ℕ → ℕ) → (ℕ → ℕ) → Type 0
Covers n m w c price gain = (i k : ℕ) → i < n → k < m → 0 < w i k → c * w i k ≤ gain i + price k

-- "The sum of a list is all its prices and all its gains added"
abbrev pub total : ℕ → ℕ → (ℕ → ℕ) → (ℕ → ℕ) → ℕ
total n m price gain = sum_to m price + sum_to n gain

-- A matching and a cover fit each other at a factor d: a placed bidder's gain and its item's price add up to d times the weight, an unplaced
-- bidder's gain is 0, and an unheld item's price is 0 (complementary slackness)
pub record Tight (n m : ℕ) (w : ℕ → ℕ → ℕ) (d : ℕ) (matching price gain : ℕ → ℕ) : Type 0 where
  pub placed : (i k : ℕ) → i < n → matching i ≡ suc k → gain i + price k ≡ d * w i k
  pub unplaced : (i : ℕ) → i < n → matching i ≡ 0 → gain i ≡ 0
  pub unheld : (k : ℕ) → k < m → ((i : ℕ) → i < n → matching i ≡ suc k → ⊥) → price k ≡ 0
