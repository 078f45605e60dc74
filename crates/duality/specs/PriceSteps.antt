-- (h) The steps of a price, by which bids are counted.
use Rattle.std.specs.Prelude.{ℕ, ◌+◌, ◌*◌, ◌≤◌, ◌<◌}
use Rattle.duality.specs.Steps.{Open, most, steps}

-- Of an edge of weight w at the slack p/q: its steps are at most the most, do not fall as the price rises, and rise by one or more from a price
-- at which the edge is open to any price that is higher by p × w or more
pub record StepsOf (p q w : ℕ) : Type 0 where
  pub within : (y : ℕ) → steps p q w y ≤ most p q
  pub rising : (y z : ℕ) → y ≤ z → steps p q w y ≤ steps p q w z
  pub counted : (y z : ℕ) → Open p q w y → y + p * w ≤ z → steps p q w y + 1 ≤ steps p q w z

abbrev pub PriceSteps : Type 0
PriceSteps = (p q w : ℕ) → 0 < p → 0 < w → StepsOf p q w
