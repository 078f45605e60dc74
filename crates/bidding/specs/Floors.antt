-- Floors: whether an edge is open, told by its weight alone (SlideLaws: OpenAboveFloor).
use Rattle.std.specs.Prelude.{◌≡◌, cond, List, ℕ, ◌-◌, ◌/◌, ◌<◌, ◌≤◌, min, length, get_or}
use Rattle.board.specs.declared.record.Market.{Market}
use Rattle.bidding.specs.declared.floors.Floors.{Floors}
use Rattle.board.specs.Limits.{max_items, max_weight}
use Rattle.board.specs.Cells.{flag_at}

-- The greatest weight whose edge is not open at a price y, but no more than the greatest weight there is
abbrev pub floor_of : ℕ → ℕ → ℕ → ℕ
floor_of p q y = min (y / (q - p)) max_weight

-- The floor of item k + 1; at an item that is withdrawn no edge is live, and none is open
abbrev pub floor_at : ℕ → ℕ → List ℕ → (ℕ → ℕ) → ℕ → ℕ
floor_at p q withdrawn y k = cond (flag_at withdrawn k) max_weight (floor_of p q (y k))

-- A list of the floors of the first m items
abbrev pub Least : ℕ → ℕ → List ℕ → (ℕ → ℕ) → ℕ → List ℕ → Type 0
Least p q withdrawn y m least = (k : ℕ) → k < m → get_or least k 0 ≡ floor_at p q withdrawn y k

-- A price y in whole pence, but no more than the greatest weight there is. What is left of an edge's weight over it is the utility in pence, rounded up
-- (SlideLaws: RoundedUp)
abbrev pub pence_of : ℕ → ℕ → ℕ
pence_of q y = min (y / q) max_weight

-- A list of the prices of the first m items in whole pence
abbrev pub InPence : ℕ → (ℕ → ℕ) → ℕ → List ℕ → Type 0
InPence q y m pence = (k : ℕ) → k < m → get_or pence k 0 ≡ pence_of q (y k)

-- Both lists, of a market's items at prices y
pub record Floored (market : Market) (y : ℕ → ℕ) (floors : Floors) : Type 0 where
  pub above : Least market.slack.p market.slack.q market.withdrawn y market.items floors.least
  pub size : length floors.least ≡ max_items
  pub size₂ : length floors.pence ≡ max_items
  pub whole : InPence market.slack.q y market.items floors.pence

-- No weight of the first m items is above the greatest
abbrev pub Weighs : ℕ → List ℕ → Type 0
Weighs m row = (k : ℕ) → k < m → get_or row k 0 ≤ max_weight
