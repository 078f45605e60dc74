-- What the check accepts: it answers totals exactly when the lists are a matching and a cover of a sound board's live edges.
use Rattle.std.specs.Prelude.{◌≡◌, true, ℕ, ◌-◌, ◌≤◌, ◌<◌}
use Rattle.duality.specs.Matching.{weight_of}
use Rattle.places.specs.Plan.{IsPlan}
use Rattle.duality.specs.Cover.{Covers}
use Rattle.places.specs.Total.{total_with}
use Rattle.duality.specs.Lists.{cells}
use Rattle.supply.specs.declared.record.Board.{Board}
use Rattle.supply.specs.Board.{places_at}
use Rattle.supply.specs.ByItem.{withdrawn_at, live}
use Rattle.supply.specs.Sound.{Sound}
use Rattle.board.specs.Ranges.{SlackIn}
use Rattle.board.specs.Lent.{Lists}
use Rattle.board.specs.Limits.{max_price}
use Rattle.certificate.specs.Check.{Even, check_of, totals, checked_told}

-- "The check takes a sound board, a plan, a price and a gain list of exact length, and a slack, here with p from 0"
pub record Accepted (b : Board) (l : Lists) (p q : ℕ) : Type 0 where
  pub sound : Sound b
  pub slack : SlackIn 0 p q
  pub even : Even b l
  -- "A plan gives each batch one kettle or none, only along entries, and no kettle to two batches"
  pub matches : IsPlan b.market.arrived b.items.count (places_at b) (live b) (cells l.plan)
  -- "above 2,000,000,000, or a withdrawn kettle's not 0" is met nowhere
  pub prices : (k : ℕ) → k < b.items.count → cells l.prices k ≤ max_price
  pub withdrawn : (k : ℕ) → k < b.items.count → withdrawn_at b k ≡ true → cells l.prices k ≡ 0
  pub gains : (i : ℕ) → i < b.market.arrived → cells l.gains i ≤ max_price
  -- "Covering means gain plus price at least (q - p) × w on every live entry"
  pub covers : Covers b.market.arrived b.items.count (live b) (q - p) (cells l.prices) (cells l.gains)

abbrev pub TotalsAccepted : Type 0
TotalsAccepted = (b : Board) (l : Lists) (p q weight sum : ℕ) → checked_told (check_of b l p q) ≡ totals weight sum → Accepted b l p q

-- "It answers the plan's worth and the sum of prices and gains"
abbrev pub AcceptedTotals : Type 0
AcceptedTotals =
    (b : Board) (l : Lists) (p q : ℕ) →
    Accepted b l p q →
    checked_told (check_of b l p q) ≡
    totals (weight_of b.market.arrived (live b) (cells l.plan)) (total_with b.market.arrived b.items.count (places_at b) (cells l.prices) (cells l.gains))
