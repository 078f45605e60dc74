-- What the check says of the lists that the exact level and the read-out leave, and of anyone's.
use Rattle.std.specs.Prelude.{◌≡◌, ◌↔◌, ℕ, ◌+◌, ◌*◌, ◌≤◌, take}
use Rattle.places.specs.Places.{Ones}
use Rattle.places.specs.EqualExactlyWhenBestWith.{BestListsWith}
use Rattle.supply.specs.declared.record.Board.{Board}
use Rattle.supply.specs.Board.{places_at}
use Rattle.supply.specs.ByItem.{live, matching_weight}
use Rattle.supply.specs.Sound.{Sound}
use Rattle.supply.specs.Lent.{Roomy}
use Rattle.board.specs.Lent.{Lists, lists}
use Rattle.auction.specs.ReadOut.{read_out_of}
use Rattle.hungarian.specs.Exact.{Greatest, greatest_on, ExactOutcome}
use Rattle.certificate.specs.Check.{check_of, totals, checked_told}

-- Three lists cut to length: a cell for each bidder, item and bidder
abbrev pub cut : Board → Lists → Lists
cut b l = lists (take b.market.arrived l.plan) (take b.items.count l.prices) (take b.market.arrived l.gains)

-- "With 0/1 that is the whole-penny case": what the exact level leaves is accepted, and both totals are its answer
abbrev pub ExactAccepted : Type 0
ExactAccepted =
    (b : Board) (before after : Lists) (answer : Greatest) → Sound b → Roomy b before → ExactOutcome b before answer after →
    checked_told (check_of b (cut b after) 0 1) ≡ totals (greatest_on b) (greatest_on b)

-- The totals that the check answers at 0/1 are equal exactly when the matching is of greatest weight and the cover of least sum: "best" may then be
-- printed
abbrev pub EqualTotalsBest : Type 0
EqualTotalsBest =
    (b : Board) (l : Lists) (weight sum : ℕ) → checked_told (check_of b l 0 1) ≡ totals weight sum →
    (weight ≡ sum) ↔ BestListsWith b.market.arrived b.items.count (places_at b) (live b) l.plan l.prices l.gains

-- The lists read out, checked at the board's own slack: the weight is the board's, and "a check of read-out prices may total less than q + p times the
-- worth, never more" (document 02, R-6); with one place each it is just that
pub record ChecksOut (b : Board) (l : Lists) : Type 0 where
  pub sum : ℕ
  pub accepted : checked_told (check_of b (cut b (read_out_of b l).lists) b.market.slack.p b.market.slack.q) ≡ totals (matching_weight b) sum
  pub within : sum ≤ (b.market.slack.q + b.market.slack.p) * matching_weight b
  pub whole : Ones b.items.count (places_at b) → sum ≡ (b.market.slack.q + b.market.slack.p) * matching_weight b

-- On every sound board they are accepted: no price and no gain is above 2,000,000,000, the limit since R-7
abbrev pub ReadOutAccepted : Type 0
ReadOutAccepted = (b : Board) (l : Lists) → Sound b → Roomy b l → ChecksOut b l
