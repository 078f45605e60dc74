-- The slow count beside the exact level (document 02, R-9).
use Rattle.std.specs.Prelude.{◌≡◌, List, ◌++◌, ℕ}
use Rattle.supply.specs.declared.record.Board.{Board}
use Rattle.supply.specs.ByItem.{withdrawn_at, gain_at, price_at, matching_of, matching_weight}
use Rattle.supply.specs.Lent.{Roomy}
use Rattle.board.specs.Lent.{Lists}
use Rattle.replay.specs.TextDemand1.{TextFinished}
use Rattle.hungarian.specs.Exact.{Greatest, exact_told, ExactOutcome}
use Rattle.counting.specs.Call.{count_on, count_of, counted_told}
use Rattle.counting.specs.Demand1.{Takes}
use Rattle.history.specs.Output.{bidder_lines, item_lines, last_lines, sum_of}
use Rattle.history.specs.Plan.{sheet_of}

-- "It returns the greatest worth, and this is to be shown equal to the exact level's on every sheet it takes": both calls tell the same, whatever lists, long
-- enough, the exact level is lent, and whatever plan, prices and gains it leaves in them
abbrev pub CountIsExact : Type 0
CountIsExact =
    (b : Board) (before after : Lists) (answer : Greatest) → Takes b → Roomy b before → ExactOutcome b before answer after →
    counted_told (count_of b) ≡ exact_told answer

-- And so on every sheet that is planned from a text: the number in line `E` is the one that the count comes to
abbrev pub CountPrinted : Type 0
CountPrinted =
    (s : List ℕ) (b : Board) (entries bids : ℕ) → TextFinished s b entries bids →
    sheet_of s ≡
    bidder_lines (matching_of b) (gain_at b) b.market.arrived
    ++ (item_lines (withdrawn_at b) (price_at b) b.items.count
    ++ last_lines (matching_weight b) (sum_of b) bids (count_on b))
