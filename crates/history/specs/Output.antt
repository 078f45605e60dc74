-- What is printed, as bytes.
use Rattle.std.specs.Prelude.{Bool, cond, List, [], ◌∷◌, ◌++◌, ℕ, zero, suc, ◌+◌}
use Rattle.text.specs.Print.{line_of}
use Rattle.duality.specs.Lists.{cells}
use Rattle.duality.specs.Cover.{total}
use Rattle.supply.specs.declared.record.Board.{Board}
use Rattle.board.specs.declared.record.Market.{Market}
use Rattle.board.specs.declared.lent.Columns.{Columns}
use Rattle.refusals.specs.declared.Refusal.{Refusal}
use Rattle.supply.specs.declared.record.Items.{Items}
use Rattle.supply.specs.Board.{auction_of}
use Rattle.supply.specs.ByItem.{gone_by, withdrawn_at, gain_at, price_at, matching_of, matching_weight}
use Rattle.board.specs.Cells as place
use Rattle.refusals.specs.Codes.{code_of}
use Rattle.hungarian.specs.Exact.{greatest_on}

-- "`P` batch, kettle or 0, gain": the lines of the first n bidders, in rising order
unfoldable pub bidder_lines : (matching gain : ℕ → ℕ) → ℕ → List ℕ
bidder_lines matching gain zero = []
bidder_lines matching gain (suc i) = bidder_lines matching gain i ++ line_of 80 ((i + 1) ∷ matching i ∷ gain i ∷ [])

-- "`Y` kettle, price (withdrawn ones omitted)"
abbrev pub item_line : Bool → ℕ → ℕ → List ℕ
item_line withdrawn number price = cond withdrawn [] (line_of 89 (number ∷ price ∷ []))

-- the lines of the first n items, in rising order
unfoldable pub item_lines : (withdrawn : ℕ → Bool) (price : ℕ → ℕ) → ℕ → List ℕ
item_lines withdrawn price zero = []
item_lines withdrawn price (suc k) = item_lines withdrawn price k ++ item_line (withdrawn k) (k + 1) (price k)

-- the lines of both, of a board's bidders and items: "batches and then kettles in rising order"
abbrev pub column_lines : Columns → Items → Market → List ℕ
column_lines c known m =
    bidder_lines (cells c.plan) (cells c.gains) m.arrived ++ item_lines (gone_by known m.withdrawn) (cells c.prices) known.count

-- "`T` worth, sum of prices and gains, bids in all; `E` greatest worth"
abbrev pub last_lines : ℕ → ℕ → ℕ → ℕ → List ℕ
last_lines weight sum bids greatest = line_of 84 (weight ∷ sum ∷ bids ∷ []) ++ line_of 69 (greatest ∷ [])

-- the sum of a board's prices and gains: "The board's own sum, in line `T`, counts every place's price" (document 02, R-6). The weight of its plan is
-- matching_weight, the board's own; the greatest weight of any plan is greatest_on: the plain count over places
abbrev pub sum_of : Board → ℕ
sum_of b = total b.market.arrived b.market.items (place.price_at (auction_of b)) (gain_at b)

-- "prints, in lines and tabbed fields of the same kind but with numbers of any length, batches and then kettles in rising order": a board,
-- and the bids in all
unfoldable pub output_of : Board → ℕ → List ℕ
output_of b bids =
    bidder_lines (matching_of b) (gain_at b) b.market.arrived
    ++ (item_lines (withdrawn_at b) (price_at b) b.items.count
    ++ last_lines (matching_weight b) (sum_of b) bids (greatest_on b))

-- "A refused text prints only `R`, number, line"
abbrev pub refusal_line : ℕ → ℕ → List ℕ
refusal_line number line = line_of 82 (number ∷ line ∷ [])

-- the same of a refusal of the table
abbrev pub refusal_of : Refusal → ℕ → List ℕ
refusal_of r line = refusal_line (code_of r).number line
