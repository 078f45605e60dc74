-- The potential of a board: how many bids its prices speak for. It bounds the bids of every chain and of every history.
use Rattle.std.specs.Prelude.{Bool, true, false, ℕ, zero, suc, ◌*◌}
use Rattle.duality.specs.Sums.{sum_to}
use Rattle.duality.specs.Steps.{most, steps}
use Rattle.board.specs.declared.record.Auction.{Auction}
use Rattle.board.specs.Cells.{price_at, withdrawn_at, weight_at}

-- 1 for an edge, and 0 for none
abbrev pub one : ℕ → ℕ
one zero = 0
one (suc w) = 1

-- "the entries ever accepted": all that the record holds, at withdrawn items too
unfoldable pub edge_count : Auction → ℕ
edge_count b = sum_to b.market.arrived (λ i. sum_to b.market.items (λ k. one (weight_at b i k)))

-- An edge's part: the steps of its item's price, and the most where the item is withdrawn
abbrev pub part_of : ℕ → ℕ → ℕ → Bool → ℕ → ℕ
part_of p q zero withdrawn y = 0
part_of p q (suc w) true y = most p q
part_of p q (suc w) false y = steps p q (suc w) y

-- A number of the board alone
unfoldable pub potential : Auction → ℕ
potential b =
    sum_to b.market.arrived (λ i. sum_to b.market.items (λ k. part_of b.market.slack.p b.market.slack.q (weight_at b i k) (withdrawn_at b k) (price_at b k)))

-- The most bids that there can be: "the entries ever accepted times the whole part of (q - 1)/p"
abbrev pub bid_limit : Auction → ℕ
bid_limit b = edge_count b * most b.market.slack.p b.market.slack.q
