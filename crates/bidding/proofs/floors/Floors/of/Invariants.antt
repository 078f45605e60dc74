-- `floors::Floors::of` meets its contract: both lists are filled from their start.
use Rattle.board.specs.Limits.{max_items}
use Rattle.board.specs.Cells.{scaled_at}
use Rattle.board.proofs.Filling.{Filled}
use Rattle.bidding.specs.Floors.{floor_at, pence_of}
use Rattle.bidding.proofs.floors.Floors.of.Given as goal

abbrev pub invariant-loop-k : goal.invariant-loop-k
invariant-loop-k l =
    Filled max_items (floor_at l.market.slack.p l.market.slack.q l.market.withdrawn (scaled_at l.price)) l.k l.least × Filled max_items (λ j. pence_of l.market.slack.q (scaled_at l.price j)) l.k l.pence
