-- `moves::enter` meets its contract: the arrival begins a chain.
use Rattle.board.specs.Cells.{auction}
use Rattle.bidding.specs.Moves.{entered}
use Rattle.bidding.proofs.Starts.{arrival-ready}
use Rattle.bidding.proofs.Moving.{entered-as}
use Rattle.bidding.proofs.moves.enter.Goals as goal

pub settle-end-requires : goal.settle-end-requires
unfolding entered
settle-end-requires c =
    let p = c.requires in
    record {
      ready = rw c.file_row.ensures (arrival-ready p.sound p.room p.row);
      floored = record { above = p.floored.above; size = p.floored.size; size₂ = p.floored.size₂; whole = p.floored.whole };
    }

pub returns : goal.returns
returns c = record {
  arrived = entered-as (auction c.args.market.now c.args.weights.now c.args.state.now) _ _ _ c.file_row.ensures c.settle-end.ensures.chain;
  floored = c.settle-end.ensures.floored;
}
