-- `sound::edges_hold` meets its contract: the rows, read with the limits and the lacks of the items.
use mathlib.Core.Path.{sym, subst}
use Rattle.duality.specs.Decide.{Decides}
use Rattle.board.specs.Cells.{auction}
use Rattle.board.specs.SoundPass.{RowsHold}
use Rattle.board.proofs.SoundTests.{InLimits, limits-decide}
use Rattle.board.proofs.SoundPass.{bounded, rows-decide}
use Rattle.board.proofs.sound.edges_hold.Goals as goal

pub rows_hold-requires : goal.rows_hold-requires
rows_hold-requires c =
    let m = c.args.market in
    let h : InLimits m.items m.arrived m.slack.p m.slack.q = (limits-decide _ _ _ _).sound c.requires in
    record {
      arrived = h.arrived;
      bounded = bounded c.args.state.price m.withdrawn m.items _ _ c.limits_of-limit.ensures c.lacks_of-lack.ensures;
      below = h.slack.below;
      q = h.slack.high;
    }

pub returns : goal.returns
returns c =
    let a = c.args in
    let m = a.market in
    let h : InLimits m.items m.arrived m.slack.p m.slack.q = (limits-decide _ _ _ _).sound c.requires in
    subst (λ t. Decides t (RowsHold (auction m a.weights.now a.state))) (sym c.rows_hold.ensures)
    (rows-decide (auction m a.weights.now a.state) _ _ c.limits_of-limit.ensures c.lacks_of-lack.ensures h.slack.high h.arrived)
