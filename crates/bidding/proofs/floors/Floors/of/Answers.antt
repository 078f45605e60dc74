-- `floors::Floors::of` meets its contract: both lists are filled from their start.
use native.Mathlib.Omega.{arith}
use Rattle.board.proofs.Filling.{filled_more}
use Rattle.bidding.proofs.floors.Floors.of.Goals as goal

pub loop-k-preserved : goal.loop-k-preserved
loop-k-preserved c =
    let inv = c.loop-k.invariant in
    (filled_more inv.0 (omega arith) c.floor_at.ensures, filled_more inv.1 (omega arith) c.pence_of.ensures)

pub returns : goal.returns
returns c =
    let inv = c.loop-k.invariant in
    record { size = inv.0.size; size₂ = inv.1.size; above = λ j l. inv.0.cells j (omega arith); whole = λ j l. inv.1.cells j (omega arith) }
