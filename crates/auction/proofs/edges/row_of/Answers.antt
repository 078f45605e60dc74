-- `edges::row_of` meets its contract: so many edges are written.
use mathlib.Core.Path.{refl}
use Rattle.auction.proofs.Rows.{row-start, row_next}
use Rattle.auction.proofs.edges.row_of.Goals as goal

pub loop-edge-init : goal.loop-edge-init
loop-edge-init c = row-start _ _

pub loop-edge-preserved : goal.loop-edge-preserved
loop-edge-preserved c = row_next _ _ _ _ _ _ c.loop-edge.invariant refl refl
