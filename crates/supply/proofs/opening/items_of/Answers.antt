-- `opening::items_of` meets its contract: the counts are written.
use mathlib.Core.Path.{refl}
use native.Mathlib.Omega.{arith}
use Rattle.duality.specs.Lists.{cells}
use Rattle.board.proofs.Written.{written_next, written_start}
use Rattle.supply.proofs.Openings.{items_kept}
use Rattle.supply.proofs.opening.items_of.Goals as goal

pub loop-k-init : goal.loop-k-init
loop-k-init c = written_start _ _

pub loop-k-preserved : goal.loop-k-preserved
loop-k-preserved c = written_next c.loop-k.k _ (cells c.args.counts.now) _ _ c.loop-k.invariant refl

pub returns : goal.returns
returns c = items_kept _ _ _ (omega arith) c.loop-k.invariant
