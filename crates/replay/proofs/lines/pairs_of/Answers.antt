-- `lines::pairs_of` meets its contract: edge by edge.
use mathlib.Core.Path.{refl, ◌∙◌}
use native.Mathlib.Numerals.{add-one}
use native.Mathlib.Omega.{arith}
use Rattle.replay.specs.Replay.{pairs_of}
use Rattle.replay.proofs.lines.pairs_of.Goals as goal

pub loop-i-init : goal.loop-i-init
unfolding pairs_of
loop-i-init c = (rw c.new-edges.ensures refl, c.new-edges.ensures)

pub loop-i-preserved : goal.loop-i-preserved
unfolding pairs_of
loop-i-preserved c = (c.push.ensures.len ∙ omega (arith, c.loop-i.invariant.0), rw (add-one, c.push.ensures.items, c.loop-i.invariant.1) refl)
