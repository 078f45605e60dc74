-- `edges::edges_of` meets its contract: edge by edge.
use mathlib.Core.Path.{refl, ◌∙◌}
use lib.ListN.{length, length-append}
use native.Mathlib.Numerals.{add-one}
use native.Mathlib.Omega.{arith}
use Rattle.auction.specs.Edges.{edges_from}
use Rattle.auction.proofs.edges.edges_of.Goals as goal

pub loop-i-init : goal.loop-i-init
unfolding edges_from
loop-i-init c = (rw c.new-edges.ensures refl, c.new-edges.ensures)

pub loop-i-preserved : goal.loop-i-preserved
unfolding edges_from
loop-i-preserved c = (c.push.ensures.len ∙ omega (arith, c.loop-i.invariant.0), rw (c.push.ensures.items, add-one, c.loop-i.invariant.1) refl)
