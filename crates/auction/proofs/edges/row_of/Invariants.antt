-- The edges passed are written.
use mathlib.Core.Path.{◌≡◌}
use Rattle.auction.specs.Edges.{item_in, weight_in, row_to}
use Rattle.auction.proofs.edges.row_of.Given as goal

abbrev pub invariant-loop-edge : goal.invariant-loop-edge
invariant-loop-edge l = l.row ≡ row_to (item_in l.edges) (weight_in l.edges) l.edge-index
