-- The pairs passed are edges.
use mathlib.Core.Path.{◌≡◌}
use lib.ListN.{length}
use Rattle.auction.specs.Edges.{edges_from}
use Rattle.auction.proofs.edges.edges_of.Given as goal

abbrev pub invariant-loop-i : goal.invariant-loop-i
invariant-loop-i l = (length l.edges.items ≡ l.i) × (l.edges.items ≡ edges_from l.buffer.items l.buffer.weights l.i)
