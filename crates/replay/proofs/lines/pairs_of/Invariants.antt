-- The pairs passed are edges.
use mathlib.Core.Path.{◌≡◌}
use lib.ListN.{length}
use Rattle.replay.specs.Replay.{pairs_of}
use Rattle.replay.proofs.lines.pairs_of.Given as goal

abbrev pub invariant-loop-i : goal.invariant-loop-i
invariant-loop-i l = (length l.edges.items ≡ l.i) × (l.edges.items ≡ pairs_of l.numbers l.i)
