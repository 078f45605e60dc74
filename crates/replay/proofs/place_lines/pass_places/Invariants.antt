-- `place_lines::pass_places` meets its contract: the lines from here on say what those from the start say.
use mathlib.Core.Path.{◌≡◌}
use Prim.Native.Nat.{◌-◌}
use lib.ListN.{length, take}
use Rattle.replay.proofs.ReplayLines.{Placing}
use Rattle.replay.proofs.place_lines.pass_places.Given as goal

abbrev pub invariant-loop-at : goal.invariant-loop-at
invariant-loop-at l =
    (l.opening.items ≡ l.initial.opening.items) × (l.opening.p ≡ l.initial.opening.p) × (l.opening.q ≡ l.initial.opening.q)
    × Placing l.text l.start l.opening.items l.opening.p l.opening.q l.at l.n l.opening.low (take l.opening.items l.opening.counts)

abbrev pub decreases-loop-at : goal.decreases-loop-at
decreases-loop-at l = length l.text - l.at
