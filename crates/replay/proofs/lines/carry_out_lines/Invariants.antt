-- `lines::carry_out_lines` meets its contract: the lines from here on say what those from the start say.
use mathlib.Core.Path.{◌≡◌}
use Prim.Native.Nat.{◌-◌}
use lib.ListN.{length}
use Rattle.replay.proofs.ReplayLines.{Replaying}
use Rattle.replay.proofs.lines.carry_out_lines.Given as goal

abbrev pub invariant-loop-at : goal.invariant-loop-at
invariant-loop-at l =
    (l.live.board.ghost_name ≡ l.initial.live.board.ghost_name) × Replaying l.text l.fn.next.at l.fn.next.line l.initial.live.board.now l.at l.n l.live.board.now l.bids

abbrev pub decreases-loop-at : goal.decreases-loop-at
decreases-loop-at l = length l.text - l.at
