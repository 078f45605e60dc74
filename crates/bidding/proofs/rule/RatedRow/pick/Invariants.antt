-- The best of the edges of the blocks looked at.
use mathlib.Core.Path.{◌≡◌}
use Prim.Native.Nat.{◌-◌, ◌*◌, ◌≤◌}
use Rattle.board.specs.Cells.{scaled_at}
use Rattle.bidding.specs.Slides.{pick_of}
use Rattle.bidding.specs.Leader.{edge_of, Rounds, rated_in}
use Rattle.bidding.proofs.rule.RatedRow.pick.Given as goal

abbrev pub invariant-loop-block : goal.invariant-loop-block
invariant-loop-block l =
    (l.block ≤ 8) × Rounds l.self.slack.q l.leader.utility.0 l.leader.bar.0 l.leader.own l.leader.least ×
    (edge_of l.leader.item l.leader.weight l.leader.utility l.leader.bar.0 ≡ pick_of l.self.slack.q (rated_in l.self.tested.now l.self.row.now) (scaled_at l.self.prices.now) (l.block * 8))

abbrev pub decreases-loop-block : goal.decreases-loop-block
decreases-loop-block l = 8 - l.block
