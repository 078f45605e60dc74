-- `rule::RatedRow::look_on` meets its contract: the best of the edges looked at.
use mathlib.Core.Path.{◌≡◌}
use Prim.Native.Nat.{◌+◌}
use native.Mathlib.Omega.{arith}
use Rattle.bidding.proofs.Offers.{pick_next}
use Rattle.bidding.proofs.rule.RatedRow.look_on.Goals as goal

pub loop-j-preserved : goal.loop-j-preserved
loop-j-preserved c =
    let next : c.args.from + (c.loop-j.j + 1) ≡ c.args.from + c.loop-j.j + 1 = omega arith in
    (c.look_at-leader.ensures.rounds, rw next (pick_next _ _ _ _ _ _ c.loop-j.invariant.1 c.look_at-leader.ensures.taken))
