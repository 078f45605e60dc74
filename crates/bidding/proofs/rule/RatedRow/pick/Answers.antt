-- `rule::RatedRow::pick` meets its contract: the best of the edges of the blocks looked at, and past the items there is no edge.
use mathlib.Core.Path.{◌∙◌}
use native.Mathlib.Omega.{arith}
use Rattle.bidding.specs.Slides.{pick_of}
use Rattle.bidding.proofs.Offers.{rated-none, pick_ends}
use Rattle.bidding.proofs.rule.RatedRow.pick.Goals as goal

pub loop-block-init : goal.loop-block-init
unfolding pick_of
loop-block-init c = (omega arith, c.none-leader.ensures.rounds _, c.none-leader.ensures.nothing)

pub returns : goal.returns
returns c =
    c.picked.ensures ∙ pick_ends _ _ _ _ _ _ (omega (arith, c.loop-block-test.false)) (λ k l. rated-none _ _ (c.requires.blank k l)) c.loop-block.invariant.2
