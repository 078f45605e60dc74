-- `rule::test_open` meets its contract: the weights looked at are tested.
use mathlib.Core.Path.{ap, ◌∙◌}
use Prim.Native.Nat.{◌-◌}
use native.Mathlib.Omega.{arith}
use lib.ListN.{get_or}
use Rattle.board.proofs.Written.{written_start, written_next, written-end, written_as}
use Rattle.bidding.proofs.AboveFloors.{above-floors}
use Rattle.bidding.proofs.rule.test_open.Goals as goal

pub loop-k-init : goal.loop-k-init
loop-k-init c = written_start _ _

pub above-requires : goal.above-requires
above-requires c =
    c.requires.under c.loop-k.k c.loop-k-test.true

pub loop-k-preserved : goal.loop-k-preserved
loop-k-preserved c = written_next _ _ _ _ _ c.loop-k.invariant c.above.ensures

pub returns : goal.returns
returns c = λ p q withdrawn y l h f.
    written-end _ _ _ _ _ (omega (arith, c.loop-k.auto.k-end)) c.loop-k.invariant
    ∙ written_as _ _ _ _ (λ k lk. ap (λ x. x - get_or c.args.floors.now.pence k 0) (above-floors p q c.args.items c.args.row.now c.args.floors.now.least withdrawn y l h f k lk))
