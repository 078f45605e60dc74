-- `rule::test_open` meets its contract: the weights looked at are tested.
use mathlib.Core.Path.{◌≡◌}
use mathlib.Core.Bool.{cond}
use Prim.Native.Nat.{◌-◌}
use lib.ListN.{get_or}
use lib.Dec.{ltb}
use Rattle.board.specs.Lent.{written}
use Rattle.bidding.proofs.rule.test_open.Given as goal

abbrev pub invariant-loop-k : goal.invariant-loop-k
invariant-loop-k l = l.tested ≡ written l.k (λ j. cond (ltb (get_or l.floors.least j 0) (get_or l.row j 0)) (get_or l.row j 0) 0 - get_or l.floors.pence j 0) l.initial.tested
