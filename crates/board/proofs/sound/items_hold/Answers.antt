-- `sound::items_hold` meets its contract: the items passed hold.
use mathlib.Core.Path.{sym, ◌∙◌}
use native.Mathlib.Omega.{arith}
use Rattle.duality.proofs.Decide.{true-decides, all-decides, all-fails, true-is}
use Rattle.board.specs.Limits.{max_items}
use Rattle.board.specs.SoundTest.{items_test}
use Rattle.board.proofs.sound.items_hold.Goals as goal

pub returns-then-not-item_holds : goal.returns-then-not-item_holds
unfolding items_test
returns-then-not-item_holds c = all-fails max_items _ _ c.loop-k-test.true (sym c.item_holds.ensures ∙ c.if-not-item_holds.true)

pub returns : goal.returns
unfolding items_test
returns c = true-is (all-decides max_items _ _ (λ j. true-decides _)) (λ j l. c.loop-k.invariant j (omega arith))
