-- `sound::row_holds` meets its contract: the edges passed hold.
use mathlib.Core.Path.{sym, ◌∙◌}
use native.Mathlib.Omega.{arith}
use Rattle.duality.proofs.Decide.{true-decides, all-decides, all-fails, true-is}
use Rattle.board.specs.Limits.{max_items}
use Rattle.board.specs.SoundPass.{needs_test}
use Rattle.board.proofs.sound.row_holds.Goals as goal

pub returns-then-not-cell_holds : goal.returns-then-not-cell_holds
unfolding needs_test
returns-then-not-cell_holds c =
    all-fails max_items _ _ c.loop-k-test.true (rw c.weight_in.ensures.weight at (sym c.cell_holds.ensures ∙ c.if-not-cell_holds.true))

pub returns : goal.returns
unfolding needs_test
returns c = true-is (all-decides max_items _ _ (λ j. true-decides _)) (λ j l. c.loop-k.invariant j (omega arith))
