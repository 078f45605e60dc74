-- `sound::rows_hold` meets its contract: the rows passed hold, and no other has an edge.
use mathlib.Core.Path.{sym, ◌∙◌}
use native.Mathlib.Omega.{arith}
use Rattle.duality.proofs.Decide.{true-is, false-is, clash}
use Rattle.board.proofs.SoundPass.{rows-parts}
use Rattle.board.proofs.sound.rows_hold.Goals as goal

pub returns-then-not-no_edges : goal.returns-then-not-no_edges
returns-then-not-no_edges c = false-is _ (rows-parts _ _ _ _ _ _) (λ h. clash _ h.0 (sym c.no_edges.ensures ∙ c.if-not-no_edges.true))

pub returns-then-not-row_holds : goal.returns-then-not-row_holds
returns-then-not-row_holds c =
    false-is _ (rows-parts _ _ _ _ _ _)
    (λ h. clash _ (h.1 _ c.loop-i-test.true) (rw c.room_of.ensures at (sym c.row_holds.ensures ∙ c.if-not-row_holds.true)))

pub returns : goal.returns
returns c = let inv = c.loop-i.invariant in true-is (rows-parts _ _ _ _ _ _) (inv.0, λ j l. inv.1 j (omega arith))
