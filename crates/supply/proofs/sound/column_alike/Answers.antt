-- `sound::column_alike` meets its contract: the rows passed have the same edge at both places.
use mathlib.Core.Path.{sym, ◌∙◌}
use native.Mathlib.Omega.{arith}
use borrow.Author.Count.{below_more}
use Rattle.duality.proofs.Decide.{true-is, false-is}
use Rattle.board.proofs.Filed.{row-cell}
use Rattle.supply.proofs.SoundLaw.{column-in-decides}
use Rattle.supply.proofs.sound.column_alike.Goals as goal

pub returns-then-weights-i : goal.returns-then-weights-i
returns-then-weights-i c =
    let w = c.args.weights.now in
    let i = c.loop-i.i in
    false-is _ (column-in-decides w c.args.arrived c.args.s c.args.t)
    (λ h. c.if-weights-i.true (sym (row-cell w i c.args.s (omega arith)) ∙ h i (omega arith) ∙ row-cell w i c.args.t (omega arith)))

pub loop-i-preserved : goal.loop-i-preserved
loop-i-preserved c =
    let w = c.args.weights.now in
    let i = c.loop-i.i in
    below_more _ _ c.loop-i.invariant (row-cell w i c.args.s (omega arith) ∙ c.if-weights-i.false ∙ sym (row-cell w i c.args.t (omega arith)))

pub returns : goal.returns
returns c = true-is (column-in-decides c.args.weights.now c.args.arrived c.args.s c.args.t) (λ j l. c.loop-i.invariant j (omega arith))
