-- `sound::placing_of` meets its contract: what is known of the cells passed.
use mathlib.Core.Path.{◌≡◌, sym, ◌∙◌}
use native.Mathlib.Omega.{arith}
use Rattle.board.proofs.Placing.{placed-none, placed-more, placed-absent, placed-twice, placed-all}
use Rattle.board.proofs.sound.placing_of.Goals as goal
use Rattle.std.proofs.lemmas.List.{get_or-take}

pub loop-k-init : goal.loop-k-init
loop-k-init c = placed-none _ _

pub returns-then-cell-arrived : goal.returns-then-cell-arrived
returns-then-cell-arrived c =
    let read = c.from-cell.ensures ∙ get_or-take c.args.items c.args.holder.now c.loop-k.k 0 (omega arith) in
    placed-absent _ _ _ _ _ c.requires.arrived c.loop-k.invariant (omega arith) _ read c.if-cell-arrived.true

pub returns-then-taken : goal.returns-then-taken
returns-then-taken c =
    let read = c.from-cell.ensures ∙ get_or-take c.args.items c.args.holder.now c.loop-k.k 0 (omega arith) in
    placed-twice _ _ _ _ _ c.requires.arrived c.loop-k.invariant (omega arith) _ read c.if-cell-arrived.false (sym c.taken.ensures ∙ c.if-taken.true)

pub loop-k-preserved : goal.loop-k-preserved
loop-k-preserved c =
    let read = c.from-cell.ensures ∙ get_or-take c.args.items c.args.holder.now c.loop-k.k 0 (omega arith) in
    placed-more _ c.args.items _ _ _ c.requires.arrived c.loop-k.invariant _ read c.if-cell-arrived.false (sym c.taken.ensures ∙ c.if-taken.false)

pub returns : goal.returns
returns c =
    let e : c.loop-k.k ≡ c.args.items = omega arith in
    placed-all _ _ _ _ (rw e at c.loop-k.invariant)
