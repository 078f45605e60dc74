-- `sound::place_alike` meets its contract.
use mathlib.Core.Path.{◌∙◌}
use Rattle.supply.proofs.SoundLaw.{alike_same, alike-other, alike-column}
use Rattle.supply.proofs.sound.place_alike.Goals as goal

pub returns-then-s-t : goal.returns-then-s-t
returns-then-s-t c =
    let a = c.args in
    alike_same a.weights.now a.withdrawn.now a.arrived a.s a.t c.if-s-t.true

pub returns-then-withdrawn-s : goal.returns-then-withdrawn-s
returns-then-withdrawn-s c =
    let a = c.args in
    alike-other a.weights.now a.withdrawn.now a.arrived a.s a.t c.if-withdrawn-s.true

pub returns : goal.returns
returns c =
    let a = c.args in
    c.column_alike.ensures ∙ alike-column a.weights.now a.withdrawn.now a.arrived a.s a.t c.if-withdrawn-s.false
