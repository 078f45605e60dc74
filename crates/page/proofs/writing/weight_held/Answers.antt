-- `writing::weight_held` meets its contract.
use mathlib.Core.Path.{◌∙◌}
use Rattle.page.proofs.Rows.{held_none, held-some}
use Rattle.page.proofs.writing.weight_held.Goals as goal

pub returns-then-place-eq0 : goal.returns-then-place-eq0
returns-then-place-eq0 c = let a = c.args in held_none a.weights.now a.i a.place c.if-place-eq0.true

pub returns : goal.returns
returns c = let a = c.args in c.weight_in.ensures.weight ∙ held-some a.weights.now a.i a.place c.if-place-eq0.false c.requires.place
