-- `answers::planned_told` meets its contract.
use mathlib.Core.Path.{sym, ap, ◌∙◌}
use Rattle.history.specs.Demand1.{planned_told}
use Rattle.exports.proofs.answers.planned_told.Goals as goal

pub returns-in-Ok : goal.returns-in-Ok
returns-in-Ok c = c.serving.ensures ∙ ap planned_told (sym c.in-Ok.is)

pub returns-in-Err : goal.returns-in-Err
returns-in-Err c = c.stopping.ensures ∙ ap planned_told (sym c.in-Err.is)
