-- `answers::weight_told` meets its contract.
use mathlib.Core.Path.{sym, ap, ◌∙◌}
use Rattle.hungarian.specs.Exact.{exact_told}
use Rattle.counting.specs.Call.{counted_told}
use Rattle.exports.proofs.answers.weight_told.Goals as goal

pub returns-in-Ok-clause-exact : goal.returns-in-Ok-clause-exact
returns-in-Ok-clause-exact c = c.serving.ensures ∙ ap exact_told (sym c.in-Ok.is)

pub returns-in-Err-clause-exact : goal.returns-in-Err-clause-exact
returns-in-Err-clause-exact c = c.refusing.ensures ∙ ap exact_told (sym c.in-Err.is)

pub returns-in-Ok-clause-counted : goal.returns-in-Ok-clause-counted
returns-in-Ok-clause-counted c = c.serving.ensures ∙ ap counted_told (sym c.in-Ok.is)

pub returns-in-Err-clause-counted : goal.returns-in-Err-clause-counted
returns-in-Err-clause-counted c = c.refusing.ensures ∙ ap counted_told (sym c.in-Err.is)
