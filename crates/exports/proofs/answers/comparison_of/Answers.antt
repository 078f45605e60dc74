-- `answers::comparison_of` meets its contract.
use mathlib.Core.Path.{sym, ap, ◌∙◌}
use Rattle.comparison.specs.Compare.{uncompared, compared_told}
use Rattle.exports.proofs.answers.comparison_of.Goals as goal

pub returns-in-Err : goal.returns-in-Err
returns-in-Err c = ap uncompared c.refusing-refused.ensures ∙ ap compared_told (sym c.in-Err.is)
