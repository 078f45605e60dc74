-- `plans::noughtelm_compare` meets its contract.
use mathlib.Core.Path.{ap, ◌∙◌}
use Rattle.comparison.specs.Compare.{compared_told}
use Rattle.exports.proofs.plans.noughtelm_compare.Goals as goal

pub returns : goal.returns
returns c = c.comparison_of.ensures ∙ ap compared_told c.compare.ensures
