-- `plans::noughtelm_check` meets its contract.
use mathlib.Core.Path.{ap, ◌∙◌}
use Rattle.certificate.specs.Check.{checked_told}
use Rattle.exports.proofs.plans.noughtelm_check.Goals as goal

pub returns : goal.returns
returns c = c.totals_of.ensures ∙ ap checked_told c.check.ensures
