-- `plans::noughtelm_count` meets its contract.
use mathlib.Core.Path.{ap, ◌∙◌}
use Rattle.counting.specs.Call.{counted_told}
use Rattle.exports.proofs.plans.noughtelm_count.Goals as goal

pub returns : goal.returns
returns c = c.weight_told.ensures.counted ∙ ap counted_told c.count.ensures
