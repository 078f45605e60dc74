-- `answers::stopping` meets its contract.
use mathlib.Core.Path.{ap}
use Rattle.refusals.specs.Told.{told}
use Rattle.exports.proofs.answers.stopping.Goals as goal

pub returns : goal.returns
returns c = ap (λ n. told n c.args.stop.line c.args.value) c.number.ensures
