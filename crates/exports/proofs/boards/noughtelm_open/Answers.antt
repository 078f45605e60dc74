-- `boards::noughtelm_open` meets its contract.
use mathlib.Core.Path.{ap, ◌∙◌}
use Rattle.exports.specs.Answers.{open_answer}
use Rattle.exports.proofs.boards.noughtelm_open.Goals as goal

pub returns : goal.returns
returns c = c.open_answer.ensures ∙ ap open_answer c.open.ensures
