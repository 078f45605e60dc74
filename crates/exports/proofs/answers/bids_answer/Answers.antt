-- `answers::bids_answer` meets its contract.
use mathlib.Core.Path.{ap, ◌∙◌}
use Rattle.exports.specs.Answers.{with_board}
use Rattle.exports.proofs.answers.bids_answer.Goals as goal

pub returns-clause-arrival : goal.returns-clause-arrival
returns-clause-arrival c = c.beside.ensures ∙ ap (with_board _) c.number_told.ensures.arrived

pub returns-clause-withdrawal : goal.returns-clause-withdrawal
returns-clause-withdrawal c = c.beside.ensures ∙ ap (with_board _) c.number_told.ensures.withdrawn
