-- `boards::noughtelm_arrive` meets its contract.
use Rattle.exports.specs.Answers.{arrival_answer}
use Rattle.exports.proofs.Answered.{told-done}
use Rattle.exports.proofs.boards.noughtelm_arrive.Goals as goal

pub returns : goal.returns
returns c = told-done arrival_answer c.arrive-bids.ensures.answers c.bids_answer.ensures.arrival
