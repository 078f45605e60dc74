-- `boards::noughtelm_arrive_buffer` meets its contract.
use Rattle.exports.specs.Answers.{arrival_answer}
use Rattle.exports.proofs.Answered.{told-done}
use Rattle.exports.proofs.boards.noughtelm_arrive_buffer.Goals as goal

pub returns : goal.returns
returns c = told-done arrival_answer c.arrive_buffer-bids.ensures.answers c.bids_answer.ensures.arrival
