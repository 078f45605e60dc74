-- `boards::noughtelm_withdraw` meets its contract.
use Rattle.exports.specs.Answers.{withdrawal_answer}
use Rattle.exports.proofs.Answered.{told-done}
use Rattle.exports.proofs.boards.noughtelm_withdraw.Goals as goal

pub returns : goal.returns
returns c = told-done withdrawal_answer c.withdraw-bids.ensures.answers c.bids_answer.ensures.withdrawal
