-- `texts::noughtelm_replay` meets its contract.
use Rattle.exports.specs.Answers.{replay_answer}
use Rattle.exports.proofs.Answered.{told-done}
use Rattle.exports.proofs.texts.noughtelm_replay.Goals as goal

pub returns : goal.returns
returns c = told-done replay_answer c.replay-replayed.ensures c.replay_answer.ensures
