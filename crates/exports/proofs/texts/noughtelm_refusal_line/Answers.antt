-- `texts::noughtelm_refusal_line` meets its contract.
use Rattle.exports.proofs.Answered.{told-bytes}
use Rattle.exports.proofs.texts.noughtelm_refusal_line.Goals as goal

pub returns : goal.returns
returns c = told-bytes _ _ _ c.refusal_line-planned.ensures c.planned_told.ensures
