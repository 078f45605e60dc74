-- `texts::noughtelm_plan_text` meets its contract.
use mathlib.Core.Path.{refl}
use Rattle.exports.specs.Answers.{plan_answer}
use Rattle.exports.proofs.Answered.{told-done, told-bytes}
use Rattle.exports.proofs.texts.noughtelm_plan_text.Goals as goal

pub returns : goal.returns
returns c = told-done plan_answer c.plan_text-planned.ensures (told-bytes c.plan_text-planned.result _ _ refl c.planned_told.ensures)
