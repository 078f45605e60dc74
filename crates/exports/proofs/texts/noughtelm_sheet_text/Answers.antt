-- `texts::noughtelm_sheet_text` meets its contract.
use Rattle.exports.proofs.Answered.{told-bytes}
use Rattle.exports.proofs.texts.noughtelm_sheet_text.Goals as goal

pub returns : goal.returns
returns c = told-bytes _ _ _ c.print_text-printed.ensures c.planned_told.ensures
