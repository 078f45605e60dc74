-- `pages::noughtelm_page_text` meets its contract.
use Rattle.exports.proofs.Answered.{told-bytes}
use Rattle.exports.proofs.pages.noughtelm_page_text.Goals as goal

pub returns : goal.returns
returns c = told-bytes _ _ _ c.page_text-planned.ensures c.planned_told.ensures
