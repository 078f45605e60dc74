-- `pages::noughtelm_write_page` meets its contract.
use Rattle.exports.proofs.Answered.{told-page}
use Rattle.exports.proofs.pages.noughtelm_write_page.Goals as goal

pub returns : goal.returns
returns c = told-page _ _ _ c.write_page.ensures c.number_told.ensures.written
