-- `pages::noughtelm_read_page` meets its contract.
use Rattle.exports.proofs.Answered.{told-rows}
use Rattle.exports.proofs.pages.noughtelm_read_page.Goals as goal

pub returns : goal.returns
returns c = told-rows _ _ _ c.read_page.ensures c.number_told.ensures.read
