-- `boards::noughtelm_read_out` meets its contract.
use Rattle.exports.proofs.Answered.{told-lists}
use Rattle.exports.proofs.boards.noughtelm_read_out.Goals as goal

pub returns : goal.returns
returns c = told-lists _ _ _ c.read_out.ensures.answers c.read_out_told.ensures
