-- `answers::read_out_told` meets its contract.
use mathlib.Core.Path.{sym, ap, ◌∙◌}
use Rattle.auction.specs.ReadOut.{read_out_told}
use Rattle.exports.proofs.answers.read_out_told.Goals as goal

pub returns-in-Ok : goal.returns-in-Ok
returns-in-Ok c = c.serving.ensures ∙ ap read_out_told (sym c.in-Ok.is)

pub returns-in-Err : goal.returns-in-Err
returns-in-Err c = c.refusing.ensures ∙ ap read_out_told (sym c.in-Err.is)
