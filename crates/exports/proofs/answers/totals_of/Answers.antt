-- `answers::totals_of` meets its contract.
use mathlib.Core.Path.{sym, ap, ◌∙◌}
use Rattle.certificate.specs.Check.{without_totals, checked_told}
use Rattle.exports.proofs.answers.totals_of.Goals as goal

pub returns-in-Ok : goal.returns-in-Ok
returns-in-Ok c = ap checked_told (sym c.in-Ok.is)

pub returns-in-Err : goal.returns-in-Err
returns-in-Err c = ap without_totals c.refusing-refused.ensures ∙ ap checked_told (sym c.in-Err.is)
