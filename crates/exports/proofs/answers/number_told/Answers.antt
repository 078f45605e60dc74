-- `answers::number_told` meets its contract.
use mathlib.Core.Path.{sym, ap, ◌∙◌}
use Rattle.auction.specs.Arrive.{arrived_told}
use Rattle.auction.specs.Withdraw.{withdrawn_told}
use Rattle.page.specs.Writing.{written_told}
use Rattle.page.specs.Reading.{read_told}
use Rattle.exports.proofs.answers.number_told.Goals as goal

pub returns-in-Ok-clause-arrived : goal.returns-in-Ok-clause-arrived
returns-in-Ok-clause-arrived c = c.serving.ensures ∙ ap arrived_told (sym c.in-Ok.is)

pub returns-in-Err-clause-arrived : goal.returns-in-Err-clause-arrived
returns-in-Err-clause-arrived c = c.refusing.ensures ∙ ap arrived_told (sym c.in-Err.is)

pub returns-in-Ok-clause-withdrawn : goal.returns-in-Ok-clause-withdrawn
returns-in-Ok-clause-withdrawn c = c.serving.ensures ∙ ap withdrawn_told (sym c.in-Ok.is)

pub returns-in-Err-clause-withdrawn : goal.returns-in-Err-clause-withdrawn
returns-in-Err-clause-withdrawn c = c.refusing.ensures ∙ ap withdrawn_told (sym c.in-Err.is)

pub returns-in-Ok-clause-written : goal.returns-in-Ok-clause-written
returns-in-Ok-clause-written c = c.serving.ensures ∙ ap written_told (sym c.in-Ok.is)

pub returns-in-Err-clause-written : goal.returns-in-Err-clause-written
returns-in-Err-clause-written c = c.refusing.ensures ∙ ap written_told (sym c.in-Err.is)

pub returns-in-Ok-clause-read : goal.returns-in-Ok-clause-read
returns-in-Ok-clause-read c = c.serving.ensures ∙ ap read_told (sym c.in-Ok.is)

pub returns-in-Err-clause-read : goal.returns-in-Err-clause-read
returns-in-Err-clause-read c = c.refusing.ensures ∙ ap read_told (sym c.in-Err.is)
