-- `answers::ending_told` meets its contract.
use mathlib.Core.Path.{sym, ap, ◌∙◌}
use Rattle.replay.specs.TextDemand1.{ending_told}
use Rattle.exports.proofs.answers.ending_told.Goals as goal

pub returns-in-Ok : goal.returns-in-Ok
returns-in-Ok c = c.serving.ensures ∙ ap (λ e. ending_told e c.args.bids) (sym c.in-Ok.is)

pub returns-in-Err : goal.returns-in-Err
returns-in-Err c = c.stopping.ensures ∙ ap (λ e. ending_told e c.args.bids) (sym c.in-Err.is)
