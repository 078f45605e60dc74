-- `plans::noughtelm_exact` meets its contract.
use Rattle.exports.proofs.plans.noughtelm_exact.Goals as goal

pub returns : goal.returns
returns c = record { answer = c.exact.result; outcome = c.exact.ensures.outcome; tells = c.weight_told.ensures.exact }
