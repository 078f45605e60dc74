-- `verdict::plan_verdict_on` meets its contract: what is served is a plan on the live sheet.
use mathlib.Core.Path.{sym, ◌∙◌}
use Rattle.matching.specs.Plans.{PlanOn}
use Rattle.matching.proofs.Clashes.{unclashed-matches}
use Rattle.comparison.proofs.Outcomes.{on_served}
use Rattle.comparison.proofs.verdict.plan_verdict_on.Goals as goal

pub returns-clause-plan : goal.returns-clause-plan
returns-clause-plan c =
    let size = c.if-plan-bidders.false ∙ c.bidders.ensures in
    on_served {P = PlanOn c.args.sheet.now c.args.plan.now} _ (λ was. record { size = size; matches = (unclashed-matches _ _ _ _ _).0 (rw size at (sym c.plan_verdict.ensures.verdict ∙ was)) })
