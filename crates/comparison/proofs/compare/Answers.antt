-- `compare` meets its contract: the first refusal that is met, or the difference and the order of two plans.
use mathlib.Core.Path.{◌≡◌, sym, ◌∙◌}
use mathlib.Core.Bool.{true}
use native.Mathlib.Omega.{arith}
use Rattle.refusals.specs.Demand1.{first_of}
use Rattle.refusals.proofs.Verdicts.{first_stops, refused_up}
use Rattle.supply.specs.Sound.{Sound}
use Rattle.supply.specs.SoundTest.{sound_test}
use Rattle.matching.proofs.Plans.{plans-within}
use Rattle.comparison.specs.Compare.{compare_by, compare_of, plan_checks_on, plans_checks}
use Rattle.comparison.proofs.compare.Goals as goal

pub returns-in_err-plan_verdict_on : goal.returns-in_err-plan_verdict_on
unfolding compare_of compare_by plans_checks first_of
returns-in_err-plan_verdict_on c =
    let b = c.args.board.now in
    let sound : sound_test b ≡ true = sym c.is_sound.ensures.test ∙ c.if-not-is_sound.false in
    let verdict = rw c.of-sheet.ensures at c.plan_verdict_on.ensures.verdict in
    let stops = first_stops (plan_checks_on b c.args.first.now) (plan_checks_on b c.args.second.now) _ (sym verdict ∙ c.in_err-plan_verdict_on.was) in
    rw (sound, stops) (refused_up c.from_residual.result c.from_residual.ensures.1)

pub difference-requires-clause-first : goal.difference-requires-clause-first
difference-requires-clause-first c =
    let sound : Sound c.of-sheet.result = rw c.of-sheet.ensures (c.is_sound.ensures.sound.0 c.if-not-is_sound.false) in
    let plan = c.in_ok-plan_verdict_on.ensures.plan in
    omega (arith, rw plan.size at c.plan_weight-weight.ensures, plans-within _ _ sound plan)

pub difference-requires-clause-second : goal.difference-requires-clause-second
difference-requires-clause-second c =
    let sound : Sound c.of-sheet.result = rw c.of-sheet.ensures (c.is_sound.ensures.sound.0 c.if-not-is_sound.false) in
    let plan = c.in_ok-plan_verdict_on-2.ensures.plan in
    omega (arith, rw plan.size at c.plan_weight-other.ensures, plans-within _ _ sound plan)
