-- `lines::carry_out_lines` meets its contract: the lines from here on say what those from the start say.
use mathlib.Core.Path.{refl, sym, ap, subst, ◌∙◌}
use native.Mathlib.Omega.{arith}
use Rattle.std.specs.Prelude.{Err}
use Rattle.refusals.specs.declared.AtLine.{AtLine}
use Rattle.replay.specs.Replay.{Ending}
use Rattle.replay.specs.ReplayLaws.{replayed, ReachedBy}
use Rattle.bidding.specs.Rule.{done}
use Rattle.replay.proofs.ReplayLines.{Replaying, bids-fit, bad-stops, replaying-starts, replaying-stops, replaying-on, replaying-ends, stopped_up}
use Rattle.replay.proofs.lines.carry_out_lines.Goals as goal

pub loop-at-init : goal.loop-at-init
loop-at-init c = (
  refl,
  subst (Replaying c.args.text.now c.args.next.at c.args.next.line c.args.live.now.board.now c.args.next.at c.args.next.line c.args.live.now.board.now) (sym c.requires.none)
      (replaying-starts c.args.text.now c.args.next.at c.args.next.line _ c.requires.start (subst (ReachedBy c.args.live.now.board.now) c.requires.none c.requires.reached)),
)

pub returns-in_err-line-clause-answers : goal.returns-in_err-line-clause-answers
returns-in_err-line-clause-answers c =
    ap (λ (x : Ending). done (replayed c.loop-at.live.board.now c.loop-at.bids x)) (stopped_up c.from_residual.result c.from_residual.ensures.1)
    ∙ replaying-stops c.loop-at.invariant.1 c.loop-at-test.true (sym c.in_err-line.ensures.none) (ap (λ (s : AtLine). done (replayed c.loop-at.live.board.now c.loop-at.bids (Err s))) c.in_err-line.ensures.err ∙ bad-stops _ _ _) refl

pub returns-in_err-bids-clause-answers : goal.returns-in_err-bids-clause-answers
returns-in_err-bids-clause-answers c =
    ap (λ (x : Ending). done (replayed c.carry_out.new.live.board.now c.loop-at.bids x)) (stopped_up c.from_residual-in_err-bids.result c.from_residual-in_err-bids.ensures.1)
    ∙ replaying-stops c.loop-at.invariant.1 c.loop-at-test.true c.in_ok-line.ensures.ok (c.in_err-bids.ensures.answers _) refl

pub overflow_add-bids : goal.overflow_add-bids
overflow_add-bids c =
    let w = replaying-on c.loop-at.invariant.1 c.loop-at-test.true c.in_ok-line.ensures.ok (c.in_ok-bids.ensures.answers _) refl in omega (arith, bids-fit w.1.reached)

pub overflow_add-n : goal.overflow_add-n
overflow_add-n c =
    let w = c.loop-at.invariant.1 in
    omega (arith, w.few, w.inside, c.requires.text, c.requires.first)

pub loop-at-smaller : goal.loop-at-smaller
loop-at-smaller c = let w = replaying-on c.loop-at.invariant.1 c.loop-at-test.true c.in_ok-line.ensures.ok (c.in_ok-bids.ensures.answers _) refl in omega (arith, w.0, w.1.inside)

pub loop-at-preserved : goal.loop-at-preserved
loop-at-preserved c =
    (c.carry_out.ensures.same_reference ∙ c.loop-at.invariant.0, (replaying-on c.loop-at.invariant.1 c.loop-at-test.true c.in_ok-line.ensures.ok (c.in_ok-bids.ensures.answers _) refl).1)

pub returns-clause-answers : goal.returns-clause-answers
returns-clause-answers c = replaying-ends c.loop-at.invariant.1 (omega (arith, c.loop-at-test.false))
