-- `place_lines::pass_places` meets its contract: the lines from here on say what those from the start say.
use mathlib.Core.Path.{refl, sym, ◌∙◌}
use native.Mathlib.Omega.{arith}
use Rattle.replay.proofs.ReplayLines.{placing-starts, placing-rest, placing-past, placing-stops, placing-on}
use Rattle.replay.proofs.place_lines.pass_places.Goals as goal

pub loop-at-init : goal.loop-at-init
loop-at-init c =
    let a = c.args in
    let o = a.opening.now in
    (refl, refl, refl, rw (c.requires.low, c.requires.counts) (placing-starts a.text.now a.start o.items o.p o.q c.requires.start (rw (c.requires.counts) at o.counted)))

pub returns-in_default-clause-ok : goal.returns-in_default-clause-ok
returns-in_default-clause-ok c =
    let i = c.loop-at.invariant in
    rw (← i.0, ← i.1, ← i.2) (placing-rest i.3 c.loop-at-test.true c.in_default.ensures.line refl)

pub returns-then-not-is_record-clause-ok : goal.returns-then-not-is_record-clause-ok
returns-then-not-is_record-clause-ok c =
    let i = c.loop-at.invariant in
    rw (← i.0, ← i.1, ← i.2) (placing-rest i.3 c.loop-at-test.true c.in-Some.ensures.line (sym c.is_record.ensures ∙ c.if-not-is_record.true))

pub returns-in-Err-clause-err : goal.returns-in-Err-clause-err
returns-in-Err-clause-err c =
    let i = c.loop-at.invariant in
    rw (c.place.ensures.items, c.place.ensures.slack.0, c.place.ensures.slack.1, c.in-Err.ensures.err, c.at_line.ensures, ← i.0, ← i.1, ← i.2)
    (placing-stops i.3 c.loop-at-test.true c.in-Some.ensures.line (sym c.is_record.ensures ∙ c.if-not-is_record.false) c.place.ensures.verdict c.in-Err.is)

pub loop-at-smaller : goal.loop-at-smaller
loop-at-smaller c =
    let w = placing-on c.loop-at.invariant.3 c.loop-at-test.true c.in-Some.ensures.line (sym c.is_record.ensures ∙ c.if-not-is_record.false) c.place.ensures.verdict c.in_default-place.is in
    omega (arith, w.0, w.1.inside)

pub loop-at-preserved : goal.loop-at-preserved
loop-at-preserved c =
    let i = c.loop-at.invariant in
    let w = placing-on i.3 c.loop-at-test.true c.in-Some.ensures.line (sym c.is_record.ensures ∙ c.if-not-is_record.false) c.place.ensures.verdict c.in_default-place.is in (
      c.place.ensures.items ∙ i.0,
      c.place.ensures.slack.0 ∙ i.1,
      c.place.ensures.slack.1 ∙ i.2,
      rw (c.place.ensures.items, c.place.ensures.slack.0, c.place.ensures.slack.1, c.in_default-place.ensures.low, c.in_default-place.ensures.counts) w.1,
    )

pub returns-clause-ok : goal.returns-clause-ok
returns-clause-ok c =
    let i = c.loop-at.invariant in
    rw (← i.0, ← i.1, ← i.2) (placing-past i.3 (omega (arith, c.loop-at-test.false)))
