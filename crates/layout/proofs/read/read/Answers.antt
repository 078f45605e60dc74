-- `read::read` meets its contract.
use Rattle.std.proofs.Common.{◌≤◌, length, arith, ap, sym, ◌∙◌}
use lib.ListN.{length-drop}
use Rattle.board.specs.Limits.{max_bidders}
use Rattle.layout.specs.Limits.{line_bytes}
use Rattle.layout.proofs.Fronts.{heading-bytes, next-bytes}
use Rattle.layout.proofs.Seen.{some-left, not-full, Due, heading-fails, heading-passes, going-plain, headed-due, going-unheaded, due-fails, due-passes}
use Rattle.layout.proofs.read.read.Goals as goal
use Rattle.layout.proofs.read.read.Goals.{then-breaks_after+in-Some-strip_prefix, else-breaks_after}

pub returns-in_default : goal.returns-in_default
returns-in_default c = heading-fails c.args.text.now (rw heading-bytes at c.in_default.ensures.cases)

pub loop-rest-init : goal.loop-rest-init
loop-rest-init c =
    let h = c.in-Some.ensures.cases in
    rw (c.new-rows.ensures, h.1) (heading-passes c.args.text.now (rw heading-bytes at h.0))

pub returns-in_default-strip_prefix : goal.returns-in_default-strip_prefix
returns-in_default-strip_prefix c =
    let b = sym c.breaks_after.ensures ∙ c.if-breaks_after.true in
    let m = not-full (length c.loop-rest.rows.items) max_bidders c.if-is_full.ensures.value c.if-is_full.ensures.fits in
    let k = some-left (length c.loop-rest.rest.now) c.loop-rest-test.ensures in
    going-unheaded c.loop-rest.invariant k m (rw c.len-i.ensures.value at b) (rw next-bytes at c.in_default-strip_prefix.ensures.cases)

pub returns-in_default-split_row : goal.returns-in_default-split_row
returns-in_default-split_row c =
    let n = c.len-i.ensures.value in
    let b = sym c.breaks_after.ensures in
    let m = not-full (length c.loop-rest.rows.items) max_bidders c.if-is_full.ensures.value c.if-is_full.ensures.fits in
    let k = some-left (length c.loop-rest.rest.now) c.loop-rest-test.ensures in
    let d : Due c.args.text.now c.if-breaks_after.rest.now c.loop-rest.rows.items c.if-breaks_after.lines = elim c.if-breaks_after.branch [
      | then-breaks_after+in-Some-strip_prefix w ↦
          let h = w.in-Some-strip_prefix.ensures.cases in
          rw (w.rest-is, w.lines-is) (headed-due _ c.loop-rest.invariant k m (rw n at (b ∙ w.if-breaks_after.true)) (rw next-bytes at h.0) h.1)
      | else-breaks_after w ↦ rw (w.rest-is, w.lines-is) (going-plain c.loop-rest.invariant k m (rw n at (b ∙ w.if-breaks_after.false)))
    ] in
    due-fails d (rw n at c.in_default-split_row.ensures)

pub loop-rest-smaller : goal.loop-rest-smaller
loop-rest-smaller c =
    let k = some-left (length c.loop-rest.rest.now) c.loop-rest-test.ensures in
    let r : length c.if-breaks_after.rest.now ≤ length c.loop-rest.rest.now = elim c.if-breaks_after.branch [
      | then-breaks_after+in-Some-strip_prefix w ↦ rw w.rest-is (omega (arith, w.in-Some-strip_prefix.ensures.cases.2))
      | else-breaks_after w ↦ rw w.rest-is (omega arith)
    ] in
    omega (arith, ap length c.in-Some-split_row.ensures.after, length-drop line_bytes c.if-breaks_after.rest.now)

pub loop-rest-preserved : goal.loop-rest-preserved
loop-rest-preserved c =
    let n = c.len-i.ensures.value in
    let b = sym c.breaks_after.ensures in
    let m = not-full (length c.loop-rest.rows.items) max_bidders c.if-is_full.ensures.value c.if-is_full.ensures.fits in
    let k = some-left (length c.loop-rest.rest.now) c.loop-rest-test.ensures in
    let d : Due c.args.text.now c.if-breaks_after.rest.now c.loop-rest.rows.items c.if-breaks_after.lines = elim c.if-breaks_after.branch [
      | then-breaks_after+in-Some-strip_prefix w ↦
          let h = w.in-Some-strip_prefix.ensures.cases in
          rw (w.rest-is, w.lines-is) (headed-due _ c.loop-rest.invariant k m (rw n at (b ∙ w.if-breaks_after.true)) (rw next-bytes at h.0) h.1)
      | else-breaks_after w ↦ rw (w.rest-is, w.lines-is) (going-plain c.loop-rest.invariant k m (rw n at (b ∙ w.if-breaks_after.false)))
    ] in
    rw c.push.ensures.items (due-passes d (rw n at c.in-Some-split_row.ensures))
