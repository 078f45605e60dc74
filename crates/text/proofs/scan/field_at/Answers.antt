-- `scan::field_at` meets its contract. Assumes nothing.
use Rattle.std.proofs.Common.{◌≡◌, [], ◌≤◌, arith, length, ◌∙◌}
use Rattle.text.specs.Number.{digits, field_at}
use Rattle.text.proofs.Numbers.{digits-none, digits-some, digits-short, range-drop, past, too_long, all-read}
use Rattle.text.proofs.scan.field_at.Goals as goal
use Rattle.text.proofs.scan.field_at.Goals.{in_default, in_default-2, in_default-3}

pub returns-in_err-start : goal.returns-in_err-start
returns-in_err-start c = c.from_residual.ensures ∙ past c.args.text.now c.args.at (omega (arith, c.in_err-start.ensures.lookup))

pub returns-then-count-eq-MAX_DIGITS : goal.returns-then-count-eq-MAX_DIGITS
unfolding field_at
returns-then-count-eq-MAX_DIGITS c =
    let l = c.loop-rest.rest.now in
    let h : 1 ≤ length (digits l) = digits-some l (omega arith) (omega arith) in
    rw (← range-drop c.args.text.now c.args.at, ← c.in_ok-start.ensures.lookup.0.2) (too_long c.args.at (digits c.in_ok-start.start.now) (omega (arith, c.loop-rest.invariant.all)))

pub returns : goal.returns
unfolding field_at
returns c =
    let l = c.loop-rest.rest.now in
    let end : digits l ≡ [] = elim c.if-rest-lt1.branch [
      | in_default w ↦ digits-short l w.in_default.len_below
      | in_default-2 w ↦ digits-none l (λ a b. omega arith)
      | in_default-3 w ↦ digits-none l (λ a b. omega arith)
    ] in
    let v = rw end at c.loop-rest.invariant.worth in
    let n = rw end at c.loop-rest.invariant.all in
    rw (c.then_some.ensures, c.is_number.ensures, c.byte_at.ensures, ← range-drop c.args.text.now c.args.at, ← c.in_ok-start.ensures.lookup.0.2)
    (all-read c.args.at c.in_ok-start.start.now c.loop-rest.number c.loop-rest.count v (omega (arith, n)))
