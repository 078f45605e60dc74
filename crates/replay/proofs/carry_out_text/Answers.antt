-- `carry_out_text` meets its contract.
use mathlib.Core.Path.{◌≡◌, refl, sym, subst, ◌∙◌}
use mathlib.Core.Bool.{true}
use Prim.Native.Nat.{ℕ, suc, ◌≤◌}
use mathlib.Core.List.{List}
use lib.ListN.{length, take}
use Rattle.std.specs.Prelude.{Result, Ok, Err, IfOk, IfErr, get_or}
use Rattle.supply.specs.declared.record.Board.{Board}
use Rattle.refusals.specs.declared.Refusal.{Refusal}
use Rattle.text.specs.declared.line.Line.{Line}
use Rattle.text.specs.Line.{line_at}
use Rattle.board.specs.Limits.{max_text}
use Rattle.replay.specs.declared.place_lines.Draft.{Draft}
use Rattle.replay.specs.Counted.{Counted}
use Rattle.replay.proofs.ReplayForms.{is_opening}
use Rattle.refusals.specs.Demand1.{first_of}
use Rattle.supply.specs.Opening.{open_checks}
use Rattle.replay.specs.Replay.{ones, place_lines, replay_of}
use Rattle.replay.specs.ReplayLaws.{ReachedBy}
use Rattle.replay.proofs.Counting.{counted-reached}
use Rattle.replay.proofs.ReplayLines.{replay-long, replay-none, replay-inside, replay-opened, replay-refused, stopped_up, served-before, refused-before}
use Rattle.replay.proofs.carry_out_text.Goals as goal

pub returns-then-text-gt-MAX_TEXT : goal.returns-then-text-gt-MAX_TEXT
returns-then-text-gt-MAX_TEXT c = rw (c.requires.blank, c.requires.none) (replay-long _ c.if-text-gt-MAX_TEXT.true)

pub returns-in_err-line : goal.returns-in_err-line
returns-in_err-line c =
    rw (c.requires.blank, c.requires.none, stopped_up c.from_residual.result c.from_residual.ensures.1, c.in_err-line.ensures.err)
    (replay-none _ c.if-text-gt-MAX_TEXT.false (sym c.in_err-line.ensures.none) refl)

pub returns-then-not-is_record : goal.returns-then-not-is_record
returns-then-not-is_record c =
    rw (c.requires.blank, c.requires.none, c.malformed.ensures)
    (replay-none _ c.if-text-gt-MAX_TEXT.false c.in_ok-line.ensures.ok (sym c.is_record.ensures ∙ c.if-not-is_record.true))

pub pass_places-passed-requires-clause-start : goal.pass_places-passed-requires-clause-start
pass_places-passed-requires-clause-start c = replay-inside _ c.if-text-gt-MAX_TEXT.false c.in_ok-line.ensures.ok (sym c.is_record.ensures ∙ c.if-not-is_record.false)

pub replay_lines-requires-clause-reached : goal.replay_lines-requires-clause-reached
replay_lines-requires-clause-reached c = subst (λ (b : Board). ReachedBy b 0) (sym c.open.ensures) (counted-reached _ _ _ _ c.pass_places-passed.new.opening.counted)

-- The lines after a first one that opens
module _ (s : List ℕ) (l : Line) (o : Draft) (a : Result Draft Refusal) (h : length s ≤ max_text) (e : l ≡ line_at s 0) (t : is_opening l ≡ true) (f : a ≡ Ok o) where
  opened-text : IfOk a (λ o. (o.items ≡ get_or l.numbers 0 0) × (o.p ≡ get_or l.numbers 1 0) × (o.q ≡ get_or l.numbers 2 0)) →
      IfOk a (λ o. (o.low ≡ 0) × (take (get_or l.numbers 0 0) o.counts ≡ ones (get_or l.numbers 0 0))) →
      place_lines (suc (length s)) s l.next 2 o.items o.p o.q 0 (ones o.items) ≡ replay_of s
  opened-text x y =
      let u = subst (λ a. IfOk a (λ o. (o.items ≡ get_or l.numbers 0 0) × (o.p ≡ get_or l.numbers 1 0) × (o.q ≡ get_or l.numbers 2 0))) f x in
      let v = subst (λ a. IfOk a (λ o. (o.low ≡ 0) × (take (get_or l.numbers 0 0) o.counts ≡ ones (get_or l.numbers 0 0)))) f y in
      let k : Counted o.items o.p o.q (take o.items o.counts) = o.counted in
      let n = rw (u.0, u.1, u.2, v.1) at k in
      rw (u.0, u.1, u.2) (replay-opened s h e t refl n)

pub returns-in_err-opening : goal.returns-in_err-opening
returns-in_err-opening c =
    let l = c.in_ok-line.line in
    let f = refused-before 1 c.new.result c.in_err-opening.field-0.0 c.in_err-opening.ensures in
    let e = subst (λ a. IfErr a (λ r. first_of (open_checks (get_or l.numbers 0 0) (get_or l.numbers 1 0) (get_or l.numbers 2 0) (ones (get_or l.numbers 0 0))) ≡ Err r)) f.1 c.new.ensures.err in
    rw (c.requires.blank, c.requires.none, stopped_up c.from_residual-in_err-opening.result c.from_residual-in_err-opening.ensures.1, f.2)
    (replay-refused _ c.if-text-gt-MAX_TEXT.false c.in_ok-line.ensures.ok (sym c.is_record.ensures ∙ c.if-not-is_record.false) refl e)

pub returns-in_err-passed : goal.returns-in_err-passed
returns-in_err-passed c =
    let r = opened-text c.args.text.now c.in_ok-line.line c.in_ok-opening.opening c.new.result c.if-text-gt-MAX_TEXT.false c.in_ok-line.ensures.ok (sym c.is_record.ensures ∙ c.if-not-is_record.false)
    (served-before 1 c.new.result c.in_ok-opening.opening c.in_ok-opening.ensures) c.new.ensures.slack c.new.ensures.counts in
    rw (c.requires.none, stopped_up c.from_residual-in_err-passed.result c.from_residual-in_err-passed.ensures.1, c.open.ensures) (c.in_err-passed.ensures.err ∙ r)

pub returns : goal.returns
returns c =
    let r = opened-text c.args.text.now c.in_ok-line.line c.in_ok-opening.opening c.new.result c.if-text-gt-MAX_TEXT.false c.in_ok-line.ensures.ok (sym c.is_record.ensures ∙ c.if-not-is_record.false)
    (served-before 1 c.new.result c.in_ok-opening.opening c.in_ok-opening.ensures) c.new.ensures.slack c.new.ensures.counts in
    let w = c.replay_lines.ensures in
    (rw c.open.ensures at w) ∙ (c.in_ok-passed.ensures.ok ∙ r)
