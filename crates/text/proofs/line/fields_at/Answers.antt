-- `line::fields_at` meets its contract: each turn asks the reader for the field at its position. Assumes nothing.
use Rattle.std.proofs.Common.{ℕ, List, Bor, ap, ◌∙◌, sym, arith}
use Rattle.text.proofs.Fields.{gathered_none, gathered-more, gathered-past, gathered-closed, falls, field_read, field_none}
use Rattle.text.proofs.line.fields_at.Goals as goal
use Rattle.text.proofs.line.fields_at.Goals.{then-count-lt-KEPT, else-count-lt-KEPT}

pub loop-number-init : goal.loop-number-init
loop-number-init c = (ap (λ (b : Bor (List ℕ)). b.now) c.new-reader.ensures.text, rw c.new-reader.ensures.at (gathered_none c.args.text.now c.args.at c.args.letter))

pub loop-number-smaller : goal.loop-number-smaller
loop-number-smaller c =
    let e = rw c.loop-number.invariant.0 at (field_read _ _ _ _ c.in-Some.ensures.number c.in-Some.ensures.at) in
    omega (arith, falls c.args.text.now c.loop-number.reader.at c.in-Some.number c.next_field.new.self.at e)

pub loop-number-preserved : goal.loop-number-preserved
loop-number-preserved c =
    let i = c.loop-number.invariant in
    let t = ap (λ (b : Bor (List ℕ)). b.now) c.in-Some.ensures.text ∙ i.0 in
    let e = rw i.0 at (field_read _ _ _ _ c.in-Some.ensures.number c.in-Some.ensures.at) in
    elim c.if-count-lt-KEPT.branch [
      | then-count-lt-KEPT w ↦ (t, rw w.numbers-is (gathered-more i.1 _ _ e))
      | else-count-lt-KEPT w ↦ (t, rw w.numbers-is (gathered-past i.1 _ _ e w.if-count-lt-KEPT.false))
    ]

pub returns-clause-line : goal.returns-clause-line
returns-clause-line c =
    let i = c.loop-number.invariant in
    let n = field_none _ _ _ c.in_default.ensures.number c.in_default.ensures.at in
    rw n.1 (gathered-closed i.1 (rw n.1 at (sym c.byte_at.ensures ∙ c.if-byte_at-ne-NEWLINE.false)))
