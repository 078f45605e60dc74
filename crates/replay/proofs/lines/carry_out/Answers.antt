-- `lines::carry_out` meets its contract: a line's form decides which call it is.
use mathlib.Core.Path.{sym, ap, ◌∙◌}
use Rattle.std.specs.Prelude.{Err}
use Rattle.refusals.specs.declared.AtLine.{AtLine}
use Rattle.bidding.specs.Rule.{done}
use Rattle.replay.specs.Replay.{finished}
use Rattle.replay.specs.ReplayLaws.{after_line}
use Rattle.replay.proofs.ReplayForms.{carries-arrival, carries-withdrawal, carries-none}
use Rattle.replay.proofs.ReplayLines.{arrival-says, withdrawal-says, said-at-line}
use Rattle.replay.proofs.lines.carry_out.Goals as goal

pub returns-then-is_record-clause-answers : goal.returns-then-is_record-clause-answers
returns-then-is_record-clause-answers c = λ bids.
    let said = rw (c.as_slice.ensures.value, c.pairs_of-edges.ensures, c.enough.ensures) at c.arrive.ensures.answers in
    said-at-line c.args.n c.arrive.new.self.board.now _ _ bids c.told_at.ensures
    ∙ (arrival-says c.args.n bids said ∙ sym (carries-arrival c.args.line.now finished c.args.n c.args.live.now.board.now bids (sym c.is_record.ensures ∙ c.if-is_record.true)))

pub returns-then-is_record-2-clause-answers : goal.returns-then-is_record-2-clause-answers
returns-then-is_record-2-clause-answers c = λ bids.
    let said = rw c.enough-then-is_record-2.ensures at c.withdraw.ensures.answers in
    said-at-line c.args.n c.withdraw.new.self.board.now _ _ bids c.told_at-then-is_record-2.ensures
    ∙ (withdrawal-says c.args.n bids said ∙ sym (carries-withdrawal c.args.line.now finished c.args.n c.args.live.now.board.now bids (sym c.is_record-2.ensures ∙ c.if-is_record-2.true)))

pub returns-clause-answers : goal.returns-clause-answers
returns-clause-answers c = λ bids.
    ap (λ (s : AtLine). done (after_line bids c.args.live.now.board.now (Err s))) c.malformed.ensures
    ∙ sym (carries-none c.args.line.now finished c.args.n c.args.live.now.board.now bids (sym c.is_record.ensures ∙ c.if-is_record.false) (sym c.is_record-2.ensures ∙ c.if-is_record-2.false))
