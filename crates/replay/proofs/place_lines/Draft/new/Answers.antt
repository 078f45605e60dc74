-- `place_lines::Draft::new` meets its contract.
use mathlib.Core.Path.{refl, sym, ap, ◌∙◌}
use mathlib.Core.List.{List}
use Prim.Native.Nat.{ℕ, ◌≤◌}
use borrow.Author.Rules.{rules}
use Rattle.refusals.specs.Demand1.{first_of}
use Rattle.refusals.proofs.Verdicts.{refused_up}
use Rattle.board.specs.Limits.{max_items}
use Rattle.board.proofs.Tests.{within-decides}
use Rattle.supply.specs.Opening.{open_checks}
use Rattle.replay.proofs.Counting.{first-ones}
use Rattle.replay.proofs.place_lines.Draft.new.Goals as goal

pub slice_bounds-open_verdict-end : goal.slice_bounds-open_verdict-end
slice_bounds-open_verdict-end c =
    let few : c.args.items ≤ max_items = ((within-decides _ _).sound (sym c.is_within.ensures.test ∙ c.if-not-is_within.false)).high in search rules

pub returns-in_err-open_verdict-clause-err : goal.returns-in_err-open_verdict-clause-err
returns-in_err-open_verdict-clause-err c =
    let a = c.args in
    let few = ((within-decides _ _).sound (sym c.is_within.ensures.test ∙ c.if-not-is_within.false)).high in
    rw (refused_up c.from_residual.result c.from_residual.ensures.1)
    (ap (λ (l : List ℕ). first_of (open_checks a.items a.p a.q l)) (sym (first-ones a.items max_items few)) ∙ sym c.open_verdict.ensures ∙ c.in_err-open_verdict.was)

pub returns-clause-counts : goal.returns-clause-counts
returns-clause-counts c =
    (refl, first-ones c.args.items max_items ((within-decides _ _).sound (sym c.is_within.ensures.test ∙ c.if-not-is_within.false)).high)
