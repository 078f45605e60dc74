-- `place_lines::Draft::place` meets its contract: 4, then 7, then what opening refuses.
use mathlib.Core.Path.{sym, ap, ◌∙◌}
use mathlib.Core.List.{List}
use Prim.Native.Nat.{ℕ, ◌≤◌}
use native.Mathlib.Omega.{arith}
use borrow.Author.Rules.{rules}
use lib.ListN.{take}
use Rattle.refusals.specs.Demand1.{first_of}
use Rattle.refusals.proofs.Verdicts.{passed_up}
use Rattle.board.specs.Limits.{max_items}
use Rattle.board.proofs.Tests.{within-decides}
use Rattle.supply.specs.Opening.{open_checks}
use Rattle.replay.proofs.Counting.{counted-few, place-unknown, place-order, place-opens, first-set}
use Rattle.replay.proofs.place_lines.Draft.place.Goals as goal

pub returns-then-not-is_within-clause-verdict : goal.returns-then-not-is_within-clause-verdict
returns-then-not-is_within-clause-verdict c = place-unknown _ _ _ _ _ _ _ (sym c.is_within.ensures.test ∙ c.if-not-is_within.true)

pub returns-then-item-self-clause-verdict : goal.returns-then-item-self-clause-verdict
returns-then-item-self-clause-verdict c = place-order _ _ _ _ _ _ _ (sym c.is_within.ensures.test ∙ c.if-not-is_within.false) c.if-item-self.true

pub offset_bounds-more-item : goal.offset_bounds-more-item
offset_bounds-more-item c = let w = (within-decides _ _).sound (sym c.is_within.ensures.test ∙ c.if-not-is_within.false) in let f : c.args.self.now.items ≤ max_items = counted-few _ _ _ _ c.args.self.now.counted in let g = w.high in search rules

pub bounds-more-item : goal.bounds-more-item
bounds-more-item c = let w = (within-decides _ _).sound (sym c.is_within.ensures.test ∙ c.if-not-is_within.false) in let f : c.args.self.now.items ≤ max_items = counted-few _ _ _ _ c.args.self.now.counted in omega (arith, w.high, w.low)

pub slice_bounds-more-end : goal.slice_bounds-more-end
slice_bounds-more-end c = let f : c.args.self.now.items ≤ max_items = counted-few _ _ _ _ c.args.self.now.counted in search rules

pub slice_bounds-open_verdict-end : goal.slice_bounds-open_verdict-end
slice_bounds-open_verdict-end c = let f : c.args.self.now.items ≤ max_items = counted-few _ _ _ _ c.args.self.now.counted in search rules

pub returns-in_err-open_verdict-clause-verdict : goal.returns-in_err-open_verdict-clause-verdict
returns-in_err-open_verdict-clause-verdict c =
    let a = c.args.self.now in
    let k = c.args.item in
    let w = sym c.is_within.ensures.test ∙ c.if-not-is_within.false in
    passed_up c.from_residual.result c.in_err-open_verdict.was c.from_residual.ensures.1 ∙ (c.open_verdict.ensures
    ∙ (ap (λ (l : List ℕ). first_of (open_checks a.items a.p a.q l)) (first-set a.items k a.counts c.args.places w)
    ∙ place-opens a.items a.p a.q a.low (take a.items a.counts) k c.args.places w c.if-item-self.false))

pub returns-clause-verdict : goal.returns-clause-verdict
returns-clause-verdict c =
    let a = c.args.self.now in
    let k = c.args.item in
    let w = sym c.is_within.ensures.test ∙ c.if-not-is_within.false in
    sym c.in_ok-open_verdict.was ∙ (c.open_verdict.ensures
    ∙ (ap (λ (l : List ℕ). first_of (open_checks a.items a.p a.q l)) (first-set a.items k a.counts c.args.places w)
    ∙ place-opens a.items a.p a.q a.low (take a.items a.counts) k c.args.places w c.if-item-self.false))

pub returns-clause-counts : goal.returns-clause-counts
returns-clause-counts c = first-set c.args.self.now.items c.args.item c.args.self.now.counts c.args.places (sym c.is_within.ensures.test ∙ c.if-not-is_within.false)
