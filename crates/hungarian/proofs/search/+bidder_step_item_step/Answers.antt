-- `bidder_step` and `item_step` meet their contracts.
use mathlib.Core.Path.{ap}
use native.Mathlib.Omega.{arith}
use Rattle.hungarian.specs.Tree.{unvisited}
use Rattle.hungarian.proofs.Cells.{held_by_lem}
use Rattle.hungarian.proofs.InTree.{all-low}
use Rattle.hungarian.proofs.Growing.{bidder-inside, bidder-fits, bidder-dear, item-met, bidder-released, bidder-onward}
use Rattle.hungarian.proofs.ItemsLeft.{one_fewer}
use Rattle.hungarian.proofs.Visiting.{parent-near, item-taken, fewer-left, holder-met, item-shifted, item-passed}
use Rattle.hungarian.proofs.search.+bidder_step_item_step.Goals as goal

pub bidder_step-offset_bounds-cover-bidder : goal.bidder_step-offset_bounds-cover-bidder
bidder_step-offset_bounds-cover-bidder t c = omega (arith, (bidder-fits c.requires.start).near)

pub bidder_step-bounds-cover-bidder : goal.bidder_step-bounds-cover-bidder
bidder_step-bounds-cover-bidder t c = (bidder-fits c.requires.start).near

pub bidder_step-overflow_add-level : goal.bidder_step-overflow_add-level
bidder_step-overflow_add-level t c =
    let s = c.requires.start in
    omega (arith, all-low s.inserting c.args.bidder (bidder-inside s), s.grown.below, s.grown.most)

pub bidder_step-reach-requires-clause-fits : goal.bidder_step-reach-requires-clause-fits
bidder_step-reach-requires-clause-fits t c = bidder-fits c.requires.start

pub bidder_step-reach-requires-clause-dear : goal.bidder_step-reach-requires-clause-dear
bidder_step-reach-requires-clause-dear t c = bidder-dear c.requires.start

pub bidder_step-returns-then-search-eq-ITEMS : goal.bidder_step-returns-then-search-eq-ITEMS
bidder_step-returns-then-search-eq-ITEMS t c = bidder-released c.requires.start c.reach.ensures.looked c.if-search-eq-ITEMS.true

pub bidder_step-item_step-requires : goal.bidder_step-item_step-requires
bidder_step-item_step-requires t c =
    let looked = c.reach.ensures.looked in
    let next = c.reach.ensures.next c.if-search-eq-ITEMS.false in (
      omega (arith, c.decreases, ap unvisited looked.visited),
      (item-met c.requires.start looked c.if-search-eq-ITEMS.false, (rw (looked.visited, c.reach.ensures.left) c.requires.remains, (next.0, next.1))),
    )

pub bidder_step-returns : goal.bidder_step-returns
bidder_step-returns t c = bidder-onward c.requires.start c.reach.ensures.looked c.item_step.ensures

pub item_step-give-requires-clause-parent : goal.item_step-give-requires-clause-parent
item_step-give-requires-clause-parent t c = parent-near c.requires.start

pub item_step-returns-then-held-eq0 : goal.item_step-returns-then-held-eq0
item_step-returns-then-held-eq0 t c =
    let e = c.give.ensures in
    rw (e.holders, e.front, e.visited, e.edges) (item-taken c.requires.start c.if-held-eq0.true)

pub item_step-bidder_step-requires : goal.item_step-bidder_step-requires
item_step-bidder_step-requires t c =
    let s = c.requires in
    let held = held_by_lem c.if-held-eq0.false in (
      omega (arith, c.decreases, fewer-left s.start held),
      (
        rw c.from.ensures (holder-met s.start held),
        rw (c.remove.ensures.items, c.remove.ensures.count) (one_fewer s.remains s.cell s.next s.start.sized.visited),
      ),
    )

pub item_step-give-requires-then-search-holder-clause-parent : goal.item_step-give-requires-then-search-holder-clause-parent
item_step-give-requires-then-search-holder-clause-parent t c = parent-near c.requires.start

pub item_step-returns-then-search-holder : goal.item_step-returns-then-search-holder
item_step-returns-then-search-holder t c =
    let e = c.give-then-search-holder.ensures in
    rw (e.holders, e.front, e.visited, e.edges)
    (item-shifted c.requires.start (held_by_lem c.if-held-eq0.false) c.bidder_step.ensures c.if-search-holder.true)

pub item_step-returns-else-search-holder : goal.item_step-returns-else-search-holder
item_step-returns-else-search-holder t c =
    item-passed c.requires.start (held_by_lem c.if-held-eq0.false) c.bidder_step.ensures c.if-search-holder.false
