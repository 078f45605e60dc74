-- `insert` meets its contract: the tree starts from the root alone, and what it leaves, once adjusted, is settled.
use Rattle.hungarian.proofs.Inserting.{first-tree, tree-adjustable, root-room, inserted}
use Rattle.hungarian.proofs.solver.insert.Goals as goal

pub bidder_step-requires-clause-start : goal.bidder_step-requires-clause-start
bidder_step-requires-clause-start c =
    first-tree c.requires.light c.requires.bidder c.requires.settled c.rooted-search.ensures.sized c.rooted-search.ensures.sprout

pub adjust-requires : goal.adjust-requires
adjust-requires c = tree-adjustable c.requires.light c.requires.bidder c.requires.settled c.rooted-search.ensures.sprout c.bidder_step.ensures

pub overflow_sub-settled : goal.overflow_sub-settled
overflow_sub-settled c =
    root-room c.requires.light c.requires.bidder c.requires.settled c.rooted-search.ensures.sprout c.bidder_step.ensures c.adjust.ensures

pub returns : goal.returns
returns c =
    inserted c.requires.light c.requires.bidder c.requires.settled c.rooted-search.ensures.sprout c.bidder_step.ensures c.adjust.ensures
