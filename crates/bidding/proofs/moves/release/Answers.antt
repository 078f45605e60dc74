-- `moves::release` meets its contract: the items leave, and then those who held one bid.
use mathlib.Core.Path.{◌∙◌}
use Rattle.bidding.proofs.Marks.{marked-wait}
use Rattle.bidding.proofs.Withdrawing.{marked-chains}
use Rattle.bidding.proofs.moves.release.Goals as goal

pub vacate-waiting-requires : goal.vacate-waiting-requires
vacate-waiting-requires c = (c.args.weights.now, c.requires.sound, c.requires.listed)

pub of-requires : goal.of-requires
of-requires c =
    let w = marked-wait c.requires.sound c.requires.listed (c.vacate-waiting.ensures c.args.weights.now c.requires.sound) in
    record { items = w.items.1; slack = w.slack.below }

pub settle_all-requires : goal.settle_all-requires
settle_all-requires c = record { waiting = marked-wait c.requires.sound c.requires.listed (c.vacate-waiting.ensures c.args.weights.now c.requires.sound); floored = c.of.ensures }

pub returns : goal.returns
returns c = record {
  withdrawn = c.settle_all.ensures.chains ∙ marked-chains c.requires.sound c.requires.listed (c.vacate-waiting.ensures c.args.weights.now c.requires.sound);
  floored = c.settle_all.ensures.floored;
}
