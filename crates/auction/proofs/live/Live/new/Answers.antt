-- A sound board passes the test.
use Rattle.supply.proofs.SoundLaw.{sound-decides}
use Rattle.auction.proofs.live.Live.new.Goals as goal

pub of-floors-requires : goal.of-floors-requires
of-floors-requires c = record { items = c.requires.auction.items.1; slack = c.requires.auction.slack.below }

pub invariant_of-result : goal.invariant_of-result
invariant_of-result c = record { sound = (sound-decides c.args.board.now).complete c.requires; floored = c.of-floors.ensures }
