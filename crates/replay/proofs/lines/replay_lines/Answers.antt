-- `lines::replay_lines` meets its contract.
use Rattle.auction.proofs.Histories.{counted}
use Rattle.replay.proofs.lines.replay_lines.Goals as goal

pub new-live-requires : goal.new-live-requires
new-live-requires c = (counted c.requires.reached.1).sound
