-- The board that is kept is sound.
use Rattle.auction.proofs.Sounding.{sound_if}
use Rattle.auction.proofs.live.Live.arrive.Goals as goal

pub arrive_in-requires-clause-sound : goal.arrive_in-requires-clause-sound
arrive_in-requires-clause-sound c = sound_if c.args.self.now.sound
