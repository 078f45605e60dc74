-- The board that is kept is sound.
use Rattle.auction.proofs.Sounding.{sound_if}
use Rattle.auction.proofs.live.Live.withdraw.Goals as goal

pub withdraw_in-requires-clause-sound : goal.withdraw_in-requires-clause-sound
withdraw_in-requires-clause-sound c = sound_if c.args.self.now.sound
