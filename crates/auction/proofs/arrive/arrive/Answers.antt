-- `arrive::arrive` meets its contract.
use mathlib.Core.Path.{sym, ◌∙◌}
use Rattle.auction.proofs.CallVerdicts.{arrive-spoilt}
use Rattle.auction.proofs.arrive.arrive.Goals as goal

pub returns-then-not-is_sound-clause-answers : goal.returns-then-not-is_sound-clause-answers
returns-then-not-is_sound-clause-answers c = sym (arrive-spoilt _ _ (sym c.is_sound.ensures.test ∙ c.if-not-is_sound.true))

pub arrive_in-requires-clause-sound : goal.arrive_in-requires-clause-sound
arrive_in-requires-clause-sound c = c.is_sound.ensures.sound.0 c.if-not-is_sound.false
