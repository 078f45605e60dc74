-- `withdraw::withdraw` meets its contract.
use mathlib.Core.Path.{sym, ◌∙◌}
use Rattle.auction.proofs.CallVerdicts.{withdraw-spoilt}
use Rattle.auction.proofs.withdraw.withdraw.Goals as goal

pub returns-then-not-is_sound-clause-answers : goal.returns-then-not-is_sound-clause-answers
returns-then-not-is_sound-clause-answers c = sym (withdraw-spoilt _ _ (sym c.is_sound.ensures.test ∙ c.if-not-is_sound.true))

pub withdraw_in-requires-clause-sound : goal.withdraw_in-requires-clause-sound
withdraw_in-requires-clause-sound c = c.is_sound.ensures.sound.0 c.if-not-is_sound.false
