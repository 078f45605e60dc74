-- `sound::passes` meets its contract: what the tests said that were passed.
use mathlib.Core.Path.{sym, ◌∙◌}
use Rattle.board.proofs.SoundLaw as engine
use Rattle.supply.specs.Board.{auction_of}
use Rattle.supply.proofs.SoundLaw.{laid-decides}
use Rattle.supply.proofs.sound.passes.Goals as goal

pub places_alike-requires-clause-laid : goal.places_alike-requires-clause-laid
places_alike-requires-clause-laid c = (laid-decides _ _).sound (sym c.is_laid.ensures ∙ c.if-not-is_laid.false)

pub places_alike-requires-clause-items : goal.places_alike-requires-clause-items
places_alike-requires-clause-items c = ((engine.sound-decides (auction_of c.args.board.now)).sound (sym c.is_sound_in.ensures ∙ c.if-not-is_sound_in.false)).items.1

pub places_alike-requires-clause-arrived : goal.places_alike-requires-clause-arrived
places_alike-requires-clause-arrived c = ((engine.sound-decides (auction_of c.args.board.now)).sound (sym c.is_sound_in.ensures ∙ c.if-not-is_sound_in.false)).arrived
