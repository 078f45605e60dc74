-- `Board::is_sound` meets its contract, by what the test decides.
use mathlib.Core.Path.{sym, ◌∙◌}
use Rattle.supply.proofs.SoundLaw.{sound-decides}
use Rattle.supply.proofs.record.Board.is_sound.Goals as goal

pub returns-clause-sound : goal.returns-clause-sound
returns-clause-sound c =
    let e = c.passes.ensures in
    (λ t. (sound-decides _).sound (sym e ∙ t), λ s. e ∙ (sound-decides _).complete s)
