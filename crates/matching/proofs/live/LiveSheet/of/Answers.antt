-- `LiveSheet::of` meets its contract: a sound board's items start within 64 places.
use Rattle.supply.proofs.Shaping.{sound-located}
use Rattle.matching.proofs.live.LiveSheet.of.Goals as goal

pub new-requires : goal.new-requires
new-requires c = sound-located _ _ c.requires c.starts_of.ensures
