-- A text's lines are a history, and every bid of a history is the four steps of the slides in turn.
use Rattle.guarantees.specs.BySlides.{LinesBySlides, ReplayBySlides}
use Rattle.auction.proofs.BySlides.{histories-by-slides}
use Rattle.replay.proofs.ReplayLaws.{lines-reached, replay-reached}

pub lines-by-slides : LinesBySlides
lines-by-slides s n at g b entries bids l = (histories-by-slides b entries bids).0 (lines-reached s n at g b entries bids l)

pub replay-by-slides : ReplayBySlides
replay-by-slides s b bids a = let t = replay-reached s b bids a in (t.entries, (histories-by-slides b _ _).0 t.reached)
