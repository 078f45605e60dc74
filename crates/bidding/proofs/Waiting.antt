-- Sound is sound but for nobody.
use Rattle.board.specs.Cells.{row_at}
use Rattle.board.specs.Sound.{Sound}
use Rattle.bidding.specs.Waiting.{SoundBut, Nobody}
use Rattle.bidding.specs.RuleLaws.{SoundIsSettled}
use Rattle.board.proofs.LiveLaws.{rising-edges, edges-weighed, weighed-edges}

pub sound-is-settled : SoundIsSettled
sound-is-settled b = (settled, sound)
  where
    settled : Sound b → SoundBut Nobody b
    settled h =
        record {
          formed = h.formed;
          items = h.items;
          arrived = h.arrived;
          slack = h.slack;
          weights = λ i k n l. weighed-edges (row_at b i) b.market.items (h.weights i n) k l;
          flags = h.flags;
          unused = h.unused;
          holders = h.holders;
          matches = h.matches;
          tight = record { placed = h.placed; unplaced = h.unplaced; unheld = h.unheld };
          withdrawn = h.withdrawn;
          covers = λ i k n waits l w. h.covers i k n l w;
          away = λ i n waits. absurd waits;
        }

    sound : SoundBut Nobody b → Sound b
    sound h =
        record {
          formed = h.formed;
          items = h.items;
          arrived = h.arrived;
          slack = h.slack;
          weights = λ i n. edges-weighed (row_at b i) b.market.items (λ k l. h.weights i k n l);
          flags = h.flags;
          unused = h.unused;
          rising = λ i n. rising-edges (row_at b i) b.market.items;
          holders = h.holders;
          matches = h.matches;
          placed = h.tight.placed;
          unheld = h.tight.unheld;
          withdrawn = h.withdrawn;
          unplaced = h.tight.unplaced;
          covers = λ i k n l w. h.covers i k n (λ waits. waits) l w;
        }
