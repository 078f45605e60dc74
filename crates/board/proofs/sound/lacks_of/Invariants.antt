-- `sound::lacks_of` meets its contract: the list is filled from its start.
use Rattle.board.specs.Limits.{max_items}
use Rattle.board.specs.Cells.{scaled_at, flag_at}
use Rattle.board.specs.SoundPass.{lack_of}
use Rattle.board.proofs.Filling.{Filled}
use Rattle.board.proofs.sound.lacks_of.Given as goal

abbrev pub invariant-loop-k : goal.invariant-loop-k
invariant-loop-k l = Filled max_items (λ j. lack_of (scaled_at l.price j) (flag_at l.withdrawn j)) l.k l.lack
