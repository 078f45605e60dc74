-- `sound::limits_of` meets its contract: the list is filled from its start.
use Rattle.board.specs.Limits.{max_items}
use Rattle.board.specs.SoundTest.{limit_at}
use Rattle.board.proofs.Filling.{Filled}
use Rattle.board.proofs.sound.limits_of.Given as goal

abbrev pub invariant-loop-k : goal.invariant-loop-k
invariant-loop-k l = Filled max_items (limit_at l.items) l.k l.limit
