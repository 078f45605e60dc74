-- The units passed are written.
use Rattle.board.specs.Limits.{max_bidders}
use Rattle.board.specs.Cells.{scaled_at}
use Rattle.board.proofs.Filling.{Filled}
use Rattle.board.proofs.lent.numbers_of.Given as goal

abbrev pub invariant-loop-k : goal.invariant-loop-k
invariant-loop-k l = Filled max_bidders (scaled_at l.units) l.k l.numbers
