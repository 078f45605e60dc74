-- `rows::rows_of`: the rows are filled from their start.
use Rattle.board.proofs.Filling.{Filled}
use Rattle.supply.specs.ByItem.{live}
use Rattle.counting.proofs.RowCells.{cell_count, cell_at}
use Rattle.counting.proofs.rows.rows_of.Given as goal

abbrev pub invariant-loop-c : goal.invariant-loop-c
invariant-loop-c l = Filled cell_count (cell_at l.sheet.items (live l.sheet)) l.c l.rows
