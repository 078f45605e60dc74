-- `read::store_rows` meets its contract. The invariant: the rows so far were stored.
use Rattle.std.proofs.Common.{◌≡◌}
use Rattle.layout.specs.Stored.{row_lists, rows_stored}
use Rattle.layout.proofs.read.store_rows.Given as goal

abbrev pub invariant-loop-i : goal.invariant-loop-i
invariant-loop-i l = row_lists l.items l.weights l.gains ≡ rows_stored l.i l.rows (row_lists l.initial.items l.initial.weights l.initial.gains)
