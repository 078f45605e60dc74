-- `column::read_row` meets its contract.
use Rattle.layout.proofs.Scans.{row_as}
use Rattle.layout.proofs.column.read_row.Goals as goal

pub returns : goal.returns
returns c = row_as c.args.line.now _ _ _ c.column_value.ensures c.column_value-2.ensures c.column_value-3.ensures
