-- `column::put_column` meets its contract.
use Rattle.text.proofs.Outs.{puts_then}
use Rattle.layout.proofs.column.put_column.Goals as goal

pub returns : goal.returns
returns c = puts_then c.put_padded.ensures c.put.ensures
