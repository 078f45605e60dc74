-- `output::put_columns` meets its contract: the lines of the items after those of the bidders.
use Rattle.text.proofs.Outs.{puts_then}
use Rattle.history.proofs.output.put_columns.Goals as goal

pub returns-clause-put : goal.returns-clause-put
returns-clause-put c = puts_then c.put_bidders.ensures.put c.put_items.ensures.put
