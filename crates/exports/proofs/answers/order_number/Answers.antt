-- `answers::order_number` meets its contract.
use mathlib.Core.Path.{sym, ap}
use Rattle.comparison.specs.Compare.{order_number}
use Rattle.exports.proofs.answers.order_number.Goals as goal

pub returns-in-Less : goal.returns-in-Less
returns-in-Less c = ap order_number (sym c.in-Less.is)

pub returns-in-Equal : goal.returns-in-Equal
returns-in-Equal c = ap order_number (sym c.in-Equal.is)

pub returns-in-Greater : goal.returns-in-Greater
returns-in-Greater c = ap order_number (sym c.in-Greater.is)
