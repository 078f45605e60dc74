-- `read::split_row` meets its contract.
use Rattle.std.proofs.Common.{arith}
use Rattle.layout.proofs.Seen.{row-short}
use Rattle.layout.proofs.read.split_row.Goals as goal

pub returns-in_err-line : goal.returns-in_err-line
returns-in_err-line c = let h = c.in_err-line.ensures.cases in let k = c.from_residual.ensures in let s = row-short c.args.text.now c.args.n (omega arith) (omega (arith, c.in_err-line.ensures.cases)) in rw k s
