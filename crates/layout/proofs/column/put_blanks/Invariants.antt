-- `column::put_blanks` meets its contract. The invariant: the blanks so far were put.
use Rattle.std.proofs.Common.{replicate}
use Rattle.text.specs.Out.{Puts}
use Rattle.layout.specs.Limits.{blank}
use Rattle.layout.proofs.column.put_blanks.Given as goal

abbrev pub invariant-loop : goal.invariant-loop
invariant-loop l = Puts l.initial.out l.out (replicate l.counter blank)
