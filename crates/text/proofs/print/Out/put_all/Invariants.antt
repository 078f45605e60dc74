-- `print::put_all` meets its contract. The invariant: the bytes so far were put.
use Rattle.std.proofs.Common.{take}
use Rattle.text.specs.Out.{Puts}
use Rattle.text.proofs.print.Out.put_all.Given as goal

abbrev pub invariant-loop-byte : goal.invariant-loop-byte
invariant-loop-byte l = Puts l.initial.self l.self (take l.byte-index l.bytes)
