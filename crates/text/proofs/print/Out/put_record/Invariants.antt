-- `print::put_record` meets its contract. The invariant: after the letter, the fields so far were put. Assumes nothing.
use Rattle.std.proofs.Common.{◌+◌, ◌*◌, ◌≤◌, take}
use Rattle.text.specs.Limits.{wide_digits}
use Rattle.text.specs.Print.{tabbed}
use Rattle.text.specs.Out.{Puts}
use Rattle.text.proofs.print.Out.put_record.Given as goal

abbrev pub invariant-loop-n : goal.invariant-loop-n
invariant-loop-n l = record {
  put : Puts l.initial.self l.self (tabbed (take l.n-index l.fields));
  few : l.self.at ≤ l.initial.self.at + (1 + wide_digits) * l.n-index;
}
