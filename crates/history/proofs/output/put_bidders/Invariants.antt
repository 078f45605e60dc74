-- `output::put_bidders` meets its contract: line by line.
use Rattle.std.proofs.Common.{◌+◌, ◌*◌, ◌≤◌}
use Rattle.text.specs.Limits.{max_line}
use Rattle.text.specs.Out.{Puts}
use Rattle.duality.specs.Lists.{cells}
use Rattle.history.specs.Output.{bidder_lines}
use Rattle.history.proofs.output.put_bidders.Given as goal

abbrev pub invariant-loop-i : goal.invariant-loop-i
invariant-loop-i l = record {
  put : Puts l.initial.out l.out (bidder_lines (cells l.plan) (cells l.gains) l.i);
  few : l.out.at ≤ l.initial.out.at + max_line * l.i;
}
