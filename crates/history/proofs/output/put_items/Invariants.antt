-- `output::put_items` meets its contract: line by line, each item by the flag of its first place.
use Rattle.std.proofs.Common.{Bool, List, ℕ, ◌+◌, ◌*◌, ◌≤◌, get_or}
use Rattle.text.specs.Limits.{max_line}
use Rattle.text.specs.Out.{Puts}
use Rattle.duality.specs.Lists.{cells}
use Rattle.board.specs.Cells.{flag_at}
use Rattle.history.specs.Output.{item_lines}
use Rattle.history.proofs.output.put_items.Given as goal

-- Whether the item whose first place a list has is withdrawn
abbrev pub gone : List ℕ → List ℕ → ℕ → Bool
gone starts withdrawn k = flag_at withdrawn (get_or starts k 0)

abbrev pub invariant-loop-k : goal.invariant-loop-k
invariant-loop-k l = record {
  put : Puts l.initial.out l.out (item_lines (gone l.starts l.withdrawn) (cells l.prices) l.k);
  few : l.out.at ≤ l.initial.out.at + max_line * l.k;
}
