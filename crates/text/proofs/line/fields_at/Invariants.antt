-- `line::fields_at` meets its contract. The invariant: the fields so far were gathered, and the reader stands behind them. Assumes nothing.
use Rattle.std.proofs.Common.{◌≡◌, ◌-◌, length}
use Rattle.text.proofs.Fields.{Gathered}
use Rattle.text.proofs.line.fields_at.Given as goal

abbrev pub invariant-loop-number : goal.invariant-loop-number
invariant-loop-number l = (l.reader.text.now ≡ l.text) × Gathered l.text l.at l.letter l.numbers l.count l.reader.at

abbrev pub decreases-loop-number : goal.decreases-loop-number
decreases-loop-number l = length l.text - l.reader.at
