-- `scan::field_at` meets its contract. The invariant: the digits from here on make of the number and the count so far what all digits
-- make of nothing. Assumes nothing.
use Rattle.std.proofs.Common.{◌≡◌, ℕ, ◌+◌, ◌^◌, ◌<◌, ◌≤◌, List, length}
use Rattle.text.specs.Limits.{max_digits}
use Rattle.text.specs.Number.{digits, value_of}
use Rattle.text.proofs.scan.field_at.Given as goal

-- `count` digits of the value `number` were read, and `rest` comes next
pub record Scanned (start : List ℕ) (rest : List ℕ) (number count : ℕ) : Type 0 where
  pub few : count ≤ max_digits
  pub small : number < 10 ^ count
  pub worth : value_of number (digits rest) ≡ value_of 0 (digits start)
  pub all : count + length (digits rest) ≡ length (digits start)

abbrev pub invariant-loop-rest : goal.invariant-loop-rest
invariant-loop-rest l = Scanned l.start l.rest l.number l.count

abbrev pub decreases-loop-rest : goal.decreases-loop-rest
decreases-loop-rest l = length l.rest
