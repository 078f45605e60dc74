-- `column::column_value` meets its contract. The invariant: the value is that of the bytes so far, and small: 23 × 9 is the most that a byte counts.
use Rattle.std.proofs.Common.{◌≡◌, ◌+◌, ◌*◌, ◌^◌, ◌≤◌, take}
use Rattle.text.specs.Number.{value_of}
use Rattle.layout.proofs.column.column_value.Given as goal

abbrev pub invariant-loop-byte : goal.invariant-loop-byte
invariant-loop-byte l = record {
  small : l.value + 23 ≤ 23 * 10 ^ l.byte-index;
  is : l.value ≡ value_of 0 (take l.byte-index l.column);
}
