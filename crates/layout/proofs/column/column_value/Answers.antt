-- `column::column_value` meets its contract.
use Rattle.std.proofs.Common.{add-one, arith}
use native.Mathlib.Nat.{pow-suc}
use Rattle.layout.proofs.Scans.{value-more, value-room}
use Rattle.layout.proofs.column.column_value.Goals as goal

pub overflow_mul-value : goal.overflow_mul-value
overflow_mul-value c =
    let i = c.loop-byte.invariant in
    omega (arith, value-room c.loop-byte.value c.loop-byte.byte-index (omega arith) i.small)

pub loop-byte-preserved : goal.loop-byte-preserved
loop-byte-preserved c =
    let l = c.loop-byte in
    let b = c.type_inv.column l.byte-index in
    record {
      small = rw (add-one l.byte-index, pow-suc 10 l.byte-index) (omega (arith, l.invariant.small, c.from.ensures, c.saturating_sub.ensures, b));
      is = rw (c.from.ensures, c.saturating_sub.ensures) (value-more c.args.column.now l.byte-index l.value c.loop-byte-test.true l.invariant.is);
    }
