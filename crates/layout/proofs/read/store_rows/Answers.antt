-- `read::store_rows` meets its contract.
use Rattle.std.proofs.Common.{refl}
use Rattle.layout.specs.Stored.{row_lists}
use Rattle.layout.proofs.Stored.{stored_none, stored_more}
use Rattle.layout.proofs.read.store_rows.Goals as goal

pub loop-i-init : goal.loop-i-init
loop-i-init c = let a = c.args in stored_none a.rows.now (row_lists a.items.now a.weights.now a.gains.now)

pub loop-i-preserved : goal.loop-i-preserved
loop-i-preserved c = let a = c.args in stored_more a.rows.now c.loop-i.i _ (row_lists a.items.now a.weights.now a.gains.now) _ c.loop-i.invariant refl
