-- `planning::sheet_text` meets its contract.
use native.Mathlib.Omega.{arith}
use Rattle.history.proofs.Plans.{finished-sound}
use Rattle.history.proofs.Sheets.{put-front, sheet-finished, sheet-refused}
use Rattle.history.proofs.planning.sheet_text.Goals as goal

pub render-requires : goal.render-requires
render-requires c = finished-sound c.args.text.now c.args.out.now _ c.replay_on.ensures c.in-Ok.is

pub returns-in-Ok : goal.returns-in-Ok
returns-in-Ok c =
    let p = c.render.ensures in
    sheet-finished c.args.text.now _ c.replay_on.ensures c.in-Ok.is (put-front (omega (arith, p.few)) p.put)

pub returns-in-Err : goal.returns-in-Err
returns-in-Err c =
    let p = c.put_refusal.ensures in
    sheet-refused c.args.text.now _ c.replay_on.ensures _ c.in-Err.is c.number.ensures (put-front (omega (arith, p.few)) p.put)
