-- `wall::wall_text` meets its contract.
use native.Mathlib.Omega.{arith}
use Rattle.history.proofs.Plans.{finished-sound}
use Rattle.history.proofs.Sheets.{put-front}
use Rattle.history.proofs.Walls.{wall-finished, wall-refused}
use Rattle.history.proofs.wall.wall_text.Goals as goal

pub put_board-requires : goal.put_board-requires
put_board-requires c = finished-sound c.args.text.now c.args.out.now _ c.replay_on.ensures c.in-Ok.is

pub returns-in-Ok : goal.returns-in-Ok
returns-in-Ok c = wall-finished c.args.text.now _ c.replay_on.ensures c.in-Ok.is c.put_board.ensures

pub returns-in-Err : goal.returns-in-Err
returns-in-Err c =
    let p = c.put_refusal.ensures in
    wall-refused c.args.text.now _ c.replay_on.ensures _ c.in-Err.is c.number.ensures (put-front (omega (arith, p.few)) p.put)
