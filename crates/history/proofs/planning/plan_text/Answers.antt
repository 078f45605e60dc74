-- `planning::plan_text` meets its contract: a text that is finished leaves a sound board.
use Rattle.replay.proofs.ReplayLines.{stopped_up}
use Rattle.history.proofs.Plans.{plan-stopped, plan-finished, finished-sound}
use Rattle.history.proofs.planning.plan_text.Goals as goal

pub write_output-requires : goal.write_output-requires
write_output-requires c = finished-sound c.args.text.now c.args.out.now c.replay_on.new.into c.replay_on.ensures c.in_ok-replayed.was

pub returns-in_err-replayed : goal.returns-in_err-replayed
returns-in_err-replayed c =
    rw (stopped_up c.from_residual.result c.from_residual.ensures.1)
    (plan-stopped c.args.text.now c.args.out.now c.replay_on.new.into c.replay_on.ensures _ _ c.in_err-replayed.was)

pub returns : goal.returns
returns c = plan-finished c.args.text.now c.args.out.now c.replay_on.new.into c.replay_on.ensures _ _ c.in_ok-replayed.was c.write_output.ensures
