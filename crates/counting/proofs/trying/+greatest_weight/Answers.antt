-- `trying::greatest_weight` meets its contract.
use Rattle.std.proofs.Common.{rules, arith}
use Rattle.counting.proofs.Turns.{countable-rest, tried-none, tried-full, tried-free}
use Rattle.counting.proofs.trying.+greatest_weight.Goals as goal
use Rattle.counting.proofs.trying.+greatest_weight.Goals.{then-free-k-gt0, else-free-k-gt0}

pub greatest_weight-best-requires : goal.greatest_weight-best-requires
greatest_weight-best-requires t c = (omega (arith, c.decreases), countable-rest c.requires (omega arith))

pub loop-k-init : goal.loop-k-init
loop-k-init t c = tried-none (omega arith) c.greatest_weight-best.ensures.count c.greatest_weight-best.ensures.small

pub greatest_weight-weight-requires : goal.greatest_weight-weight-requires
greatest_weight-weight-requires t c = (omega (arith, c.decreases), countable-rest c.requires (omega arith))

pub loop-k-preserved : goal.loop-k-preserved
loop-k-preserved t c =
    elim c.if-free-k-gt0.branch [
      | then-free-k-gt0 w ↦ rw w.best-is (tried-free c.loop-k.invariant (omega arith) c.requires (search rules) (omega (arith, w.if-free-k-gt0.true))
          w.greatest_weight-weight.ensures.count w.greatest_weight-weight.ensures.small w.max-best.ensures)
      | else-free-k-gt0 w ↦ rw w.best-is (tried-full c.loop-k.invariant (omega arith) (omega (arith, w.if-free-k-gt0.false)))
    ]
