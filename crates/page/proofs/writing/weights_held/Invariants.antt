-- `writing::weights_held` meets its contract.
use Rattle.board.specs.Limits.{max_bidders}
use Rattle.board.proofs.Filling.{Filled}
use Rattle.page.proofs.Rows.{held_weight}
use Rattle.page.proofs.writing.weights_held.Given as goal

abbrev pub invariant-loop-i : goal.invariant-loop-i
invariant-loop-i l = Filled max_bidders (held_weight l.weights l.plan) l.i l.held
