-- `sound::row_holds` meets its contract: the edges passed hold.
use mathlib.Core.Path.{◌≡◌}
use mathlib.Core.Bool.{true}
use Prim.Native.Nat.{ℕ, ◌+◌, ◌-◌, ◌<◌}
use lib.ListN.{get_or}
use Rattle.board.specs.SoundPass.{need_test}
use Rattle.board.proofs.sound.row_holds.Given as goal

abbrev pub invariant-loop-k : goal.invariant-loop-k
invariant-loop-k l =
    ((j : ℕ) → j < l.k → need_test (l.slack.q - l.slack.p) (get_or l.limit j 0) (get_or l.lack j 0) l.room (get_or l.weights (l.from + j) 0) ≡ true)
