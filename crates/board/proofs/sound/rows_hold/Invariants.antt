-- `sound::rows_hold` meets its contract: the rows passed hold, and no other has an edge.
use mathlib.Core.Path.{◌≡◌}
use mathlib.Core.Bool.{true}
use Prim.Native.Nat.{ℕ, ◌-◌, ◌*◌, ◌<◌}
use Rattle.board.specs.Limits.{max_items}
use Rattle.board.specs.Cells.{scaled_at}
use Rattle.board.specs.SoundPass.{room_of, needs_test, empty_test}
use Rattle.board.proofs.sound.rows_hold.Given as goal

abbrev pub invariant-loop-i : goal.invariant-loop-i
invariant-loop-i l =
    (empty_test l.weights (l.arrived * max_items) ≡ true) ×
    ((j : ℕ) → j < l.i → needs_test (l.slack.q - l.slack.p) l.weights (j * max_items) l.limit l.lack (room_of (scaled_at l.gain j)) ≡ true)
