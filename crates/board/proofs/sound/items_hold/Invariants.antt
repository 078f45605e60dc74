-- `sound::items_hold` meets its contract: the items passed hold.
use mathlib.Core.Path.{◌≡◌}
use mathlib.Core.Bool.{true}
use Prim.Native.Nat.{ℕ, ◌<◌}
use lib.ListN.{get_or}
use lib.Dec.{ltb}
use Rattle.board.specs.Cells.{scaled_at}
use Rattle.board.specs.SoundTest.{item_test}
use Rattle.board.proofs.sound.items_hold.Given as goal

abbrev pub invariant-loop-k : goal.invariant-loop-k
invariant-loop-k l =
    ((j : ℕ) → j < l.k → item_test (ltb j l.items) (scaled_at l.price j) (get_or l.holder j 0) (get_or l.withdrawn j 0) ≡ true)
