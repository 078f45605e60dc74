-- `sound::column_alike` meets its contract: the rows passed have the same edge at both places.
use mathlib.Core.Path.{◌≡◌}
use Prim.Native.Nat.{ℕ, ◌<◌}
use lib.ListN.{get_or}
use Rattle.board.specs.Cells.{row_in}
use Rattle.supply.proofs.sound.column_alike.Given as goal

abbrev pub invariant-loop-i : goal.invariant-loop-i
invariant-loop-i l = (j : ℕ) → j < l.i → get_or (row_in l.weights j) l.s 0 ≡ get_or (row_in l.weights j) l.t 0
