-- `moves::vacate` meets its contract: the items that have been passed are gone, and their holders are marked.
use mathlib.Core.Path.{◌≡◌}
use mathlib.Core.List.{List}
use Prim.Native.Nat.{ℕ}
use lib.ListN.{length}
use Rattle.duality.specs.Lists.{cells}
use Rattle.board.specs.Limits.{max_bidders}
use Rattle.board.specs.Cells.{auction}
use Rattle.board.specs.Sound.{Sound}
use Rattle.bidding.specs.Withdrawals.{Vacates}
use Rattle.bidding.proofs.moves.vacate.Given as goal

abbrev pub invariant-loop-item : goal.invariant-loop-item
invariant-loop-item l = (length l.waiting ≡ max_bidders) ×
    ((w : List ℕ) → Sound (auction l.initial.market w l.initial.state) → Vacates (auction l.initial.market w l.initial.state) (cells l.items) l.item-index (auction l.market w l.state) l.waiting)
