-- Laws of the row that edges make, as a loop comes to them.
use mathlib.Core.Path.{◌≡◌, refl}
use mathlib.Core.List.{List}
use Prim.Native.Nat.{ℕ, ◌+◌, ◌-◌}
use native.Mathlib.Numerals.{add-one}
use lib.ListN.{set, replicate}
use Rattle.board.specs.Limits.{max_items}
use Rattle.auction.specs.Edges.{row_to}

pub row-start : (item weight : ℕ → ℕ) → replicate max_items 0 ≡ row_to item weight 0
unfolding row_to
row-start item weight = refl

pub row_next : (item weight : ℕ → ℕ) (i k w : ℕ) (row : List ℕ) → row ≡ row_to item weight i → k ≡ item i - 1 → w ≡ weight i → set row k w ≡ row_to item weight (i + 1)
unfolding row_to
row_next item weight i k w row e f g = rw (add-one, e, f, g)
