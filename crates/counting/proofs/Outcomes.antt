-- The call's outcome, as the code comes to it.
use Rattle.std.specs.Prelude.{Ok}
use mathlib.Core.Path.{◌≡◌, ap, ◌∙◌}
use mathlib.Core.Bool.{Bool, false, cond}
use mathlib.Core.List.{List, [], ◌∷◌}
use Prim.Native.Nat.{ℕ, ◌≤◌, ◌<◌}
use native.Mathlib.Omega.{arith}
use borrow.Author.Tests.{lt-ltb}
use Rattle.duality.specs.Lists.{cells}
use Rattle.duality.proofs.Sums.{sum_to-le}
use Rattle.places.proofs.Counts.{sum_to-const}
use Rattle.refusals.specs.declared.Refusal.{Refusal}
use Rattle.refusals.specs.Demand1.{check_for, first_of}
use Rattle.board.proofs.Light.{live-within}
use Rattle.supply.specs.declared.record.Board.{Board}
use Rattle.supply.specs.Board.{auction_of, places_at, all_places, start_in}
use Rattle.supply.specs.ByItem.{live}
use Rattle.supply.specs.Sound.{Sound}
use Rattle.supply.proofs.ByItem.{sound-over-places}
use Rattle.counting.specs.Count.{count_with}
use Rattle.counting.specs.Limits.{max_counted}
use Rattle.counting.specs.Rows.{rows_at, Countable, RowsOf, FreeOf}
use Rattle.counting.specs.Call.{count_on}
use Rattle.counting.proofs.Turns.{count-as}

-- There are no more items than places
pub items-few : (b : Board) → Sound b → b.items.count ≤ all_places b.items
items-few b s = omega (arith, sum_to-const b.items.count 1, sum_to-le b.items.count (λ k. 1) (places_at b) (sound-over-places b s).some)

pub last-served : (r : Refusal) (t : Bool) → t ≡ false → first_of (check_for r t ∷ []) ≡ Ok tt
unfolding first_of
last-served r t e = rw e

-- ---- What the count is lent says what the board says

module _ (b : Board) (s : Sound b) (bidders : b.market.arrived ≤ max_counted) (places : all_places b.items ≤ max_counted) {rows : List ℕ}
    (r : RowsOf b.items (live b) rows) where
  row_is_lem : (i k : ℕ) → i < b.market.arrived → k < b.items.count → rows_at rows i k ≡ live b i k
  row_is_lem i k li lk =
      let few = items-few b s in
      r.each i k (omega arith) (omega arith) ∙ ap (λ t. cond t (live b i k) 0) (lt-ltb k b.items.count lk)

  pub countable : Countable b.market.arrived b.items.count rows
  countable =
      let few = items-few b s in
      record {
        bidders = bidders;
        items = omega arith;
        size = omega (arith, r.size);
        light = λ i k li lk. omega (arith, row_is_lem i k li lk, live-within (auction_of b) s.auction i (start_in b.items k));
      }

  pub counts : (free : List ℕ) → FreeOf b.items free → count_with b.market.arrived b.items.count (cells free) (rows_at rows) ≡ count_on b
  counts free f =
      let few = items-few b s in
      count-as b.market.arrived b.items.count (cells free) (places_at b) (rows_at rows) (live b) (λ k l. f k (omega arith)) row_is_lem
