-- No live edge of a sound board weighs more than the limit, wherever it is read.
use mathlib.Core.Bool.{Bool, true, false, cond}
use mathlib.Core.Logic.{by_cases}
use Prim.Native.Nat.{ℕ, ◌+◌, ◌*◌, ◌≤◌, ◌<◌}
use native.Mathlib.Decide.{dec_lt}
use native.Mathlib.Omega.{arith}
use lib.ListN.{get_or, drop, length-take, get_or-eq_default}
use Rattle.board.specs.declared.record.Auction.{Auction}
use Rattle.board.specs.Limits.{max_items, max_bidders, max_weight}
use Rattle.board.specs.Cells.{withdrawn_at, row_at}
use Rattle.board.specs.Live.{live}
use Rattle.board.specs.Sound.{Sound}
use Rattle.board.proofs.Filed.{row-cell}
use Rattle.board.proofs.LiveLaws.{weighed-edges}

cond_below : (f : Bool) (x y : ℕ) → x ≤ y → cond f 0 x ≤ y
cond_below true x y l = omega arith
cond_below false x y l = l

pub live-within : (b : Auction) → Sound b → (i k : ℕ) → live b i k ≤ max_weight
live-within b s i k = cond_below (withdrawn_at b k) _ _ (by_cases (dec_lt k max_items) near far)
  where
    near : k < max_items → get_or (row_at b i) k 0 ≤ max_weight
    near lk =
        by_cases (dec_lt i max_bidders)
        (λ li. by_cases (dec_lt i b.market.arrived)
        (λ a. by_cases (dec_lt k b.market.items)
        (λ u. weighed-edges (row_at b i) b.market.items (s.weights i a) k u)
        (λ f. omega (arith, s.unused.weight i k a (omega arith) lk)))
        (λ f. omega (arith, s.unused.row i k (omega arith) li lk)))
        (λ f. omega (arith, row-cell b.weights i k lk, get_or-eq_default b.weights 0 {n = i * max_items + k} (omega (arith, s.formed.rows))))

    far : (k < max_items → ⊥) → get_or (row_at b i) k 0 ≤ max_weight
    far f = omega (arith, get_or-eq_default (row_at b i) 0 {n = k} (omega (arith, length-take max_items (drop (i * max_items) b.weights))))
