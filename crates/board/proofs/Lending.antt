-- What a sound auction says of the cells that are lent.
use mathlib.Core.Path.{◌≡◌, refl}
use Prim.Native.Nat.{ℕ, zero, suc, ◌≤◌, ◌<◌}
use native.Mathlib.Omega.{arith}
use Rattle.duality.specs.Lists.{cells}
use Rattle.board.specs.declared.record.Auction.{Auction}
use Rattle.board.specs.Limits.{max_bidders}
use Rattle.board.specs.Cells.{holder_at}
use Rattle.board.specs.Sound.{Sound}

-- Whoever an item's cell names is one of so many bidders
pub holders-few : {b : Auction} → Sound b → (k : ℕ) → k < b.market.items → cells b.state.holder k ≤ max_bidders
holders-few {b} s k l = go (holder_at b k) refl
  where
    go : (c : ℕ) → holder_at b k ≡ c → c ≤ max_bidders
    go zero e = omega arith
    go (suc i) e = omega (arith, (s.holders k i l e).0, s.arrived)
