-- The live edges as a matrix: items cleared one after the other, and what the board's soundness says of it.
use mathlib.Core.Path.{◌≡◌, refl, sym, ap, ◌∙◌}
use mathlib.Core.Bool.{Bool, true, false, cond}
use mathlib.Core.List.{List}
use mathlib.Core.Logic.{by_cases}
use Prim.Native.Nat.{ℕ, zero, suc, ◌+◌, ◌*◌, ◌≤◌, ◌<◌}
use native.Mathlib.Decide.{dec_lt}
use native.Mathlib.Omega.{arith}
use lib.ListN.{get_or, get_or-eq_default}
use Rattle.board.specs.declared.record.Auction.{Auction}
use Rattle.board.specs.Limits.{max_items, max_bidders, max_weight}
use Rattle.board.specs.Cells.{withdrawn_at}
use Rattle.board.specs.Live.{live}
use Rattle.board.specs.Sound.{Sound}
use Rattle.board.proofs.Filed.{row-cell}
use Rattle.board.proofs.Light.{live-within}
use Rattle.hungarian.specs.Weights.{matrix_at, Light}
use Rattle.hungarian.specs.LiveWeights.{LiveTo}

-- Every cell is that of a bidder and an item
pub record Cell (c : ℕ) : Type 0 where
  pub bidder : ℕ
  pub item : ℕ
  pub near : item < max_items
  pub here : c ≡ bidder * max_items + item

pub cell-of : (c : ℕ) → Cell c
cell-of zero = record { bidder = 0; item = 0; near = omega arith; here = refl }
cell-of (suc c) =
    let p = cell-of c in
    by_cases (dec_lt (suc p.item) max_items)
    (λ l. record { bidder = p.bidder; item = suc p.item; near = l; here = omega (arith, p.here) })
    (λ f. record { bidder = suc p.bidder; item = 0; near = omega arith; here = omega (arith, p.here, p.near) })

-- ---- On a sound board

cond-none : (f : Bool) (x : ℕ) → x ≡ 0 → cond f 0 x ≡ 0
cond-none true x e = refl
cond-none false x e = e

module _ (b : Auction) (s : Sound b) (after : List ℕ) (p : LiveTo max_items b.weights b.market.withdrawn after) where
  pub live-is : (i k : ℕ) → i < max_bidders → k < max_items → matrix_at after i k ≡ live b i k
  live-is i k li lk = p.live i k li lk ∙ ap (cond (withdrawn_at b k) 0) (sym (row-cell b.weights i k lk))

  pub live-light : Light after
  live-light c = by_cases (dec_lt c (max_bidders * max_items)) inside outside
    where
      inside : c < max_bidders * max_items → get_or after c 0 ≤ max_weight
      inside l =
          let h = cell-of c in
          let li : h.bidder < max_bidders = omega (arith, h.here, h.near) in
          let a = live-is h.bidder h.item li h.near in
          rw (h.here, a) (live-within b s h.bidder h.item)

      outside : (c < max_bidders * max_items → ⊥) → get_or after c 0 ≤ max_weight
      outside f = omega (arith, get_or-eq_default after 0 {n = c} (omega (arith, p.size, s.formed.rows)))

  pub live-unused : (i k : ℕ) → i < b.market.arrived → b.market.items ≤ k → k < max_items → live b i k ≡ 0
  live-unused i k li u lk = cond-none (withdrawn_at b k) _ (s.unused.weight i k li u lk)
