-- No price and no gain is above 2,000,000,000, also between two bids: a placed bidder's gain and its item's price add up to q + p times a weight, and every
-- other price and gain is 0.
use mathlib.Core.Path.{◌≡◌, refl}
use Prim.Native.Nat.{ℕ, zero, suc, ◌+◌, ◌*◌, ◌≤◌, ◌<◌}
use native.Mathlib.Nat.{mul-le-mul}
use native.Mathlib.Omega.{arith}
use Rattle.board.specs.declared.record.Auction.{Auction}
use Rattle.board.specs.Limits.{max_weight, max_q, max_price}
use Rattle.board.specs.Cells.{price_at, gain_at, holder_at}
use Rattle.board.specs.Live.{live, matching_of}
use Rattle.board.proofs.LiveLaws.{held-names}
use Rattle.bidding.specs.Waiting.{SoundBut}
use Rattle.bidding.proofs.Turns.{live_small}

module _ {waits : ℕ → Type 0} {b : Auction} (s : SoundBut waits b) where
  pair-modest : (i k : ℕ) → i < b.market.arrived → matching_of b i ≡ suc k → gain_at b i + price_at b k ≤ max_price
  pair-modest i k l e =
      let top : (b.market.slack.q + b.market.slack.p) * live b i k ≤ 2 * max_q * max_weight =
      mul-le-mul {n₂ = 2 * max_q} {m₂ = max_weight} (omega (arith, s.slack.below, s.slack.high)) (live_small s i k l (s.matches.along i k l e).0) in
      omega (arith, s.tight.placed i k l e)

  pub price-modest : (k : ℕ) → k < b.market.items → price_at b k ≤ max_price
  price-modest k l = go (holder_at b k) refl
    where
      go : (h : ℕ) → holder_at b k ≡ h → price_at b k ≤ max_price
      go zero e = omega (arith, s.tight.unheld k l (λ i li em. omega (arith, e, (held-names b.state.holder b.market.items i k em).1)))
      go (suc i) e = let h = s.holders k i l e in omega (arith, pair-modest i k h.0 h.1)

  pub gain-modest : (i : ℕ) → i < b.market.arrived → gain_at b i ≤ max_price
  gain-modest i l = go (matching_of b i) refl
    where
      go : (m : ℕ) → matching_of b i ≡ m → gain_at b i ≤ max_price
      go zero e = omega (arith, s.tight.unplaced i l e)
      go (suc k) e = omega (arith, pair-modest i k l e)
