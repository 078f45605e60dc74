-- Between two bids: a board that is sound but for the bidders that are still to bid.
use Rattle.std.specs.Prelude.{◌≡◌, Bool, true, false, ◌⊎◌, List, get_or, length, ℕ, suc, ◌+◌, ◌-◌, ◌*◌, ◌≤◌, ◌<◌}
use Rattle.duality.specs.Matching.{IsMatching}
use Rattle.duality.specs.Cover.{Tight}
use Rattle.duality.specs.Steps.{utility, Open}
use Rattle.board.specs.declared.record.Auction.{Auction}
use Rattle.board.specs.Limits.{max_items, max_bidders, max_weight}
use Rattle.board.specs.Cells.{price_at, gain_at, holder_at, withdrawn_at, weight_at}
use Rattle.board.specs.Live.{live, matching_of}
use Rattle.board.specs.Sound.{Formed, Unused}
use Rattle.board.specs.Ranges.{SlackIn}

-- All of Sound, but that the edges of the bidders of a set need not be covered; each of these is unplaced (so its gain is 0)
pub record SoundBut (waits : ℕ → Type 0) (b : Auction) : Type 0 where
  pub formed : Formed b
  pub items : (1 ≤ b.market.items) × (b.market.items ≤ max_items)
  pub arrived : b.market.arrived ≤ max_bidders
  pub slack : SlackIn 1 b.market.slack.p b.market.slack.q
  pub weights : (i k : ℕ) → i < b.market.arrived → k < b.market.items → weight_at b i k ≤ max_weight
  pub flags : (k : ℕ) → k < b.market.items → get_or b.market.withdrawn k 0 ≤ 1
  pub unused : Unused b
  pub holders : (k i : ℕ) → k < b.market.items → holder_at b k ≡ suc i → (i < b.market.arrived) × (matching_of b i ≡ suc k)
  pub matches : IsMatching b.market.arrived b.market.items (live b) (matching_of b)
  pub tight : Tight b.market.arrived b.market.items (live b) (b.market.slack.q + b.market.slack.p) (matching_of b) (price_at b) (gain_at b)
  pub withdrawn : (k : ℕ) → k < b.market.items → withdrawn_at b k ≡ true → price_at b k ≡ 0
  pub covers : (i k : ℕ) → i < b.market.arrived → (waits i → ⊥) → k < b.market.items → 0 < live b i k →
      (b.market.slack.q - b.market.slack.p) * live b i k ≤ gain_at b i + price_at b k
  pub away : (i : ℕ) → i < b.market.arrived → waits i → matching_of b i ≡ 0

-- Nobody else is to bid
abbrev pub Nobody : ℕ → Type 0
Nobody h = ⊥

-- One bidder is to bid, and others, of which it is none, wait until its chain has ended
pub record Ready (b : Auction) (i : ℕ) : Type 0 where
  pub bidder : i < b.market.arrived
  pub others : ℕ → Bool
  pub new : others i ≡ false
  pub sound : SoundBut (λ h. (others h ≡ true) ⊎ (h ≡ i)) b

-- A bid of bidder i + 1 for item k + 1 that keeps the board sound: the edge is open, the new gain g and the new price y add up to (q + p) × w,
-- the price rises by p × w or more, and every other open edge of the bidder has a utility of at most g. The rule's bid is one.
pub record Admissible (b : Auction) (i k g y : ℕ) : Type 0 where
  pub item : k < b.market.items
  pub «open» : Open b.market.slack.p b.market.slack.q (live b i k) (price_at b k)
  pub whole : g + y ≡ (b.market.slack.q + b.market.slack.p) * live b i k
  pub rises : price_at b k + b.market.slack.p * live b i k ≤ y
  pub others : (j : ℕ) → j < b.market.items → (j ≡ k → ⊥) → Open b.market.slack.p b.market.slack.q (live b i j) (price_at b j) →
      utility b.market.slack.q (live b i j) (price_at b j) ≤ g

-- What a new bidder's row must be: a cell for each item, weights within the limit, and none past the items
pub record RowFits (items : ℕ) (row : List ℕ) : Type 0 where
  pub sized : length row ≡ max_items
  pub limit : (k : ℕ) → k < items → get_or row k 0 ≤ max_weight
  pub bare : (k : ℕ) → items ≤ k → k < max_items → get_or row k 0 ≡ 0
