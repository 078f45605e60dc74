-- When a board is sound: document 01's sentence, clause by clause in its order.
use Rattle.std.specs.Prelude.{◌≡◌, true, List, [], ◌∷◌, ℕ, suc, ◌+◌, ◌-◌, ◌*◌, ◌≤◌, ◌<◌, length, get_or}
use Rattle.duality.specs.Matching.{IsMatching}
use Rattle.duality.specs.Cover.{Covers}
use Rattle.board.specs.declared.record.Auction.{Auction}
use Rattle.board.specs.declared.record.Edge.{Edge}
use Rattle.board.specs.Limits.{max_items, max_bidders, max_weight}
use Rattle.board.specs.Cells.{price_at, gain_at, holder_at, withdrawn_at, weight_at}
use Rattle.board.specs.Live.{live, matching_of, edges_of}
use Rattle.board.specs.Ranges.{SlackIn}

-- The lists have the lengths of the record's arrays. Every board that code can make has them; a bare list of the logic need not.
pub record Formed (b : Auction) : Type 0 where
  pub prices : length b.state.price ≡ max_items
  pub holders : length b.state.holder ≡ max_items
  pub flags : length b.market.withdrawn ≡ max_items
  pub gains : length b.state.gain ≡ max_bidders
  pub rows : length b.weights ≡ max_bidders * max_items

-- "strictly rising kettle order at kettles numbered 1 to k", from above a number on
pub data Rising (items : ℕ) : ℕ → List Edge → Type 0 where
  ends : {low : ℕ} → Rising items low []
  next : {low : ℕ} {e : Edge} {rest : List Edge} → low < e.item → e.item ≤ items → Rising items e.item rest → Rising items low (e ∷ rest)

-- "worths are within limits", edge by edge
pub data Weighed : List Edge → Type 0 where
  ends : Weighed []
  next : {e : Edge} {rest : List Edge} → 1 ≤ e.weight.0 → e.weight.0 ≤ max_weight → Weighed rest → Weighed (e ∷ rest)

-- "unused cells are 0": those of items past the count, and of bidders that have not arrived
pub record Unused (b : Auction) : Type 0 where
  pub price : (k : ℕ) → b.market.items ≤ k → k < max_items → price_at b k ≡ 0
  pub holder : (k : ℕ) → b.market.items ≤ k → k < max_items → holder_at b k ≡ 0
  pub withdrawn : (k : ℕ) → b.market.items ≤ k → k < max_items → get_or b.market.withdrawn k 0 ≡ 0
  pub weight : (i k : ℕ) → i < b.market.arrived → b.market.items ≤ k → k < max_items → weight_at b i k ≡ 0
  pub gain : (i : ℕ) → b.market.arrived ≤ i → i < max_bidders → gain_at b i ≡ 0
  pub row : (i k : ℕ) → b.market.arrived ≤ i → i < max_bidders → k < max_items → weight_at b i k ≡ 0

-- "A board is sound if .."
pub record Sound (b : Auction) : Type 0 where
  pub formed : Formed b
  -- "counts, slack and worths are within limits"
  pub items : (1 ≤ b.market.items) × (b.market.items ≤ max_items)
  pub arrived : b.market.arrived ≤ max_bidders
  pub slack : SlackIn 1 b.market.slack.p b.market.slack.q
  pub weights : (i : ℕ) → i < b.market.arrived → Weighed (edges_of b i)
  -- whether an item is withdrawn is told by a byte: 1 where it is, 0 where it is not
  pub flags : (k : ℕ) → k < b.market.items → get_or b.market.withdrawn k 0 ≤ 1
  -- "prices and gains are whole and not negative": they are numbers of ℕ
  -- "unused cells are 0"
  pub unused : Unused b
  -- "each batch's entries stand in strictly rising kettle order at kettles numbered 1 to k"
  pub rising : (i : ℕ) → i < b.market.arrived → Rising b.market.items 0 (edges_of b i)
  -- "the plan is a plan on the live sheet"; and whoever an item's cell names has arrived, and has that item and no other
  pub holders : (k i : ℕ) → k < b.market.items → holder_at b k ≡ suc i → (i < b.market.arrived) × (matching_of b i ≡ suc k)
  pub matches : IsMatching b.market.arrived b.market.items (live b) (matching_of b)
  -- "each placed batch's gain plus its kettle's price is (q + p) × w"
  pub placed : (i k : ℕ) → i < b.market.arrived → matching_of b i ≡ suc k → gain_at b i + price_at b k ≡ (b.market.slack.q + b.market.slack.p) * live b i k
  -- "unheld or withdrawn kettles have price 0"
  pub unheld : (k : ℕ) → k < b.market.items → ((i : ℕ) → i < b.market.arrived → matching_of b i ≡ suc k → ⊥) → price_at b k ≡ 0
  pub withdrawn : (k : ℕ) → k < b.market.items → withdrawn_at b k ≡ true → price_at b k ≡ 0
  -- "unplaced batches gain 0"
  pub unplaced : (i : ℕ) → i < b.market.arrived → matching_of b i ≡ 0 → gain_at b i ≡ 0
  -- "on every live entry gain plus price is at least (q - p) × w"
  pub covers : Covers b.market.arrived b.market.items (live b) (b.market.slack.q - b.market.slack.p) (price_at b) (gain_at b)
