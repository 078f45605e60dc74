-- What is known of an alternating tree while it grows.
use Rattle.std.specs.Prelude.{◌≡◌, List, ◌≢◌, ◌⊎◌, ℕ, ◌+◌, ◌≤◌, ◌<◌}
use Rattle.board.specs.Limits.{max_items, max_weight}
use Rattle.hungarian.specs.Limits.{unreached}
use Rattle.hungarian.specs.Settled.{Holds}
use Rattle.hungarian.specs.Tree.{Tree, Visited, Unvisited, excess_at, parent_at, InTree}

-- The bidders whose edges have been looked at: everyone, or all but the one that was reached last
abbrev pub Everyone : ℕ → Type 0
Everyone i = i ≡ i

abbrev pub Others : ℕ → ℕ → Type 0
Others last i = i ≢ last

-- Visited items are held; their excess is at most the fall, and that of the others at least. A reached bidder's level is at least the fall, and none
-- of its edges, gain plus price less weight, has less than the excess
pub record Balanced (w : ℕ → ℕ → ℕ) (price gain holder : ℕ → ℕ) (t : Tree) (looked : ℕ → Type 0) : Type 0 where
  pub held : (k : ℕ) → Visited t k → (i : ℕ) × Holds holder k i
  pub early : (k : ℕ) → Visited t k → excess_at t k ≤ t.fall
  pub late : (k : ℕ) → k < max_items → Unvisited t k → t.fall ≤ excess_at t k
  pub deep : (i level : ℕ) → looked i → InTree gain holder t i level → t.fall ≤ level
  pub covered : (i level k : ℕ) → looked i → InTree gain holder t i level → k < max_items → w i k + excess_at t k ≤ level + price k

-- An item's parent is reached, and the edge from there has just the excess
pub record Parent (w : ℕ → ℕ → ℕ) (price gain holder : ℕ → ℕ) (t : Tree) (k : ℕ) : Type 0 where
  pub level : ℕ
  pub reached : InTree gain holder t (parent_at t k) level
  pub just : w (parent_at t k) k + excess_at t k ≡ level + price k

-- Besides, the excess of each unvisited item is its parent's edge's, if an edge to it was looked at, and the lowest level is that of a reached bidder
pub record Grown (w : ℕ → ℕ → ℕ) (price gain holder : ℕ → ℕ) (t : Tree) (looked : ℕ → Type 0) : Type 0 where
  pub balanced : Balanced w price gain holder t looked
  pub parent : (k : ℕ) → k < max_items → Unvisited t k → (unreached ≤ excess_at t k) ⊎ Parent w price gain holder t k
  pub lowest : InTree gain holder t t.lowest t.low
  pub least : (i level : ℕ) → looked i → InTree gain holder t i level → t.low ≤ level
  pub below : t.fall ≤ t.low
  pub most : t.low ≤ max_weight

-- A tree of its root alone, whose gain is the limit
pub record Sprout (bidder : ℕ) (holders : List ℕ) (t : Tree) : Type 0 where
  pub root : t.root ≡ bidder
  pub holder : t.holder ≡ holders
  pub fresh : (k : ℕ) → Unvisited t k
  pub excess : (k : ℕ) → k < max_items → excess_at t k ≡ unreached
  pub low : t.low ≡ max_weight
  pub lowest : t.lowest ≡ bidder
  pub fall : t.fall ≡ 0
