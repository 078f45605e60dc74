-- The two steps of the search: what each is handed, and what both leave.
use Rattle.std.specs.Prelude.{◌≡◌, List, ℕ, ◌+◌, ◌≤◌, ◌<◌, length}
use Rattle.duality.specs.Lists.{cells}
use Rattle.board.specs.Limits.{max_items, max_bidders, max_weight}
use Rattle.hungarian.specs.Weights.{matrix_at, Light}
use Rattle.hungarian.specs.Settled.{Settled}
use Rattle.hungarian.specs.Tree.{Tree, Sized, Visited, Unvisited, excess_at, parent_at, InTree, TightNow, IdleNow}
use Rattle.hungarian.specs.Growth.{Everyone, Others, Balanced, Grown}
use Rattle.hungarian.specs.Path.{Path}

-- The bidders before the root are settled, and the root's edges are covered
pub record Inserting (weights : List ℕ) (price gain holder : ℕ → ℕ) (root : ℕ) : Type 0 where
  pub light : Light weights
  pub near : root < max_bidders
  pub settled : Settled (matrix_at weights) price gain holder root
  pub covers : (k : ℕ) → k < max_items → matrix_at weights root k ≤ gain root + price k
  pub low : gain root ≤ max_weight

-- The bidder was reached just now, and is the only one that was not looked from
pub record BidderStart (weights price gain : List ℕ) (bidder : ℕ) (t : Tree) : Type 0 where
  pub sized : Sized t
  pub inserting : Inserting weights (cells price) (cells gain) (cells t.holder) t.root
  pub reached : InTree (cells gain) (cells t.holder) t bidder (cells gain bidder + t.fall)
  pub grown : Grown (matrix_at weights) (cells price) (cells gain) (cells t.holder) t (Others bidder)

-- The item is unvisited, and the edge from its parent is tight by now
pub record ItemStart (weights price gain : List ℕ) (parent item : ℕ) (t : Tree) : Type 0 where
  pub sized : Sized t
  pub inserting : Inserting weights (cells price) (cells gain) (cells t.holder) t.root
  pub grown : Grown (matrix_at weights) (cells price) (cells gain) (cells t.holder) t Everyone
  pub near : item < max_items
  pub fresh : Unvisited t item
  pub just : excess_at t item ≡ t.fall
  pub tight : TightNow (matrix_at weights) (cells price) (cells gain) (cells t.holder) t parent item

-- The same of the item that is to be visited next, and its parent
abbrev pub NextStart : List ℕ → List ℕ → List ℕ → Tree → Type 0
NextStart weights price gain t = ItemStart weights price gain (parent_at t t.next) t.next t

-- A tree has grown: what was visited is so still, with its excess
pub record Extends (t r : Tree) : Type 0 where
  pub root : r.root ≡ t.root
  pub visited : (k : ℕ) → Visited t k → Visited r k
  pub excess : (k : ℕ) → Visited t k → excess_at r k ≡ excess_at t k

-- The tree r is exhausted, and the holders, as many as there were, have been shifted along an alternating path of it, whose edges are tight at the
-- end. The path starts at a bidder that was reached before; what was visited before has kept its holder
pub record Ended (weights price gain : List ℕ) (t r : Tree) : Type 0 where
  pub long : length r.holder ≡ length t.holder
  pub extends : Extends t r
  pub balanced : Balanced (matrix_at weights) (cells price) (cells gain) (cells t.holder) r Everyone
  pub most : r.fall ≤ max_weight
  pub path : Path (TightNow (matrix_at weights) (cells price) (cells gain) (cells t.holder) r) (IdleNow (cells gain) (cells t.holder) r)
      (cells t.holder) r.mover (cells r.holder)
  pub start : (level : ℕ) × InTree (cells gain) (cells t.holder) t r.mover level
  pub kept : (k : ℕ) → Visited t k → cells r.holder k ≡ cells t.holder k
