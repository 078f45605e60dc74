-- Statements about the withdrawal of a list: what has gone, who is displaced, that the chains have one outcome which is computed, and what it leaves.
use Rattle.std.specs.Prelude.{◌≡◌, true, false, ◌↔◌, List, [], ◌∷◌, ℕ, suc, ◌+◌, ◌<◌, ◌≤◌}
use Rattle.board.specs.declared.record.Auction.{Auction}
use Rattle.board.specs.Cells.{price_at, gain_at, holder_at, withdrawn_at}
use Rattle.board.specs.Live.{matching_of}
use Rattle.board.specs.Ranges.{Within}
use Rattle.board.specs.Sound.{Sound}
use Rattle.bidding.specs.Potential.{potential}
use Rattle.bidding.specs.Rule.{done, after_chain}
use Rattle.bidding.specs.Moves.{withdrawn_one_of}
use Rattle.bidding.specs.Withdrawals.{vacated_to, named_in, holds_named, displaced_by, Chains, withdrawn_of}

-- A list that can be withdrawn: its items are the board's
abbrev pub Listed : Auction → (ℕ → ℕ) → ℕ → Type 0
Listed b item n = (i : ℕ) → i < n → Within 1 b.market.items (item i)

-- ---- "All go first"

pub record AllGone (b : Auction) (item : ℕ → ℕ) (n : ℕ) (c : Auction) : Type 0 where
  -- An item of the list: "it leaves the live sheet and its price becomes 0"; nobody holds it
  pub gone : (k : ℕ) → k < b.market.items → named_in item n (suc k) ≡ true → (withdrawn_at c k ≡ true) × (price_at c k ≡ 0) × (holder_at c k ≡ 0)
  -- Any other is as it was
  pub others : (k : ℕ) → named_in item n (suc k) ≡ false → (withdrawn_at c k ≡ withdrawn_at b k) × (price_at c k ≡ price_at b k) × (holder_at c k ≡ holder_at b k)
  -- "Its holder .. is unplaced, gain 0": whoever held an item of the list
  pub holders : (h : ℕ) → h < b.market.arrived → holds_named b item n h ≡ true → (matching_of c h ≡ 0) × (gain_at c h ≡ 0)
  -- Any other bidder has what it had
  pub kept : (h : ℕ) → h < b.market.arrived → holds_named b item n h ≡ false → (matching_of c h ≡ matching_of b h) × (gain_at c h ≡ gain_at b h)
  pub items : c.market.items ≡ b.market.items
  pub arrived : c.market.arrived ≡ b.market.arrived
  pub slack : c.market.slack ≡ b.market.slack
  pub weights : c.weights ≡ b.weights

abbrev pub AllGo : Type 0
AllGo = (b : Auction) (item : ℕ → ℕ) (n : ℕ) → Sound b → Listed b item n → AllGone b item n (vacated_to b item n)

-- ---- "the displaced batches .. in number order"

-- Numbers from low on, strictly rising
pub data RisingFrom : ℕ → List ℕ → Type 0 where
  ends : {low : ℕ} → RisingFrom low []
  rises : {low x : ℕ} {xs : List ℕ} → low ≤ x → RisingFrom (suc x) xs → RisingFrom low (x ∷ xs)

pub data Among (x : ℕ) : List ℕ → Type 0 where
  here : {xs : List ℕ} → Among x (x ∷ xs)
  there : {y : ℕ} {xs : List ℕ} → Among x xs → Among x (y ∷ xs)

-- Each is displaced once, in rising number, and they are those who held an item of the list
pub record InNumberOrder (b : Auction) (item : ℕ → ℕ) (n : ℕ) (xs : List ℕ) : Type 0 where
  pub rising : RisingFrom 0 xs
  pub exactly : (h : ℕ) → Among h xs ↔ ((h < b.market.arrived) × (holds_named b item n h ≡ true))

abbrev pub DisplacedInOrder : Type 0
DisplacedInOrder = (b : Auction) (item : ℕ → ℕ) (n : ℕ) → InNumberOrder b item n (displaced_by b item n)

-- There is one such list
abbrev pub OrderOnce : Type 0
OrderOnce = (b : Auction) (item : ℕ → ℕ) (n : ℕ) (xs ys : List ℕ) → InNumberOrder b item n xs → InNumberOrder b item n ys → xs ≡ ys

-- ---- "each chain run to its end"

-- There is one outcome
abbrev pub ChainsOnce : Type 0
ChainsOnce = (b c d : Auction) (xs : List ℕ) (n m : ℕ) → Chains b xs c n → Chains b xs d m → (c ≡ d) × (n ≡ m)

-- The computed withdrawal is the chains: it is never spent. It leaves a sound board, and its bids number at most the rise of the potential
pub record WithdrawalEnds (b : Auction) (item : ℕ → ℕ) (n : ℕ) : Type 0 where
  pub board : Auction
  pub bids : ℕ
  pub computed : withdrawn_of b item n ≡ done (after_chain board bids)
  pub chains : Chains (vacated_to b item n) (displaced_by b item n) board bids
  pub sound : Sound board
  pub counted : bids + potential b ≤ potential board

abbrev pub WithdrawnIsChains : Type 0
WithdrawnIsChains = (b : Auction) (item : ℕ → ℕ) (n : ℕ) → Sound b → Listed b item n → WithdrawalEnds b item n

-- ---- Two lists

-- "an empty list changes nothing in a call"
abbrev pub EmptyList : Type 0
EmptyList = (b : Auction) (item : ℕ → ℕ) → withdrawn_of b item 0 ≡ done (after_chain b 0)

-- "A list of one acts as before"
abbrev pub ListOfOne : Type 0
ListOfOne = (b : Auction) (item : ℕ → ℕ) (k : ℕ) → Sound b → k < b.market.items → item 0 ≡ suc k → withdrawn_of b item 1 ≡ withdrawn_one_of b k
