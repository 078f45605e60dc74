-- The withdrawal of a list of items (document 02, R-3): "All go first; then the displaced batches bid in number order, each chain run to its end".
-- `item` reads the list's cells, each an item's number, and n is how many there are.
use Rattle.std.specs.Prelude.{◌≡◌, Bool, false, cond, ◌||◌, List, [], ◌∷◌, ◌++◌, ℕ, zero, suc, ◌+◌, ◌-◌, ◌<◌, eqb, get_or}
use Rattle.board.specs.declared.record.Auction.{Auction}
use Rattle.board.specs.declared.record.Holder.{Holder}
use Rattle.board.specs.declared.record.Holder.TheVariants.{Held, Free}
use Rattle.board.specs.Cells.{holder_at, holder_of}
use Rattle.board.specs.Live.{matching_of}
use Rattle.bidding.specs.Rule.{AfterChain, Chain, Outcome, done, spent, after_chain, displaced, settle_of, fuel_of}
use Rattle.bidding.specs.Moves.{released}

-- ---- "All go first"

-- Whoever held an item, if anybody, "is unplaced, gain 0"
unfoldable pub displaced_if : Auction → Holder → Auction
displaced_if b Free = b
displaced_if b (Held x) = displaced b x

-- Item k + 1 leaves, and nobody bids yet
unfoldable pub vacated : Auction → ℕ → Auction
vacated b k = displaced_if (released b k) (holder_of (holder_at b k))

-- The first n items of the list leave
unfoldable pub vacated_to : Auction → (ℕ → ℕ) → ℕ → Auction
vacated_to b item zero = b
vacated_to b item (suc n) = vacated (vacated_to b item n) (item n - 1)

-- ---- "then the displaced batches .. in number order"

-- Whether a number is one of the first n of the list
unfoldable pub named_in : (ℕ → ℕ) → ℕ → ℕ → Bool
named_in item zero v = false
named_in item (suc n) v = named_in item n v || eqb (item n) v

-- Whether bidder h + 1 holds an item of the list, on the board handed in; the list has items of the board, so no 0
abbrev pub holds_named : Auction → (ℕ → ℕ) → ℕ → ℕ → Bool
holds_named b item n h = named_in item n (matching_of b h)

-- The bidders of a set below m, in rising number
unfoldable pub roll_of : (ℕ → Bool) → ℕ → List ℕ
roll_of member zero = []
roll_of member (suc m) = cond (member m) (roll_of member m ++ (m ∷ [])) (roll_of member m)

-- The displaced bidders
abbrev pub displaced_by : Auction → (ℕ → ℕ) → ℕ → List ℕ
displaced_by b item n = roll_of (holds_named b item n) b.market.arrived

-- Whether bidder h + 1 is marked
abbrev pub marked : List Bool → ℕ → Bool
marked waiting h = get_or waiting h false

-- Items have left: the board after the first n, and a list of marks of those who held one
pub record Vacates (b : Auction) (item : ℕ → ℕ) (n : ℕ) (c : Auction) (waiting : List Bool) : Type 0 where
  pub board : c ≡ vacated_to b item n
  pub marks : (h : ℕ) → h < b.market.arrived → marked waiting h ≡ holds_named b item n h

-- ---- "bid .., each chain run to its end": the chains that bidders begin, one after the other; the board after the last, and the number of all bids.
-- A bidder that a chain displaces bids within that chain
pub data Chains : Auction → List ℕ → Auction → ℕ → Type 0 where
  ended : {b : Auction} → Chains b [] b 0
  next : {b c d : Auction} {x n m : ℕ} {xs : List ℕ} → Chain b x c n → Chains c xs d m → Chains b (x ∷ xs) d (n + m)

-- ---- The same, computed

-- After n bids
unfoldable pub more_bids : ℕ → Outcome AfterChain → Outcome AfterChain
more_bids n spent = spent
more_bids n (done s) = done (after_chain s.auction (n + s.bids))

-- The chain that bidder x + 1 begins, after what was done before
unfoldable pub next_chain : Outcome AfterChain → ℕ → Outcome AfterChain
next_chain spent x = spent
next_chain (done s) x = more_bids s.bids (settle_of (fuel_of s.auction) s.auction x 0)

unfoldable pub chains_from : Outcome AfterChain → List ℕ → Outcome AfterChain
chains_from o [] = o
chains_from o (x ∷ xs) = chains_from (next_chain o x) xs

unfoldable pub withdrawn_of : Auction → (ℕ → ℕ) → ℕ → Outcome AfterChain
withdrawn_of b item n = chains_from (done (after_chain (vacated_to b item n) 0)) (displaced_by b item n)
