-- Statements about the rule: what the computed definitions mean, that a bid keeps the board sound, and how many bids there are.
use Rattle.std.specs.Prelude.{◌≡◌, Option, Some, None, ◌↔◌, ◌⊎◌, ℕ, ◌+◌, ◌-◌, ◌*◌, ◌≤◌, ◌<◌}
use Rattle.duality.specs.Steps.{utility, Open}
use Rattle.board.specs.declared.record.Auction.{Auction}
use Rattle.board.specs.declared.record.Holder.TheVariants.{Held, Free}
use Rattle.bidding.specs.declared.rule.Best.{Best}
use Rattle.bidding.specs.Rule.{best_edge, Chosen, Second, NoneOpen, best_of, raised_to, placed_at, displaced, Chain, settle_of, after_chain, fuel_of, done}
use Rattle.board.specs.Cells.{pence, scaled, price_at, holder_at, holder_of}
use Rattle.board.specs.Live.{live}
use Rattle.board.specs.Sound.{Sound}
use Rattle.bidding.specs.Potential.{potential, bid_limit}
use Rattle.bidding.specs.Waiting.{SoundBut, Nobody, Admissible}

-- ---- Which item.

-- What an answer says: the chosen item with its weight, its utility and the second utility, or that no edge is open
pub data Choice (p q m : ℕ) (w y : ℕ → ℕ) : Option Best → Type 0 where
  chosen : {k s : ℕ} → Chosen p q m w y k → Second p q m w y k s → Choice p q m w y (Some (best_edge k (pence (w k)) (scaled (utility q (w k) (y k))) (scaled s)))
  none : NoneOpen p q m w y → Choice p q m w y None

-- The computed answer is right, and there is only one right answer
abbrev pub BestIsChosen : Type 0
BestIsChosen = (p q m : ℕ) (w y : ℕ → ℕ) → Choice p q m w y (best_of p q w y m)

abbrev pub ChosenOnce : Type 0
ChosenOnce = (p q m : ℕ) (w y : ℕ → ℕ) (j k : ℕ) → Chosen p q m w y j → Chosen p q m w y k → j ≡ k

-- There is one second utility beside an item, and beside the chosen one it is no greater than that one's
abbrev pub SecondOnce : Type 0
SecondOnce = (p q m : ℕ) (w y : ℕ → ℕ) (k s t : ℕ) → Second p q m w y k s → Second p q m w y k t → s ≡ t

abbrev pub SecondWithin : Type 0
SecondWithin = (p q m : ℕ) (w y : ℕ → ℕ) (k s : ℕ) → Chosen p q m w y k → Second p q m w y k s → s ≤ utility q (w k) (y k)

-- Beside any open edge of equal utility, the one that is taken has "the larger worth, and only then the lower number"
abbrev pub TiesByWeight : Type 0
TiesByWeight =
    (p q m : ℕ) (w y : ℕ → ℕ) (j k : ℕ) → Chosen p q m w y k → j < m → Open p q (w j) (y j) → utility q (w j) (y j) ≡ utility q (w k) (y k) →
    (w j < w k) ⊎ ((w j ≡ w k) × (k ≤ j))

-- ---- The rule's bid (document 02, R-7)

-- "placed pairs still sum to (q + p) × w": the second utility is the gain, and the price rises by the lead plus p × w
abbrev pub PairsWhole : Type 0
PairsWhole =
    (p q m : ℕ) (w y : ℕ → ℕ) (k s : ℕ) → Chosen p q m w y k → Second p q m w y k s →
    s + raised_to p (w k) (utility q (w k) (y k) - s) (y k) ≡ (q + p) * w k

-- It is an admissible one: the laws below are of all of these
abbrev pub RuleAdmissible : Type 0
RuleAdmissible =
    (b : Auction) (i k s : ℕ) → Chosen b.market.slack.p b.market.slack.q b.market.items (live b i) (price_at b) k →
    Second b.market.slack.p b.market.slack.q b.market.items (live b i) (price_at b) k s →
    Admissible b i k s (raised_to b.market.slack.p (live b i k) (utility b.market.slack.q (live b i k) (price_at b k) - s) (price_at b k))

-- ---- A bid keeps soundness. `waits` is any set of further bidders that are still to bid; i is not of it.

-- Sound is sound but for nobody
abbrev pub SoundIsSettled : Type 0
SoundIsSettled = (b : Auction) → Sound b ↔ SoundBut Nobody b

-- Of an admissible bid for a free item
abbrev pub FreeBidSound : Type 1
FreeBidSound =
    (waits : ℕ → Type 0) (b : Auction) (i k g y : ℕ) →
    SoundBut (λ h. waits h ⊎ (h ≡ i)) b → i < b.market.arrived → (waits i → ⊥) → Admissible b i k g y →
    holder_of (holder_at b k) ≡ Free → SoundBut waits (placed_at b i k g y)

-- Of an admissible bid for a held item: its holder is displaced, and is to bid
pub record Displaced (waits : ℕ → Type 0) (b : Auction) (x : ℕ) : Type 0 where
  pub bidder : x < b.market.arrived
  pub new : waits x → ⊥
  pub sound : SoundBut (λ h. waits h ⊎ (h ≡ x)) b

abbrev pub HeldBidSound : Type 1
HeldBidSound =
    (waits : ℕ → Type 0) (b : Auction) (i k x g y : ℕ) →
    SoundBut (λ h. waits h ⊎ (h ≡ i)) b → i < b.market.arrived → (waits i → ⊥) → Admissible b i k g y →
    holder_of (holder_at b k) ≡ Held x → Displaced waits (displaced (placed_at b i k g y) x) x

-- The potential rises by one or more at an admissible bid, and is at most the limit
abbrev pub BidRaises : Type 1
BidRaises =
    (waits : ℕ → Type 0) (b : Auction) (i k g y : ℕ) → SoundBut waits b → i < b.market.arrived → Admissible b i k g y →
    potential b + 1 ≤ potential (placed_at b i k g y)

abbrev pub PotentialWithin : Type 0
PotentialWithin = (b : Auction) → potential b ≤ bid_limit b

-- ---- The chain.

-- There is one outcome
abbrev pub ChainOnce : Type 0
ChainOnce = (b c d : Auction) (i n m : ℕ) → Chain b i c n → Chain b i d m → (c ≡ d) × (n ≡ m)

-- A chain ends in a board that is sound but for the others that wait, and its bids number at most the rise of the potential
pub record Ends (waits : ℕ → Type 0) (b c : Auction) (n : ℕ) : Type 0 where
  pub sound : SoundBut waits c
  pub counted : n + potential b ≤ potential c

abbrev pub ChainEnds : Type 1
ChainEnds =
    (waits : ℕ → Type 0) (b c : Auction) (i n : ℕ) →
    SoundBut (λ h. waits h ⊎ (h ≡ i)) b → i < b.market.arrived → (waits i → ⊥) → Chain b i c n → Ends waits b c n

-- The computed chain is the chain: it is never spent
pub record Settles (b : Auction) (i : ℕ) : Type 0 where
  pub board : Auction
  pub bids : ℕ
  pub computed : settle_of (fuel_of b) b i 0 ≡ done (after_chain board bids)
  pub chain : Chain b i board bids

abbrev pub SettleIsChain : Type 1
SettleIsChain =
    (waits : ℕ → Type 0) (b : Auction) (i : ℕ) →
    SoundBut (λ h. waits h ⊎ (h ≡ i)) b → i < b.market.arrived → (waits i → ⊥) → Settles b i
