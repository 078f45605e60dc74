-- The rule: which item a bidder takes, what a bid does, and the chain of bids.
use Rattle.std.specs.Prelude.{◌≡◌, Option, Some, None, Bool, cond, ◌&&◌, ◌||◌, ◌⊎◌, ℕ, zero, suc, ◌+◌, ◌-◌, ◌*◌, ◌<◌, ◌≤◌, max, set, eqb, ltb}
use Rattle.duality.specs.Steps.{utility, Open}
use Rattle.board.specs.declared.record.Auction.{Auction}
use Rattle.board.specs.declared.record.Holder.{Holder}
use Rattle.board.specs.declared.record.Holder.TheVariants.{Held, Free}
use Rattle.bidding.specs.declared.rule.Best.{Best}
use Rattle.board.specs.declared.units.Pence.{Pence}
use Rattle.board.specs.declared.units.Scaled.{Scaled}
use Rattle.board.specs.Cells.{scaled, pence, with_state, price_at, holder_at, holder_of}
use Rattle.board.specs.Live.{live}
use Rattle.bidding.specs.Potential.{bid_limit}

-- ---- Which item. m is the number of items, w k the weight of the bidder's live edge at item k + 1, y k the item's price.

-- "A bidding batch takes its open live entry of greatest utility" (document 01); "of two kettles with equal utility a batch takes the one with the larger
-- worth, and only then the lower number" (document 02, R-1). A field for each: greatest, heaviest, lowest.
pub record Chosen (p q m : ℕ) (w y : ℕ → ℕ) (k : ℕ) : Type 0 where
  pub item : k < m
  pub «open» : Open p q (w k) (y k)
  pub greatest : (j : ℕ) → j < m → Open p q (w j) (y j) → utility q (w j) (y j) ≤ utility q (w k) (y k)
  pub heaviest : (j : ℕ) → j < m → Open p q (w j) (y j) → utility q (w j) (y j) ≡ utility q (w k) (y k) → w j ≤ w k
  pub lowest : (j : ℕ) → j < m → Open p q (w j) (y j) → utility q (w j) (y j) ≡ utility q (w k) (y k) → w j ≡ w k → k ≤ j

-- "the greatest utility of any other open place of that batch, 0 if none" (document 02, R-7): s beside item k + 1. An item is here a place; another place
-- of the same kettle is another.
pub record Second (p q m : ℕ) (w y : ℕ → ℕ) (k s : ℕ) : Type 0 where
  pub greatest : (j : ℕ) → j < m → (j ≡ k → ⊥) → Open p q (w j) (y j) → utility q (w j) (y j) ≤ s
  pub reached : ((j : ℕ) × (j < m) × (j ≡ k → ⊥) × Open p q (w j) (y j) × (utility q (w j) (y j) ≡ s)) ⊎ (s ≡ 0)

-- No edge is open
abbrev pub NoneOpen : ℕ → ℕ → ℕ → (ℕ → ℕ) → (ℕ → ℕ) → Type 0
NoneOpen p q m w y = (k : ℕ) → k < m → Open p q (w k) (y k) → ⊥

-- An edge of utility u and weight w goes before the best so far, of utility g and weight v: its utility is greater, or equal and its weight greater.
-- Items are looked at in rising order, so where both are equal the lower item stays.
abbrev pub beats : ℕ → ℕ → ℕ → ℕ → Bool
beats u w g v = ltb g u || (eqb u g && ltb v w)

-- What a bidder takes, if anything: item k + 1, whose edge has weight w and utility u, and beside it the second utility s
abbrev pub best_edge : ℕ → Pence → Scaled → Scaled → Best
best_edge k w u s = record { item = k; weight = w; utility = u; second = s }

-- One more open edge, at item k + 1, beside the best so far and the second's utility: it goes before, and what was best is second; or it may be second
abbrev pub ranked : ℕ → ℕ → ℕ → Option Best → Option Best
ranked k w u None = Some (best_edge k (pence w) (scaled u) (scaled 0))
ranked k w u (Some b) =
    cond (beats u w b.utility.0 b.weight.0) (Some (best_edge k (pence w) (scaled u) b.utility)) (Some (best_edge b.item b.weight b.utility (scaled (max b.second.0 u))))

-- The best so far, after the edge at item k + 1 has been looked at
unfoldable pub offer_of : ℕ → ℕ → ℕ → ℕ → ℕ → Option Best → Option Best
offer_of p q k w y best = cond (ltb (p * w) (utility q w y)) (ranked k w (utility q w y) best) best

-- The best of the first m items, computed: the chosen one with its weight, its utility and the second utility, or nothing (RuleLaws says so)
unfoldable pub best_of : ℕ → ℕ → (ℕ → ℕ) → (ℕ → ℕ) → ℕ → Option Best
best_of p q w y zero = None
best_of p q w y (suc k) = offer_of p q k (w k) (y k) (best_of p q w y k)

-- ---- What a bid does.

-- Bidder i + 1 has item k + 1, at a gain of g, and the item's price is y
unfoldable pub placed_at : Auction → ℕ → ℕ → ℕ → ℕ → Auction
placed_at b i k g y =
    with_state b
    (record { price = set b.state.price k (scaled y); holder = set b.state.holder k (suc i); gain = set b.state.gain i (scaled g) })

-- "the price rises by the lead plus p × w" (document 02, R-7); the lead is the utility less the second
abbrev pub raised_to : ℕ → ℕ → ℕ → ℕ → ℕ
raised_to p w lead y = y + (lead + p * w)

-- "The gain becomes that second utility", s
abbrev pub bidden : Auction → ℕ → ℕ → ℕ → Auction
bidden b i k s =
    placed_at b i k s (raised_to b.market.slack.p (live b i k) (utility b.market.slack.q (live b i k) (price_at b k) - s) (price_at b k))

-- "is displaced, its gain becomes 0"
unfoldable pub displaced : Auction → ℕ → Auction
displaced b i = with_state b (record { price = b.state.price; holder = b.state.holder; gain = set b.state.gain i (scaled 0) })

-- ---- The chain of bids that bidder i + 1 begins: the board after it, and the number of bids. One constructor for each sentence.
pub data Chain : Auction → ℕ → Auction → ℕ → Type 0 where
  -- "A batch with no open entry stays unplaced with gain 0"
  stays : {b : Auction} {i : ℕ} → NoneOpen b.market.slack.p b.market.slack.q b.market.items (live b i) (price_at b) → Chain b i b 0
  -- "A kettle that nobody holds ends the chain of bids"
  takes : {b : Auction} {i k s : ℕ} → Chosen b.market.slack.p b.market.slack.q b.market.items (live b i) (price_at b) k →
      Second b.market.slack.p b.market.slack.q b.market.items (live b i) (price_at b) k s →
      holder_of (holder_at b k) ≡ Free → Chain b i (bidden b i k s) 1
  -- "The batch that held the kettle, if any, is displaced, its gain becomes 0, and it bids next"
  displaces : {b c : Auction} {i k s x n : ℕ} → Chosen b.market.slack.p b.market.slack.q b.market.items (live b i) (price_at b) k →
      Second b.market.slack.p b.market.slack.q b.market.items (live b i) (price_at b) k s →
      holder_of (holder_at b k) ≡ Held x → Chain (displaced (bidden b i k s) x) x c n → Chain b i c (suc n)

-- ---- The chain, computed. The bids are bounded by a number; where that is spent there is no outcome, and no call answers so (RuleLaws).
pub data Outcome (A : Type 0) : Type 0 where
  done : A → Outcome A
  spent : Outcome A

abbrev pub best_for : Auction → ℕ → Option Best
best_for b i = best_of b.market.slack.p b.market.slack.q (live b i) (price_at b) b.market.items

-- A board after a chain of bids, and how many they were
pub record AfterChain : Type 0 where
  pub auction : Auction
  pub bids : ℕ

abbrev pub after_chain : Auction → ℕ → AfterChain
after_chain b bids = record { auction = b; bids = bids }

-- Whoever held the item bids next: `again` makes the rest of the chain
unfoldable pub hand_over : (Auction → ℕ → ℕ → Outcome AfterChain) → Auction → ℕ → Holder → Outcome AfterChain
hand_over again b bids Free = done (after_chain b bids)
hand_over again b bids (Held x) = again (displaced b x) x bids

unfoldable pub bid_of : (Auction → ℕ → ℕ → Outcome AfterChain) → Auction → ℕ → ℕ → Option Best → Outcome AfterChain
bid_of again b i bids None = done (after_chain b bids)
bid_of again b i bids (Some e) = hand_over again (bidden b i e.item e.second.0) (bids + 1) (holder_of (holder_at b e.item))

-- The chain that bidder i + 1 begins, after so many bids, of at most `fuel` turns
unfoldable pub settle_of : ℕ → Auction → ℕ → ℕ → Outcome AfterChain
settle_of zero b i bids = spent
settle_of (suc fuel) b i bids = bid_of (settle_of fuel) b i bids (best_for b i)

-- One turn more than there can be bids
abbrev pub fuel_of : Auction → ℕ
fuel_of b = suc (bid_limit b)
