-- The chain of bids: there is one outcome, it is sound, its bids are bounded, and the computed chain is it.
use mathlib.Core.Path.{◌≡◌, refl, sym, ap, subst₂, ◌∙◌}
use mathlib.Core.Logic.{◌⊎◌}
use mathlib.Core.Bool.{true}
use Prim.Native.Nat.{ℕ, zero, suc, ◌+◌, ◌<◌}
use native.Mathlib.Omega.{arith}
use Rattle.duality.proofs.Decide.{clash, false-is, true-decides}
use Rattle.board.specs.declared.record.Auction.{Auction}
use Rattle.board.specs.declared.units.Pence.{Pence}
use Rattle.board.specs.declared.units.Scaled.{Scaled}
use Rattle.board.specs.declared.record.Holder.{Holder}
use Rattle.board.specs.declared.record.Holder.TheVariants.{Held, Free}
use Rattle.bidding.specs.declared.rule.Best.{Best}
use Rattle.std.proofs.Common.{Option, Some, None}
use Rattle.bidding.specs.Rule.{best_edge, Chosen, Second, NoneOpen, placed_at, bidden, displaced, Chain, stays, takes, displaces, done, best_for, after_chain, hand_over, bid_of, settle_of, fuel_of}
use Rattle.board.specs.Cells.{price_at, holder_at, holder_of}
use Rattle.board.specs.Live.{live}
use Rattle.bidding.specs.Potential.{edge_count, potential, bid_limit}
use Rattle.bidding.specs.Waiting.{SoundBut, Ready}
use Rattle.bidding.specs.RuleLaws.{ChainOnce, Ends, ChainEnds, SettleIsChain}
use Rattle.bidding.proofs.Choices.{chosen-once, second-once, best-at, best-nothing}
use Rattle.bidding.proofs.Bids.{rule-admissible, stays-sound, free-bid-sound, held-bid-sound}
use Rattle.bidding.proofs.Potentials.{potential-within, bid-raises, limit-placed, limit-displaced, potential-displaced}

-- The item that the rule chooses for a bidder, the second utility beside it, and that it chooses none
abbrev Chooses : Auction → ℕ → ℕ → Type 0
Chooses b i k = Chosen b.market.slack.p b.market.slack.q b.market.items (live b i) (price_at b) k

abbrev Seconds : Auction → ℕ → ℕ → ℕ → Type 0
Seconds b i k s = Second b.market.slack.p b.market.slack.q b.market.items (live b i) (price_at b) k s

abbrev Rests : Auction → ℕ → Type 0
Rests b i = NoneOpen b.market.slack.p b.market.slack.q b.market.items (live b i) (price_at b)

-- ---- There is one outcome
abbrev Same : Auction → ℕ → Auction → ℕ → Type 0
Same c n d m = (c ≡ d) × (n ≡ m)

once-stays : {b : Auction} {i : ℕ} {d : Auction} {m : ℕ} → Rests b i → Chain b i d m → Same b 0 d m
once-stays h (stays g) = (refl, refl)
once-stays h (takes c s e) = absurd (h _ c.item c.«open»)
once-stays h (displaces c s e r) = absurd (h _ c.item c.«open»)

-- A bidder's item and second utility are one, so its bid is
once-bid : (b : Auction) (i : ℕ) {k j s t : ℕ} → Chooses b i k → Seconds b i k s → Chooses b i j → Seconds b i j t → bidden b i k s ≡ bidden b i j t
once-bid b i {k} {j} {s} {t} c r g u =
    let same : k ≡ j = chosen-once _ _ _ _ _ k j c g in
    let left : s ≡ t = second-once _ _ _ _ _ j s t (rw same at r) u in
    rw (same, left) refl

once-takes : {b : Auction} {i k s : ℕ} {d : Auction} {m : ℕ} → Chooses b i k → Seconds b i k s → holder_of (holder_at b k) ≡ Free → Chain b i d m → Same (bidden b i k s) 1 d m
once-takes c r e (stays h) = absurd (h _ c.item c.«open»)
once-takes {b} {i = i} c r e (takes g u f) = (once-bid b i c r g u, refl)
once-takes {b} {k = k} c r e (displaces {k = j} g u f t) =
    let same : k ≡ j = chosen-once _ _ _ _ _ k j c g in
    let z : ◌≡◌ {A = ℕ} 0 1 = cc in absurd (omega arith)

once-displaces : {b c : Auction} {i k s x n : ℕ} {d : Auction} {m : ℕ} → Chooses b i k → Seconds b i k s → holder_of (holder_at b k) ≡ Held x →
    ((d : Auction) (m : ℕ) → Chain (displaced (bidden b i k s) x) x d m → Same c n d m) → Chain b i d m → Same c (suc n) d m
once-displaces c r e ih (stays h) = absurd (h _ c.item c.«open»)
once-displaces {b} {k = k} c r e ih (takes {k = j} g u f) =
    let same : k ≡ j = chosen-once _ _ _ _ _ k j c g in
    let z : ◌≡◌ {A = ℕ} 0 1 = cc in absurd (omega arith)
once-displaces {b} {i = i} {k} {x = x} c r e ih (displaces {c = d} {k = j} {x = h} {n = m} g u f t) =
    let same : j ≡ k = chosen-once _ _ _ _ _ j k g c in
    let next : h ≡ x = cc in
    let o = ih d m (subst₂ (λ b h. Chain (displaced b h) h d m) (once-bid b i g u c r) next t) in
    (o.0, ap suc o.1)

once : {b c d : Auction} {i n m : ℕ} → Chain b i c n → Chain b i d m → Same c n d m
once (stays h) t = once-stays h t
once (takes c s e) t = once-takes c s e t
once (displaces c s e r) t = once-displaces c s e (λ d m u. once r u) t

pub chain-once : ChainOnce
chain-once b c d i n m = once

-- ---- It ends sound, and its bids number at most the rise of the potential
module _ {waits : ℕ → Type 0} where
  ends : {b c : Auction} {i n : ℕ} → SoundBut (λ h. waits h ⊎ (h ≡ i)) b → i < b.market.arrived → (waits i → ⊥) → Chain b i c n → Ends waits b c n
  ends s li rests (stays h) = record { sound = stays-sound s li rests h; counted = omega arith }
  ends {b} {i = i} s li rests (takes {k = k} c t e) =
      let a = rule-admissible b i k _ c t in
      record { sound = free-bid-sound waits b i k _ _ s li rests a e; counted = omega (arith, bid-raises _ b i k _ _ s li a) }
  ends {b} {i = i} s li rests (displaces {k = k} {s = second} {x = x} c t e r) =
      let a = rule-admissible b i k second c t in
      let d = held-bid-sound waits b i k x _ _ s li rests a e in
      let o = ends d.sound d.bidder d.new r in
      record { sound = o.sound; counted = omega (arith, o.counted, bid-raises _ b i k _ _ s li a, potential-displaced (bidden b i k second) x) }

pub chain-ends : ChainEnds
chain-ends waits b c i n s li rests r = ends s li rests r

-- It adds no edge
pub chain-count : {b c : Auction} {i n : ℕ} → Chain b i c n → edge_count c ≡ edge_count b
unfolding edge_count placed_at displaced
chain-count (stays h) = refl
chain-count (takes c s e) = refl
chain-count (displaces c s e r) = chain-count r

-- ---- The computed chain, turn by turn
pub settle-none : (fuel : ℕ) (b : Auction) (i bids : ℕ) → best_for b i ≡ None → settle_of (suc fuel) b i bids ≡ done (after_chain b bids)
unfolding settle_of bid_of
settle-none fuel b i bids e = rw e

module _ (fuel : ℕ) (b : Auction) (i bids k : ℕ) (v : Pence) (u s : Scaled) (e : best_for b i ≡ Some (best_edge k v u s)) where
  pub settle-free : holder_of (holder_at b k) ≡ Free → settle_of (suc fuel) b i bids ≡ done (after_chain (bidden b i k s.0) (bids + 1))
  unfolding settle_of bid_of hand_over
  settle-free h = rw (e, h)

  pub settle-held : (x : ℕ) → holder_of (holder_at b k) ≡ Held x → settle_of (suc fuel) b i bids ≡ settle_of fuel (displaced (bidden b i k s.0) x) x (bids + 1)
  unfolding settle_of bid_of hand_over
  settle-held x h = rw (e, h)

-- The limit stays what it is along a chain
pub limit-on : (b : Auction) (i k s x : ℕ) → bid_limit (displaced (bidden b i k s) x) ≡ bid_limit b
limit-on b i k s x = limit-displaced (bidden b i k s) x ∙ limit-placed b i k _ _

-- What so many turns come to
record Runs (fuel : ℕ) (b : Auction) (i bids : ℕ) : Type 0 where
  board : Auction
  more : ℕ
  computed : settle_of fuel b i bids ≡ done (after_chain board (bids + more))
  chain : Chain b i board more

-- Enough turns, for whoever is to bid
abbrev AllRun : (ℕ → Type 0) → ℕ → Type 0
AllRun waits fuel =
    (b : Auction) (i bids : ℕ) → SoundBut (λ h. waits h ⊎ (h ≡ i)) b → i < b.market.arrived → (waits i → ⊥) → bid_limit b < fuel + potential b →
    Runs fuel b i bids

module _ {waits : ℕ → Type 0} {fuel : ℕ} (ih : AllRun waits fuel) {b : Auction} {i bids : ℕ} (s : SoundBut (λ h. waits h ⊎ (h ≡ i)) b)
    (li : i < b.market.arrived) (rests : waits i → ⊥) (l : bid_limit b < suc fuel + potential b) where
  hand : {k : ℕ} {v : Pence} {u t : Scaled} → best_for b i ≡ Some (best_edge k v u t) → Chooses b i k → Seconds b i k t.0 → (h : Holder) → holder_of (holder_at b k) ≡ h →
      Runs (suc fuel) b i bids
  hand {k} {v} {u} {t} e c y Free f = record { board = bidden b i k t.0; more = 1; computed = settle-free fuel b i bids k v u t e f; chain = takes c y f }
  hand {k} {v} {u} {t} e c y (Held x) f =
      let a = rule-admissible b i k t.0 c y in
      let d = held-bid-sound waits b i k x _ _ s li rests a f in
      after (ih _ x (bids + 1) d.sound d.bidder d.new
      (omega (arith, bid-raises _ b i k _ _ s li a, potential-displaced (bidden b i k t.0) x, limit-on b i k t.0 x)))
    where
      after : Runs fuel (displaced (bidden b i k t.0) x) x (bids + 1) → Runs (suc fuel) b i bids
      after r =
          let sum : bids + 1 + r.more ≡ bids + suc r.more = omega arith in
          record {
            board = r.board;
            more = suc r.more;
            computed = rw (settle-held fuel b i bids k v u t e x f, r.computed, sum);
            chain = displaces c y f r.chain;
          }

  turn : (best : Option Best) → best_for b i ≡ best → Runs (suc fuel) b i bids
  turn None e =
      let sum : bids + 0 ≡ bids = omega arith in
      record { board = b; more = 0; computed = rw sum (settle-none fuel b i bids e); chain = stays (best-nothing _ _ _ _ _ e) }
  turn (Some t) e = let a = best-at _ _ _ _ _ t.item t.weight t.utility t.second e in hand {k = t.item} {v = t.weight} {u = t.utility} {t = t.second} e a.chosen a.second (holder_of (holder_at b t.item)) refl

runs : (waits : ℕ → Type 0) (fuel : ℕ) → AllRun waits fuel
runs waits zero b i bids s li rests l = absurd (omega (arith, potential-within b))
runs waits (suc fuel) b i bids s li rests l = turn (runs waits fuel) s li rests l (best_for b i) refl

pub settle-is-chain : SettleIsChain
settle-is-chain waits b i s li rests =
    let r = runs waits (fuel_of b) b i 0 s li rests (omega arith) in
    let sum : 0 + r.more ≡ r.more = omega arith in
    record { board = r.board; bids = r.more; computed = rw sum at r.computed; chain = r.chain }

-- ---- For a loop that makes the chain: one bidder is to bid, and others wait
pub ready_on : {b : Auction} {i k x : ℕ} {v : Pence} {u s : Scaled} → Ready b i → best_for b i ≡ Some (best_edge k v u s) → holder_of (holder_at b k) ≡ Held x →
    Ready (displaced (bidden b i k s.0) x) x
ready_on {b} {i} {k} {x} {v} {u} {s} r e f =
    let t = best-at _ _ _ _ _ k v u s e in
    let a = rule-admissible b i k s.0 t.chosen t.second in
    let d = held-bid-sound (λ h. r.others h ≡ true) b i k x _ _ r.sound r.bidder (λ t. clash _ t r.new) a f in
    record { bidder = d.bidder; others = r.others; new = sym (false-is (r.others x) (true-decides _) d.new); sound = d.sound }
