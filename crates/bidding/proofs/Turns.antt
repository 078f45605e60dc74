-- A turn of the chain's loop: what the bid finds fits the code's types, and the board that the code makes is the rule's.
use mathlib.Core.Path.{◌≡◌, refl, sym, ap, ◌∙◌}
use mathlib.Core.Bool.{Bool, true, false, cond}
use Prim.Native.Nat.{ℕ, zero, suc, ◌+◌, ◌-◌, ◌*◌, ◌<◌, ◌≤◌}
use native.Mathlib.Nat.{mul-le-mul, le_trans, div-le_self}
use native.Mathlib.Omega.{arith}
use lib.ListN.{length, take, drop, length-take, length-drop}
use mathlib.Core.List.{List}
use Rattle.duality.proofs.Sums.{sum_to-most}
use Rattle.duality.specs.Steps.{utility, most}
use Rattle.board.specs.declared.record.Auction.{Auction}
use Rattle.board.specs.declared.units.Pence.{Pence}
use Rattle.board.specs.declared.units.Scaled.{Scaled}
use Rattle.board.specs.declared.record.Holder.TheVariants.{Held, Free}
use Rattle.std.proofs.Common.{Some, None}
use Rattle.bidding.specs.Rule.{best_edge, best_for, bidden, displaced, settle_of, fuel_of, after_chain, done}
use Rattle.board.specs.Limits.{max_items, max_bidders, max_weight, max_q}
use Rattle.board.specs.Cells.{pence, scaled, price_at, holder_at, holder_of, weight_at, withdrawn_at, row_in}
use Rattle.board.specs.Live.{live}
use Rattle.bidding.specs.Potential.{one, edge_count, potential, bid_limit}
use Rattle.bidding.specs.Waiting.{SoundBut, Ready}
use Rattle.bidding.proofs.Choices.{best-at, second-within}
use Rattle.bidding.proofs.Bids.{rule-admissible}
use Rattle.bidding.proofs.Potentials.{potential-within, bid-raises, potential-displaced}
use Rattle.bidding.proofs.Chains.{settle-none, settle-free, settle-held, limit-on, ready_on}

one-most : (w : ℕ) → one w ≤ 1
one-most zero = omega arith
one-most (suc w) = omega arith

-- The most bids that there can be, in numbers
pub limit-small : (b : Auction) → b.market.items ≤ max_items → b.market.arrived ≤ max_bidders → b.market.slack.q ≤ max_q → bid_limit b ≤ max_bidders * max_items * max_q
unfolding edge_count
limit-small b li la lq =
    let edges : edge_count b ≤ b.market.arrived * b.market.items =
    sum_to-most b.market.arrived b.market.items _ (λ i _. omega (arith, sum_to-most b.market.items 1 (λ k. one (weight_at b i k)) (λ k _. one-most (weight_at b i k)))) in
    let cells : b.market.arrived * b.market.items ≤ max_bidders * max_items = mul-le-mul la li in
    let steps : most b.market.slack.p b.market.slack.q ≤ max_q = omega (arith, div-le_self (b.market.slack.q - 1) b.market.slack.p) in
    mul-le-mul {m₂ = max_q} (le_trans edges cells) steps

-- A chain on its way: what it began with, and what there is now
pub record Going (b₀ : Auction) (i₀ : ℕ) (b : Auction) (i bids : ℕ) : Type 0 where
  pub ready : Ready b i
  pub limit : bid_limit b ≡ bid_limit b₀
  pub made : bids ≤ potential b
  pub same : settle_of (fuel_of b₀ - bids) b i bids ≡ settle_of (fuel_of b₀) b₀ i₀ 0

pub going-starts : {b : Auction} {i : ℕ} → Ready b i → Going b i b i 0
going-starts {b} {i} r = record { ready = r; limit = refl; made = omega arith; same = let z : fuel_of b - 0 ≡ fuel_of b = omega arith in rw z }

-- The weight of a live edge
pub live_small : {waits : ℕ → Type 0} {b : Auction} → SoundBut waits b → (i k : ℕ) → i < b.market.arrived → k < b.market.items → live b i k ≤ max_weight
live_small {b = b} s i k li lk = go (withdrawn_at b k) (s.weights i k li lk)
  where
    go : (t : Bool) → weight_at b i k ≤ max_weight → cond t 0 (weight_at b i k) ≤ max_weight
    go true h = omega arith
    go false h = h

-- What a bid finds: an item, its weight within the limit, its utility, and a second utility that is no greater
pub record Found (b : Auction) (i k : ℕ) (v : Pence) (u s : Scaled) : Type 0 where
  pub item : k < max_items
  pub weight : v ≡ pence (live b i k)
  pub small : v.0 ≤ max_weight
  pub utility : u ≡ scaled (utility b.market.slack.q (live b i k) (price_at b k))
  pub second : s.0 ≤ u.0

module _ {b₀ : Auction} {i₀ : ℕ} {b : Auction} {i bids : ℕ} (g : Going b₀ i₀ b i bids) where
  within-limit : bids ≤ bid_limit b₀
  within-limit = omega (arith, g.made, g.limit, potential-within b)

  turns : fuel_of b₀ - bids ≡ suc (bid_limit b₀ - bids)
  turns = omega (arith, within-limit)

  -- No edge is open
  pub going-ends : best_for b i ≡ None → done (after_chain b bids) ≡ settle_of (fuel_of b₀) b₀ i₀ 0
  going-ends e = sym (rw turns (settle-none _ b i bids e)) ∙ g.same

  -- The count of bids fits, and fuel is left
  pub counts : bids ≤ max_bidders * max_items * max_q
  counts =
      let s = g.ready.sound in
      omega (arith, within-limit, g.limit, limit-small b s.items.1 s.arrived s.slack.high)

  pub less : fuel_of b₀ - (bids + 1) < fuel_of b₀ - bids
  less = omega (arith, within-limit)

  module _ {k : ℕ} {v : Pence} {u s : Scaled} (e : best_for b i ≡ Some (best_edge k v u s)) where
    pub found : Found b i k v u s
    found =
        let a = best-at _ _ _ _ _ k v u s e in
        let r = g.ready.sound in
        let w : v.0 ≡ live b i k = ap (λ (x : Pence). x.0) a.weight in
        let x : u.0 ≡ utility b.market.slack.q (live b i k) (price_at b k) = ap (λ (x : Scaled). x.0) a.utility in
        record {
          item = omega (arith, a.chosen.item, r.items);
          weight = a.weight;
          small = rw w (live_small r i k g.ready.bidder a.chosen.item);
          utility = a.utility;
          second = rw x (second-within _ _ _ _ _ k s.0 a.chosen a.second);
        }

    -- c is the board that the steps of the bid leave. The item was free
    pub turn-ends : (c : Auction) → c ≡ bidden b i k s.0 → holder_of (holder_at b k) ≡ Free → done (after_chain c (bids + 1)) ≡ settle_of (fuel_of b₀) b₀ i₀ 0
    turn-ends c after f = rw after (sym (rw turns (settle-free _ b i bids k v u s e f)) ∙ g.same)

    -- The item was held, and its holder bids next
    pub turn_on : (c : Auction) (x : ℕ) → c ≡ displaced (bidden b i k s.0) x → holder_of (holder_at b k) ≡ Held x → Going b₀ i₀ c x (bids + 1)
    turn_on c x after f =
        let t = best-at _ _ _ _ _ k v u s e in
        let a = rule-admissible b i k s.0 t.chosen t.second in
        let fuel : fuel_of b₀ - (bids + 1) ≡ bid_limit b₀ - bids = omega (arith, within-limit) in
        rw after (record {
          ready = ready_on g.ready e f;
          limit = limit-on b i k s.0 x ∙ g.limit;
          made = omega (arith, g.made, bid-raises _ b i k _ _ g.ready.sound g.ready.bidder a, potential-displaced (bidden b i k s.0) x);
          same = rw fuel (sym (settle-held _ b i bids k v u s e x f) ∙ (sym (rw turns) ∙ g.same));
        })

-- A bidder's row is a part of the weights
pub row-part : (w : List ℕ) (i : ℕ) → take (i * max_items + max_items - i * max_items) (drop (i * max_items) w) ≡ row_in w i
row-part w i = let e : i * max_items + max_items - i * max_items ≡ max_items = omega arith in rw e

pub row-part-length : (w : List ℕ) (i : ℕ) → i < max_bidders → length w ≡ max_bidders * max_items → length (take (i * max_items + max_items - i * max_items) (drop (i * max_items) w)) ≡ max_items
row-part-length w i l e = rw (row-part w i) (omega (arith, length-take max_items (drop (i * max_items) w), length-drop (i * max_items) w))
