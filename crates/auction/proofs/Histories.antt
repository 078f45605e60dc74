-- Every history: the board is sound, its edges are those accepted, and its potential speaks for all the bids.
use mathlib.Core.Path.{◌≡◌, refl, sym, ap, ◌∙◌}
use mathlib.Core.List.{List, [], ◌∷◌}
use Prim.Native.Nat.{ℕ, ◌+◌, ◌-◌, ◌≤◌}
use native.Mathlib.Nat.{add-zero, le_trans}
use native.Mathlib.Omega.{arith}
use lib.ListN.{length, get_or}
use Rattle.board.specs.declared.record.Auction.{Auction}
use Rattle.board.specs.declared.record.Edge.{Edge}
use Rattle.supply.specs.declared.record.Board.{Board}
use Rattle.supply.specs.declared.record.Items.{Items}
use Rattle.supply.specs.Board.{auction_of, places_in, all_places}
use Rattle.supply.specs.ByItem.{withdrawn_at}
use Rattle.supply.specs.Sound.{Sound}
use Rattle.bidding.specs.Potential.{one, edge_count, potential}
use Rattle.board.specs.Opening as place
use Rattle.supply.specs.Opening.{opened}
use Rattle.bidding.specs.Withdrawals.{Chains, ended, next}
use Rattle.bidding.specs.WithdrawalLaws.{AllGone}
use Rattle.auction.specs.Edges.{item_in, weight_in}
use Rattle.auction.specs.Arrive.{row_on, arrived_told}
use Rattle.auction.specs.Withdraw.{withdrawn_told}
use Rattle.auction.specs.Histories.{once_per_place, edges_added, Reached, opens, arrives, withdraws, HistoryDemand2}
use Rattle.bidding.proofs.Potentials.{row_count, potential-within, potential-entered, count-entered}
use Rattle.bidding.proofs.Chains.{chain-count}
use Rattle.bidding.proofs.Vacating.{all_go}
use Rattle.auction.proofs.EdgesLaw.{EdgesAccepted, row-weighted}
use Rattle.auction.proofs.Demand2.{row_of, arrive-all, withdraw-all}
use Rattle.auction.proofs.Opening.{opening-sound}
use Rattle.duality.specs.Sums.{sum_to}
use Rattle.duality.proofs.Sums.{sum_to-eq, sum_to-head}
use Rattle.places.proofs.PlaceLaws.{once-per-place}
use Rattle.supply.proofs.Shaping.{sound-fits}
use Rattle.supply.proofs.Spreading.{row-length as spread-length, row-cell as spread-cell}

pub record Counted (b : Board) (e n : ℕ) : Type 0 where
  pub sound : Sound b
  pub edges : edge_count (auction_of b) ≡ e
  pub bids : n ≤ potential (auction_of b)

-- Chains add no edge, nor do places that go
chains-count : {b c : Auction} {xs : List ℕ} {n : ℕ} → Chains b xs c n → edge_count c ≡ edge_count b
chains-count ended = refl
chains-count (next r t) = chains-count t ∙ chain-count r

gone-count : {b c : Auction} {item : ℕ → ℕ} {n : ℕ} → AllGone b item n c → edge_count c ≡ edge_count b
unfolding edge_count
gone-count g = rw (g.weights, g.items, g.arrived) refl

-- ---- "the bid bound counts an entry once per place"

-- The places of the items of all edges, added
once-first : (items : Items) (edges : List Edge) → once_per_place items edges ≡ sum_to (length edges) (λ i. places_in items (item_in edges i - 1))
once-first items [] = refl
once-first items (e ∷ rest) = omega (arith, sum_to-head (length rest) (λ i. places_in items (item_in (e ∷ rest) i - 1)), once-first items rest)

-- The spread row of accepted edges has each edge once per place
pub row-places : (b : Board) (edges : List Edge) → Sound b → EdgesAccepted b.items.count (withdrawn_at b) (item_in edges) (weight_in edges) (length edges) →
    row_count b.market.items (row_on b.items edges) ≡ once_per_place b.items edges
row-places b edges h a =
    rw h.laid.all
    (sum_to-eq (all_places b.items) _ _ (λ s l. ap one (spread-cell b.items (row_of edges) (sound-fits b h) s l))
    ∙ once-per-place (places_in b.items) b.items.count (λ k. one (get_or (row_of edges) k 0))
    ∙ row-weighted (places_in b.items) h.laid.count.high (length edges) a
    ∙ sym (once-first b.items edges))

pub counted : {b : Board} {e n : ℕ} → Reached b e n → Counted b e n
unfolding edge_count opened place.opened
counted (opens items p q counts h) = record { sound = opening-sound items p q counts h; edges = refl; bids = omega arith }
counted (arrives {b = b} {e = e} {n = n} edges r t h) =
    let c = counted t in
    arrive-all b edges (λ r. Counted r.board (e + edges_added b.items r.answer edges) (n + (arrived_told r.answer).value))
    (λ j. let s = j.after.settles in
    let size = spread-length b.items (row_of edges) in
    record {
      sound = j.sound;
      edges = omega (arith, c.edges, chain-count s.chain, count-entered (auction_of b) (row_on b.items edges) size j.before.auction.formed j.room, row-places b edges j.before j.accepted);
      bids = omega (arith, c.bids, j.after.ends.counted, potential-entered (auction_of b) (row_on b.items edges) size);
    })
    (λ q. rw (add-zero e, add-zero n) c)
    r h
counted (withdraws {b = b} {e = e} {n = n} items r t h) =
    let c = counted t in
    withdraw-all b items (λ r. Counted r.board e (n + (withdrawn_told r.answer).value))
    (λ j. record {
      sound = j.sound;
      edges = chains-count j.ends.chains ∙ gone-count (all_go (auction_of b) _ _ j.before.auction j.listed) ∙ c.edges;
      bids = omega (arith, c.bids, j.ends.counted);
    })
    (λ q. rw (add-zero n) c)
    r h

pub history-demand-2 : HistoryDemand2
history-demand-2 b e n t =
    let c = counted t in
    record { sound = c.sound; edges = c.edges; bids = rw c.edges at (le_trans c.bids (potential-within (auction_of b))) }
