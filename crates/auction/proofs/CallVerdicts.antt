-- The calls' outcomes, as the code comes to them.
use mathlib.Core.Path.{◌≡◌, sym, ap, ◌∙◌}
use mathlib.Core.Bool.{true, false}
use mathlib.Core.List.{List}
use Prim.Native.Nat.{ℕ, ◌≤◌, ◌<◌}
use lib.ListN.{length}
use borrow.Author.Tests.{le-leb, lt-leb}
use Rattle.duality.specs.Lists.{cells}
use Rattle.supply.specs.declared.record.Board.{Board}
use Rattle.board.specs.declared.record.Edge.{Edge}
use Rattle.refusals.specs.declared.Refusal.{Refusal}
use Rattle.refusals.specs.declared.Refusal.TheVariants.{Full, Spoilt}
use Rattle.bidding.specs.Rule.{AfterChain, Outcome, done}
use Rattle.std.specs.Prelude.{Ok, Err}
use Rattle.board.specs.Limits.{max_bidders}
use Rattle.supply.specs.declared.record.Items.{Items}
use Rattle.supply.specs.Board.{auction_of, on_items}
use Rattle.supply.specs.ByItem.{withdrawn_at, gain_at, price_at, matching_of}
use Rattle.supply.specs.SoundTest.{sound_test}
use Rattle.refusals.specs.Demand1.{first_of}
use Rattle.auction.specs.Items.{items_checks}
use Rattle.auction.specs.Edges.{item_in, weight_in, edges_checks}
use Rattle.auction.specs.Arrive.{row_on, arrive_rest, arrival_of, arrive_by, arrive_of}
use Rattle.bidding.specs.Moves.{arrived_of}
use Rattle.bidding.specs.Withdrawals.{withdrawn_of}
use Rattle.auction.specs.Withdraw.{places_on, withdraw_rest, withdrawal_of, withdraw_by, withdraw_of}
use Rattle.supply.specs.Lent.{read_out_checks}
use Rattle.board.specs.Lent.{written, Lists, lists}
use Rattle.auction.specs.ReadOut.{outcome, read_out_by, read_out_of}

module _ (b : Board) (edges : List Edge) where
  pub arrive-spoilt : sound_test b ≡ false → arrive_of b edges ≡ done (record { board = b; answer = Err Spoilt })
  unfolding arrive_of arrive_by first_of
  arrive-spoilt e = rw e

  module _ (s : sound_test b ≡ true) where
    pub arrive-full : max_bidders ≤ b.market.arrived → arrive_of b edges ≡ done (record { board = b; answer = Err Full })
    unfolding arrive_of arrive_by first_of arrive_rest
    arrive-full l = let e = le-leb max_bidders b.market.arrived l in rw (s, e)

    module _ (l : b.market.arrived < max_bidders) where
      -- What the edges decide
      by-edges : arrive_of b edges ≡ arrive_by b edges (first_of (edges_checks b.items.count (withdrawn_at b) (item_in edges) (weight_in edges) 0 (length edges)))
      unfolding arrive_of first_of arrive_rest
      by-edges = let e = lt-leb max_bidders b.market.arrived l in rw (s, e)

      pub arrive-refused : (r : Refusal) → first_of (edges_checks b.items.count (withdrawn_at b) (item_in edges) (weight_in edges) 0 (length edges)) ≡ Err r →
          arrive_of b edges ≡ done (record { board = b; answer = Err r })
      unfolding arrive_by
      arrive-refused r e = by-edges ∙ rw e

      pub arrive-served : first_of (edges_checks b.items.count (withdrawn_at b) (item_in edges) (weight_in edges) 0 (length edges)) ≡ Ok tt →
          arrive_of b edges ≡ arrival_of b.items (arrived_of (auction_of b) (row_on b.items edges))
      unfolding arrive_by
      arrive-served e = by-edges ∙ rw e

pub arrival-done : (items : Items) (o : Outcome AfterChain) (s : AfterChain) → done s ≡ o →
    arrival_of items o ≡ done (record { board = on_items items s.auction; answer = Ok s.bids })
unfolding arrival_of
arrival-done items o s e = rw (← e)

module _ (b : Board) (items : List ℕ) where
  pub withdraw-spoilt : sound_test b ≡ false → withdraw_of b items ≡ done (record { board = b; answer = Err Spoilt })
  unfolding withdraw_of withdraw_by first_of
  withdraw-spoilt e = rw e

  module _ (s : sound_test b ≡ true) where
    -- What the items decide
    by-items : withdraw_of b items ≡ withdraw_by b items (first_of (items_checks b.items.count (withdrawn_at b) (cells items) 0 (length items)))
    unfolding withdraw_of first_of withdraw_rest
    by-items = rw s

    pub withdraw-refused : (r : Refusal) → first_of (items_checks b.items.count (withdrawn_at b) (cells items) 0 (length items)) ≡ Err r →
        withdraw_of b items ≡ done (record { board = b; answer = Err r })
    unfolding withdraw_by
    withdraw-refused r e = by-items ∙ rw e

    pub withdraw-served : first_of (items_checks b.items.count (withdrawn_at b) (cells items) 0 (length items)) ≡ Ok tt →
        withdraw_of b items ≡ withdrawal_of b.items (withdrawn_of (auction_of b) (cells (places_on b.items items)) (length (places_on b.items items)))
    unfolding withdraw_by
    withdraw-served e = by-items ∙ rw e

pub withdrawal-done : (known : Items) (o : Outcome AfterChain) (s : AfterChain) → done s ≡ o →
    withdrawal_of known o ≡ done (record { board = on_items known s.auction; answer = Ok s.bids })
unfolding withdrawal_of
withdrawal-done known o s e = rw (← e)

-- The places of the items have left, and those who held one have bid
pub withdraw-left : (b : Board) (items : List ℕ) → sound_test b ≡ true → first_of (items_checks b.items.count (withdrawn_at b) (cells items) 0 (length items)) ≡ Ok tt →
    (l : List ℕ) (s : AfterChain) → l ≡ places_on b.items items → done s ≡ withdrawn_of (auction_of b) (cells l) (length l) →
    done (record { board = on_items b.items s.auction; answer = Ok s.bids }) ≡ withdraw_of b items
withdraw-left b items sound e l s el h =
    sym (withdraw-served b items sound e ∙ withdrawal-done b.items _ s (h ∙ ap (λ (p : List ℕ). withdrawn_of (auction_of b) (cells p) (length p)) el))

module _ (b : Board) (l : Lists) where
  pub read-out-by : {r : Refusal} → first_of (read_out_checks b l) ≡ Err r → read_out_of b l ≡ outcome (Err r) l
  unfolding read_out_of read_out_by
  read-out-by e = rw e

  pub read-out-written : first_of (read_out_checks b l) ≡ Ok tt → read_out_of b l ≡
      outcome (Ok tt) (lists (written b.market.arrived (matching_of b) l.plan)
      (written b.items.count (price_at b) l.prices) (written b.market.arrived (gain_at b) l.gains))
  unfolding read_out_of read_out_by
  read-out-written e = rw e
