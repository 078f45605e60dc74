-- Demand 1 of each call, from the one law of verdicts.
use mathlib.Core.Path.{◌≡◌, refl, sym, ap, ◌∙◌}
use mathlib.Core.Bool.{Bool, true, false}
use mathlib.Core.List.{List}
use Prim.Native.Nat.{ℕ, zero, suc, ◌-◌, ◌≤◌, ◌<◌}
use native.Mathlib.Omega.{arith}
use lib.ListN.{length}
use Rattle.duality.specs.Decide.{Decides}
use Rattle.duality.proofs.Decide.{reword, true-decides, le-decides, clash}
use Rattle.duality.specs.Lists.{cells}
use Rattle.supply.specs.declared.record.Board.{Board}
use Rattle.board.specs.declared.record.Edge.{Edge}
use Rattle.refusals.specs.declared.Refusal.{Refusal}
use Rattle.refusals.specs.declared.Refusal.TheVariants.{Full, Unknown, Gone, Worth, Order, Spoilt, Places}
use Rattle.bidding.specs.Rule.{AfterChain, Outcome, done, spent}
use Rattle.std.specs.Prelude.{Result, Ok, Err}
use Rattle.auction.specs.Arrive.{Arrival, ArriveMet, arrive_rest, arrive_checks, arrival_of, arrive_by, arrive_of}
use Rattle.auction.specs.Withdraw.{Withdrawal, WithdrawMet, withdraw_rest, withdraw_checks, withdrawal_of, withdraw_by, withdraw_of}
use Rattle.board.specs.Limits.{max_bidders, max_weight}
use Rattle.supply.specs.ByItem.{withdrawn_at}
use Rattle.supply.specs.declared.record.Items.{Items}
use Rattle.supply.specs.Sound.{Sound}
use Rattle.board.specs.Ranges.{Within, within_test}
use Rattle.supply.specs.Board.{max_places, on_items}
use Rattle.refusals.specs.Demand1.{first_of, Check, codes_of, Demand1, Verdict}
use Rattle.refusals.specs.Each.{each_checks}
use Rattle.auction.specs.Edges.{item_in, weight_in, order_test, edge_checks, edges_checks}
use Rattle.auction.specs.Items.{item_checks, items_checks}
use Rattle.supply.specs.Opening.{open_checks, open_by, open_of}
use Rattle.auction.specs.ReadOut.{read_out_by, read_out_of}
use Rattle.supply.specs.Lent.{read_out_checks}
use Rattle.auction.specs.Demand1.{OpenDemand1, ArriveDemand1, WithdrawDemand1, ReadOutDemand1, entry_codes, item_codes, CallOrders}
use Rattle.supply.proofs.Lending.{read-out-decided}
use Rattle.supply.proofs.Openings.{open-decided}
use Rattle.board.proofs.Tests.{no-decides, within-decides}
use Rattle.refusals.proofs.Verdicts.{Decided, ends, next, demand-1, demand-1-as}
use Rattle.refusals.proofs.Each.{cells-decided}
use Rattle.refusals.proofs.Places.{cells-codes, codes-both}
use Rattle.supply.proofs.SoundLaw.{sound-decides}
use Rattle.auction.proofs.Demand2.{arrive_ends, withdraw_ends}
use Rattle.auction.proofs.Told.{opened-refused, opened-ready, arrived_refused, arrived-bids, withdrawn_refused, withdrawn-bids, read-refused, read-written}

-- ---- Open

pub open-demand-1 : OpenDemand1
unfolding open_of open_by
open-demand-1 items p q counts =
    demand-1 (open-decided items p q counts)
    (λ r. (λ e. record { board = rw e; tells = rw e }, λ a. by-refused r (first_of (open_checks items p q counts)) (opened-refused _ r a.tells)))
    (λ e. record { board = rw e; tells = rw e }, λ a. by-ready (first_of (open_checks items p q counts)) (opened-ready _ a.tells))
  where
    by-refused : (r : Refusal) (v : Verdict) → (open_by p q counts v).answer ≡ Err r → v ≡ Err r
    by-refused r (Ok tt) e = let z : ◌≡◌ {A = ℕ} 0 1 = cc in absurd (omega arith)
    by-refused r (Err s) e = let h : s ≡ r = cc in ap Err h

    by-ready : (v : Verdict) → (open_by p q counts v).answer ≡ Ok tt → v ≡ Ok tt
    by-ready (Ok tt) e = refl
    by-ready (Err s) e = let z : ◌≡◌ {A = ℕ} 0 1 = cc in absurd (omega arith)

-- ---- A call that runs a chain of bids where it serves: arrive and withdraw

chain-demand-1 : {A : Type 0} {Met : Refusal → Type 0} {checks : List Check} (by : Verdict → Outcome A) (served : Board → ℕ → A) (refused : Refusal → A) →
    Decided Met checks →
    ((r : Refusal) → by (Err r) ≡ done (refused r)) →
    ((a : A) → by (Ok tt) ≡ done a → (c : Board) × (n : ℕ) × (a ≡ served c n)) →
    ((r s : Refusal) → refused r ≡ refused s → r ≡ s) →
    ((r : Refusal) (c : Board) (n : ℕ) → refused r ≡ served c n → ⊥) →
    (a : A) × (by (first_of checks) ≡ done a) →
    Demand1 Met checks (λ r. by (first_of checks) ≡ done (refused r)) ((c : Board) × (n : ℕ) × (by (first_of checks) ≡ done (served c n)))
chain-demand-1 {A} {Met} {checks} by served refused ds refuses bids same other finished =
    demand-1 ds
    (λ r. (λ e. ap by e ∙ refuses r, λ e. by-refused r (first_of checks) e))
    (λ e. serve e, λ s. by-bids s.0 s.1 (first_of checks) s.2)
  where
    by-refused : (r : Refusal) (v : Verdict) → by v ≡ done (refused r) → v ≡ Err r
    by-refused r (Ok tt) e = let (c, n, h) = bids (refused r) e in absurd (other r c n h)
    by-refused r (Err s) e =
        let d : done (refused s) ≡ done (refused r) = sym (refuses s) ∙ e in
        let f : refused s ≡ refused r = cc in
        ap Err (same s r f)

    by-bids : (c : Board) (n : ℕ) (v : Verdict) → by v ≡ done (served c n) → v ≡ Ok tt
    by-bids c n (Ok tt) e = refl
    by-bids c n (Err s) e =
        let d : done (refused s) ≡ done (served c n) = sym (refuses s) ∙ e in
        let f : refused s ≡ served c n = cc in
        absurd (other s c n f)

    serve : first_of checks ≡ Ok tt → (c : Board) × (n : ℕ) × (by (first_of checks) ≡ done (served c n))
    serve e =
        let (a, h) = finished in
        let (c, n, g) = bids a (sym (ap by e) ∙ h) in
        (c, n, h ∙ ap done g)

-- ---- Arrive

module _ (b : Board) (edges : List Edge) where
  arrive-unsound : ArriveMet b edges Spoilt → Sound b → ⊥
  arrive-unsound (ArriveMet.spoilt f) = f

  full-met : ArriveMet b edges Full → max_bidders ≤ b.market.arrived
  full-met (ArriveMet.full l) = l

  unknown-met : (i : ℕ) → ArriveMet b edges (Unknown (suc i)) → Within 1 b.items.count (item_in edges i) → ⊥
  unknown-met i (ArriveMet.unknown l f) = f

  gone-met : (i : ℕ) → ArriveMet b edges (Gone (suc i)) → withdrawn_at b (item_in edges i - 1) ≡ true
  gone-met i (ArriveMet.gone l e) = e

  worth-met : (i : ℕ) → ArriveMet b edges (Worth (suc i)) → Within 1 max_weight (weight_in edges i) → ⊥
  worth-met i (ArriveMet.worth l f) = f

  order-decided : (i : ℕ) → i < length edges → Decides (order_test (item_in edges) i) (ArriveMet b edges (Order (suc i)))
  unfolding order_test
  order-decided zero h = record { sound = λ e. absurd (clash false e refl); complete = λ m. absurd (never m) }
    where
      never : ArriveMet b edges (Order 1) → ⊥
      never = elim [ ]
  order-decided (suc i) h = reword (le-decides (item_in edges (suc i)) (item_in edges i)) (λ l. ArriveMet.order h l) order-met
    where
      order-met : ArriveMet b edges (Order (suc (suc i))) → item_in edges (suc i) ≤ item_in edges i
      order-met (ArriveMet.order h l) = l

  edge-decided : (i : ℕ) → i < length edges → Decided (ArriveMet b edges) (edge_checks b.items.count (withdrawn_at b) (item_in edges) (weight_in edges) i)
  unfolding edge_checks
  edge-decided i l =
      next (reword (no-decides (within-decides b.items.count (item_in edges i))) (λ f. ArriveMet.unknown l f) (unknown-met i))
      (next (reword (true-decides (withdrawn_at b (item_in edges i - 1))) (λ e. ArriveMet.gone l e) (gone-met i))
      (next (reword (no-decides (within-decides max_weight (weight_in edges i))) (λ f. ArriveMet.worth l f) (worth-met i))
      (next (order-decided i l) ends)))

  arrive-decided : Decided (ArriveMet b edges) (arrive_checks b edges)
  unfolding arrive_rest
  arrive-decided =
      next (reword (no-decides (sound-decides b)) (λ f. ArriveMet.spoilt f) arrive-unsound)
      (next (reword (le-decides max_bidders b.market.arrived) (λ l. ArriveMet.full l) full-met)
      (cells-decided _ (length edges) edge-decided))

abbrev arrival : Board → Result ℕ Refusal → Arrival
arrival c a = record { board = c; answer = a }

-- What comes of a chain is a number of bids, if anything
arrival-bids : (items : Items) (o : Outcome AfterChain) (a : Arrival) → arrival_of items o ≡ done a → (n : ℕ) × (a.answer ≡ Ok n)
unfolding arrival_of
arrival-bids items spent a e = let z : ◌≡◌ {A = ℕ} 0 1 = cc in absurd (omega arith)
arrival-bids items (done s) a e = (s.bids, let h : arrival (on_items items s.auction) (Ok s.bids) ≡ a = cc in sym (ap (λ x. x.answer) h))

pub arrive-demand-1 : ArriveDemand1
unfolding arrive_of arrive_by
arrive-demand-1 b edges =
    demand-1-as
    (chain-demand-1 (arrive_by b edges) (λ c n. arrival c (Ok n)) (λ r. arrival b (Err r)) (arrive-decided b edges)
    (λ r. refl) bids
    (λ r s e. let f : Err r ≡ Err s = ap (λ x. x.answer) e in cc)
    (λ r c n e. let f : Err r ≡ Ok n = ap (λ x. x.answer) e in let z : ◌≡◌ {A = ℕ} 0 1 = cc in omega arith)
    (arrive_ends b edges))
    (λ r. (λ e. record { answer = Err r; outcome = e; tells = refl }, λ a. a.outcome ∙ ap (λ x. done (arrival b x)) (arrived_refused a.answer r a.tells))) (
      λ s. (s.0, s.1, record { answer = Ok s.1; outcome = s.2; tells = refl }),
      λ s. (s.0, s.1, s.2.outcome ∙ ap (λ x. done (arrival s.0 x)) (arrived-bids s.2.answer s.1 s.2.tells)),
    )
  where
    bids : (a : Arrival) → arrive_by b edges (Ok tt) ≡ done a → (c : Board) × (n : ℕ) × (a ≡ arrival c (Ok n))
    bids a e = let (n, h) = arrival-bids b.items _ a e in (a.board, n, rw (← h) refl)

-- ---- Withdraw

module _ (b : Board) (items : List ℕ) where
  withdraw-unsound : WithdrawMet b items Spoilt → Sound b → ⊥
  withdraw-unsound (WithdrawMet.spoilt f) = f

  unknown-item-met : (i : ℕ) → WithdrawMet b items (Unknown (suc i)) → Within 1 b.items.count (cells items i) → ⊥
  unknown-item-met i (WithdrawMet.unknown l f) = f

  gone-item-met : (i : ℕ) → WithdrawMet b items (Gone (suc i)) → withdrawn_at b (cells items i - 1) ≡ true
  gone-item-met i (WithdrawMet.gone l e) = e

  rise-decided : (i : ℕ) → i < length items → Decides (order_test (cells items) i) (WithdrawMet b items (Order (suc i)))
  unfolding order_test
  rise-decided zero h = record { sound = λ e. absurd (clash false e refl); complete = λ m. absurd (never m) }
    where
      never : WithdrawMet b items (Order 1) → ⊥
      never = elim [ ]
  rise-decided (suc i) h = reword (le-decides (cells items (suc i)) (cells items i)) (λ l. WithdrawMet.order h l) rise-met
    where
      rise-met : WithdrawMet b items (Order (suc (suc i))) → cells items (suc i) ≤ cells items i
      rise-met (WithdrawMet.order h l) = l

  item-decided : (i : ℕ) → i < length items → Decided (WithdrawMet b items) (item_checks b.items.count (withdrawn_at b) (cells items) i)
  unfolding item_checks
  item-decided i l =
      next (reword (no-decides (within-decides b.items.count (cells items i))) (λ f. WithdrawMet.unknown l f) (unknown-item-met i))
      (next (reword (true-decides (withdrawn_at b (cells items i - 1))) (λ e. WithdrawMet.gone l e) (gone-item-met i)) (next (rise-decided i l) ends))

  withdraw-decided : Decided (WithdrawMet b items) (withdraw_checks b items)
  unfolding withdraw_rest
  withdraw-decided =
      next (reword (no-decides (sound-decides b)) (λ f. WithdrawMet.spoilt f) withdraw-unsound) (cells-decided _ (length items) item-decided)

abbrev withdrawal : Board → Result ℕ Refusal → Withdrawal
withdrawal c a = record { board = c; answer = a }

-- What comes of a chain is a number of bids, if anything
withdrawal-bids : (known : Items) (o : Outcome AfterChain) (a : Withdrawal) → withdrawal_of known o ≡ done a → (n : ℕ) × (a.answer ≡ Ok n)
unfolding withdrawal_of
withdrawal-bids known spent a e = let z : ◌≡◌ {A = ℕ} 0 1 = cc in absurd (omega arith)
withdrawal-bids known (done s) a e = (s.bids, let h : withdrawal (on_items known s.auction) (Ok s.bids) ≡ a = cc in sym (ap (λ x. x.answer) h))

pub withdraw-demand-1 : WithdrawDemand1
unfolding withdraw_of withdraw_by
withdraw-demand-1 b items =
    demand-1-as
    (chain-demand-1 (withdraw_by b items) (λ c n. withdrawal c (Ok n)) (λ r. withdrawal b (Err r)) (withdraw-decided b items)
    (λ r. refl) bids
    (λ r s e. let f : Err r ≡ Err s = ap (λ x. x.answer) e in cc)
    (λ r c n e. let f : Err r ≡ Ok n = ap (λ x. x.answer) e in let z : ◌≡◌ {A = ℕ} 0 1 = cc in omega arith)
    (withdraw_ends b items))
    (λ r. (λ e. record { answer = Err r; outcome = e; tells = refl }, λ a. a.outcome ∙ ap (λ x. done (withdrawal b x)) (withdrawn_refused a.answer r a.tells))) (
      λ s. (s.0, s.1, record { answer = Ok s.1; outcome = s.2; tells = refl }),
      λ s. (s.0, s.1, s.2.outcome ∙ ap (λ x. done (withdrawal s.0 x)) (withdrawn-bids s.2.answer s.1 s.2.tells)),
    )
  where
    bids : (a : Withdrawal) → withdraw_by b items (Ok tt) ≡ done a → (c : Board) × (n : ℕ) × (a ≡ withdrawal c (Ok n))
    bids a e = let (n, h) = withdrawal-bids b.items _ a e in (a.board, n, rw (← h) refl)

-- ---- Read out

pub read-out-demand-1 : ReadOutDemand1
unfolding read_out_of read_out_by
read-out-demand-1 b l =
    demand-1 (read-out-decided b l)
    (λ r. (λ e. record { lists = rw e; tells = rw e }, λ a. by-refused r (first_of (read_out_checks b l)) (read-refused _ r a.tells)))
    (λ e. (_, record { lists = refl; tells = rw e }), λ a. by_written (first_of (read_out_checks b l)) (read-written _ a.1.tells))
  where
    by-refused : (r : Refusal) (v : Verdict) → (read_out_by b l v).answer ≡ Err r → v ≡ Err r
    by-refused r (Ok tt) e = let z : ◌≡◌ {A = ℕ} 0 1 = cc in absurd (omega arith)
    by-refused r (Err s) e = let h : s ≡ r = cc in ap Err h

    by_written : (v : Verdict) → (read_out_by b l v).answer ≡ Ok tt → v ≡ Ok tt
    by_written (Ok tt) e = refl
    by_written (Err s) e = let z : ◌≡◌ {A = ℕ} 0 1 = cc in absurd (omega arith)

-- ---- The order of the checks

module _ (items : ℕ) (withdrawn : ℕ → Bool) (item : ℕ → ℕ) where
  entries-order : (weight : ℕ → ℕ) (i n : ℕ) → codes_of (edges_checks items withdrawn item weight i n) ≡ entry_codes (suc i) n
  unfolding each_checks edge_checks
  entries-order weight i zero = refl
  entries-order weight i (suc n) = rw (entries-order weight (suc i) n)

  items-order : (i n : ℕ) → codes_of (items_checks items withdrawn item i n) ≡ item_codes (suc i) n
  unfolding each_checks item_checks
  items-order i zero = refl
  items-order i (suc n) = rw (items-order (suc i) n)

pub call-orders : CallOrders
unfolding open_checks arrive_rest withdraw_rest
call-orders =
    record {
      opens = λ items p q counts. rw (codes-both, cells-codes (λ k. Places (suc k)) (λ k. within_test max_places (cells counts k)) 16 suc (λ j. refl) (λ j. refl) (length counts)) refl;
      arrives = λ b edges. rw (entries-order b.items.count (withdrawn_at b) (item_in edges) (weight_in edges) 0 (length edges));
      withdraws = λ b items. rw (items-order b.items.count (withdrawn_at b) (cells items) 0 (length items));
      reads = λ b l. refl;
    }
