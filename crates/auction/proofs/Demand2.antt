-- Demand 2: each call ends, makes the bids of the rule, and leaves a sound board; what holds of a sound board; what a read-out writes.
use mathlib.Core.Path.{◌≡◌, refl, sym, ap, subst, subst₂, ◌∙◌}
use mathlib.Core.List.{List}
use mathlib.Core.Logic.{◌⊎◌, inl, inr}
use Prim.Native.Nat.{ℕ, zero, suc, ◌+◌, ◌-◌, ◌*◌, ◌<◌}
use native.Mathlib.Nat.{mul-pos}
use native.Mathlib.Omega.{arith}
use lib.ListN.{length}
use borrow.Author.Tests.{not-false}
use Rattle.duality.specs.Lists.{cells}
use Rattle.duality.specs.Matching.{at_cell}
use Rattle.duality.proofs.Tightness.{tightness}
use Rattle.places.proofs.ShareWith.{share-with}
use Rattle.places.specs.Places.{item_of}
use Rattle.places.specs.Plan.{read_back}
use Rattle.board.specs.declared.record.Auction.{Auction}
use Rattle.board.specs.declared.record.Market.{Market}
use Rattle.supply.specs.declared.record.Board.{Board}
use Rattle.board.specs.declared.record.Edge.{Edge}
use Rattle.refusals.specs.declared.Refusal.{Refusal}
use Rattle.std.specs.Prelude.{Ok, Err}
use Rattle.auction.specs.Arrive.{Arrival, row_on, arrive_checks, arrival_of, arrive_by, arrive_of, ArriveAnswers}
use Rattle.auction.specs.Withdraw.{Withdrawal, places_on, withdraw_checks, withdrawal_of, withdraw_by, withdraw_of, WithdrawAnswers}
use Rattle.board.specs.Limits.{max_bidders}
use Rattle.board.specs.Cells.{flag_at, holder_at}
use Rattle.board.specs.Cells as place
use Rattle.board.specs.Live as placed
use Rattle.board.specs.Sound.{Sound as SoundAuction}
use Rattle.supply.specs.Board.{auction_of, on_items, places_at, start_in, item_at}
use Rattle.supply.specs.ByItem.{withdrawn_at, live}
use Rattle.supply.specs.Spread.{Listable}
use Rattle.supply.specs.Sound.{Sound}
use Rattle.bidding.specs.Rule.{done}
use Rattle.refusals.specs.Told.{served, refused}
use Rattle.refusals.specs.Demand1.{first_of, Verdict}
use Rattle.auction.specs.Edges.{item_in, weight_in, row_to}
use Rattle.bidding.specs.Moves.{arrived_of, entered}
use Rattle.bidding.specs.Withdrawals.{vacated_to, named_in}
use Rattle.bidding.specs.WithdrawalLaws.{Listed, WithdrawalEnds}
use Rattle.bidding.specs.Waiting.{SoundBut, Nobody, RowFits}
use Rattle.bidding.specs.RuleLaws.{Settles, Ends}
use Rattle.auction.specs.Demand2.{ArriveEnds, WithdrawEnds, Arrives, ArriveDemand2, Withdraws, WithdrawDemand2, SoundDemand2}
use Rattle.supply.proofs.SoundLaw.{sound-decides}
use Rattle.supply.proofs.Shaping.{sound-fits}
use Rattle.supply.proofs.Spreading.{row-length as spread-length, row-cell as spread-cell, row-past as spread-past}
use Rattle.supply.proofs.ByItem.{places-as-item, first-place, sound-over-places}
use Rattle.bidding.proofs.Waiting.{sound-is-settled}
use Rattle.bidding.proofs.Frame.{framed}
use Rattle.bidding.proofs.Bids.{cell_free}
use Rattle.bidding.proofs.Rolls.{displaced-in-order}
use Rattle.bidding.proofs.Vacating.{all_go}
use Rattle.bidding.proofs.Withdrawing.{withdrawn-is-chains}
use Rattle.bidding.proofs.Chains.{chain-ends, settle-is-chain}
use Rattle.bidding.proofs.Starts.{arrival-sound, arrival-ready}
use Rattle.refusals.proofs.Verdicts.{served-next}
use Rattle.auction.proofs.EdgesLaw.{EdgesAccepted, served-arrival, served-withdrawal, row_fits_lem}
use Rattle.auction.proofs.Lasting.{chain-market, chain-weights, chains-market, chains-weights, place-below, owner-below, first_below, first-owner, joined-alike, kept-alike, same_flag}
use Rattle.auction.proofs.Naming.{belongs, gone-alike, places-named, places-listed}
use Rattle.auction.proofs.Entries.{accepted-edges, entered-edges, entered-others, same_edges}
use Rattle.auction.proofs.Told.{arrived-bids, withdrawn-bids}

-- An answer is one
same-done : {A : Type 0} {r s : A} (P : A → Type 0) → done r ≡ done s → P r → P s
same-done {A} {r} {s} P e p = let q : r ≡ s = cc in subst P q p

-- ---- The chain that a call begins
pub record Settlement (a : Auction) (i : ℕ) : Type 0 where
  pub settles : Settles a i
  pub sound : SoundAuction settles.board
  pub ends : Ends Nobody a settles.board settles.bids

pub settlement : {a : Auction} {i : ℕ} → SoundBut (λ h. Nobody h ⊎ (h ≡ i)) a → i < a.market.arrived → Settlement a i
settlement {a} {i} sound bidder =
    let s = settle-is-chain Nobody a i sound bidder (λ z. z) in
    let e = chain-ends Nobody a _ i _ sound bidder (λ z. z) s.chain in
    record { settles = s; sound = (sound-is-settled _).1 e.sound; ends = e }

-- ---- Arrive

-- The row of an arrival's edges by item, and the auction with the new bidder, before it bids
abbrev pub row_of : List Edge → List ℕ
row_of edges = row_to (item_in edges) (weight_in edges) (length edges)

abbrev pub joined : Board → List Edge → Auction
joined b edges = entered (auction_of b) (row_on b.items edges)

-- Spread, the row of accepted edges is one of the auction over places
pub spread-fits : (b : Board) (edges : List Edge) → Sound b → EdgesAccepted b.items.count (withdrawn_at b) (item_in edges) (weight_in edges) (length edges) →
    RowFits b.market.items (row_on b.items edges)
spread-fits b edges h a =
    let fits = sound-fits b h in
    record {
      sized = spread-length b.items (row_of edges);
      limit = λ s l. rw (spread-cell b.items (row_of edges) fits s (place-below b h s l)) ((row_fits_lem a).limit (item_at b.items s) (owner-below b h s l));
      bare = λ s l m. spread-past b.items (row_of edges) s (omega (arith, h.laid.all));
    }

-- What a served arrival is
pub record Joins (b : Board) (edges : List Edge) : Type 0 where
  pub before : Sound b
  pub room : b.market.arrived < max_bidders
  pub accepted : EdgesAccepted b.items.count (withdrawn_at b) (item_in edges) (weight_in edges) (length edges)
  pub after : Settlement (joined b edges) b.market.arrived
  pub sound : Sound (on_items b.items after.settles.board)
  pub answers : arrive_of b edges ≡ done (record { board = on_items b.items after.settles.board; answer = Ok after.settles.bids })

-- The board after the new bidder's chain
joined-sound : (b : Board) (edges : List Edge) → Sound b → b.market.arrived < max_bidders → (t : Settlement (joined b edges) b.market.arrived) →
    Sound (on_items b.items t.settles.board)
unfolding entered
joined-sound b edges h room t =
    let m = chain-market t.settles.chain in
    let same : t.settles.board.market.items ≡ b.market.items = ap (λ (x : Market). x.items) m in
    record {
      laid = rw same h.laid;
      auction = t.sound;
      alike = λ s l. kept-alike b.items (joined b edges) t.settles.board m (chain-weights t.settles.chain) s (joined-alike b h (row_of edges) room s (rw same at l));
    }

pub joins : (b : Board) (edges : List Edge) → first_of (arrive_checks b edges) ≡ Ok tt → Joins b edges
unfolding arrive_of arrive_by arrived_of arrival_of
joins b edges e =
    let u = served-next _ _ e in
    let s = (sound-decides b).sound (not-false _ u.0) in
    let a = served-arrival b edges u.1 in
    let f = spread-fits b edges s a.1 in
    let t = settlement (arrival-sound ((sound-is-settled (auction_of b)).0 s.auction) a.0 f) (arrival-ready s.auction a.0 f).bidder in
    record { before = s; room = a.0; accepted = a.1; after = t; sound = joined-sound b edges s a.0 t; answers = rw (e, t.settles.computed) }

-- The two kinds of answer
module _ (b : Board) (edges : List Edge) where
  refused-arrival : (q : Refusal) → first_of (arrive_checks b edges) ≡ Err q → arrive_of b edges ≡ done (record { board = b; answer = Err q })
  unfolding arrive_of arrive_by
  refused-arrival q e = rw e

  -- What holds of both holds of the answer
  pub arrive-all : (P : Arrival → Type 0) →
      ((j : Joins b edges) → P (record { board = on_items b.items j.after.settles.board; answer = Ok j.after.settles.bids })) →
      ((q : Refusal) → P (record { board = b; answer = Err q })) → (r : Arrival) → arrive_of b edges ≡ done r → P r
  arrive-all P f g r h = go (first_of (arrive_checks b edges)) refl
    where
      go : (v : Verdict) → first_of (arrive_checks b edges) ≡ v → P r
      go (Ok tt) e = let j = joins b edges e in same-done P (sym j.answers ∙ h) (f j)
      go (Err q) e = same-done P (sym (refused-arrival q e) ∙ h) (g q)

pub arrive_ends : ArriveEnds
arrive_ends b edges = go (first_of (arrive_checks b edges)) refl
  where
    go : (v : Verdict) → first_of (arrive_checks b edges) ≡ v → (r : Arrival) × (arrive_of b edges ≡ done r)
    go (Ok tt) e = (_, (joins b edges e).answers)
    go (Err q) e = (_, refused-arrival b edges q e)

-- An arrival serves, or refuses and leaves the board
pub arrive-either : (b : Board) (edges : List Edge) → ((c : Board) × (n : ℕ) × ArriveAnswers b edges c (served n)) ⊎ ((r : Refusal) × ArriveAnswers b edges b (refused r))
arrive-either b edges = go (first_of (arrive_checks b edges)) refl
  where
    go : (v : Verdict) → first_of (arrive_checks b edges) ≡ v → ((c : Board) × (n : ℕ) × ArriveAnswers b edges c (served n)) ⊎ ((r : Refusal) × ArriveAnswers b edges b (refused r))
    go (Ok tt) e = inl (_, _, record { answer = Ok _; outcome = (joins b edges e).answers; tells = refl })
    go (Err q) e = inr (q, record { answer = Err q; outcome = refused-arrival b edges q e; tells = refl })

pub arrive-demand-2 : ArriveDemand2
arrive-demand-2 b c edges n a =
    arrive-all b edges (λ r. r.board ≡ c → r.answer ≡ Ok n → Arrives b edges c n)
    (λ j e f. let k : j.after.settles.bids ≡ n = cc in subst₂ (λ c n. Arrives b edges c n) e k (arrives j))
    (λ q e f. let z : ◌≡◌ {A = ℕ} 0 1 = cc in absurd (omega arith))
    _ a.outcome refl (arrived-bids a.answer n a.tells)
  where
    arrives : (j : Joins b edges) → Arrives b edges (on_items b.items j.after.settles.board) j.after.settles.bids
    arrives j =
        let chain = j.after.settles.chain in
        let kept = same_edges b.items (joined b edges) j.after.settles.board (chain-weights chain) in
        record {
          before = j.before;
          chain = chain;
          entries = kept b.market.arrived ∙ entered-edges b j.before (row_of edges) j.room ∙ accepted-edges edges j.before.laid.count.high j.accepted;
          others = λ i l. kept i ∙ entered-others b (row_of edges) i l;
          same = refl;
          after = j.sound;
        }

-- ---- Withdraw

-- The places of the items of a list
abbrev pub places_for : Board → List ℕ → List ℕ
places_for b items = places_on b.items items

-- What a served withdrawal is
pub record Quits (b : Board) (items : List ℕ) : Type 0 where
  pub before : Sound b
  pub listable : Listable b.items (cells items) (length items)
  pub listed : Listed (auction_of b) (cells (places_for b items)) (length (places_for b items))
  pub ends : WithdrawalEnds (auction_of b) (cells (places_for b items)) (length (places_for b items))
  pub sound : Sound (on_items b.items ends.board)
  pub answers : withdraw_of b items ≡ done (record { board = on_items b.items ends.board; answer = Ok ends.bids })

-- The board after the chains of those who held a place
quit-sound : (b : Board) (items : List ℕ) (h : Sound b) → Listable b.items (cells items) (length items) →
    Listed (auction_of b) (cells (places_for b items)) (length (places_for b items)) →
    (w : WithdrawalEnds (auction_of b) (cells (places_for b items)) (length (places_for b items))) → Sound (on_items b.items w.board)
quit-sound b items h can listed w =
    let gone = all_go (auction_of b) (cells (places_for b items)) (length (places_for b items)) h.auction listed in
    let m = chains-market w.chains in
    let same : w.board.market.items ≡ b.market.items = ap (λ (x : Market). x.items) m ∙ gone.items in
    let arrived : w.board.market.arrived ≡ b.market.arrived = ap (λ (x : Market). x.arrived) m ∙ gone.arrived in
    let weights : w.board.weights ≡ b.weights = chains-weights w.chains ∙ gone.weights in
    let flags : (s : ℕ) → place.withdrawn_at w.board s ≡ place.withdrawn_at (vacated_to (auction_of b) (cells (places_for b items)) (length (places_for b items))) s =
    λ s. ap (λ (x : Market). flag_at x.withdrawn s) m in
    let named : (s : ℕ) → s < b.market.items → named_in (cells (places_for b items)) (length (places_for b items)) (suc s) ≡ named_in (cells items) (length items) (suc (item_at b.items s)) =
    λ s l. places-named b.items (cells items) (length items) (sound-fits b h) can s (place-below b h s l) in
    record {
      laid = rw same h.laid;
      auction = w.sound;
      alike = λ s l.
          let ls : s < b.market.items = rw same at l in
          let k = item_at b.items s in
          let lk = owner-below b h s ls in
          let t = start_in b.items k in
          let lt = first_below b h k lk in
          record {
            flag = same_flag w.board.market.withdrawn w.board.market.withdrawn s t (w.sound.flags s l) (w.sound.flags t (rw same lt))
                (flags s ∙ gone-alike gone s t ls lt (named s ls ∙ ap (λ j. named_in (cells items) (length items) (suc j)) (sym (first-owner b h k lk)) ∙ sym (named t lt))
                ((places-as-item b k s h lk (belongs b h s ls)).withdrawn ∙ sym (places-as-item b k t h lk (first-place b k h lk)).withdrawn) ∙ sym (flags t));
            edges = λ i n. rw weights ((h.alike s ls).edges i (rw arrived at n));
          };
    }

pub quits : (b : Board) (items : List ℕ) → first_of (withdraw_checks b items) ≡ Ok tt → Quits b items
unfolding withdraw_of withdraw_by withdrawal_of
quits b items e =
    let u = served-next _ _ e in
    let s = (sound-decides b).sound (not-false _ u.0) in
    let a = served-withdrawal b items u.1 in
    let can : Listable b.items (cells items) (length items) = record { within = a.known; rising = a.rising } in
    let k = places-listed b items s can in
    let w = withdrawn-is-chains (auction_of b) (cells (places_for b items)) (length (places_for b items)) s.auction k in
    record { before = s; listable = can; listed = k; ends = w; sound = quit-sound b items s can k w; answers = rw (e, w.computed) }

module _ (b : Board) (items : List ℕ) where
  refused-withdrawal : (q : Refusal) → first_of (withdraw_checks b items) ≡ Err q → withdraw_of b items ≡ done (record { board = b; answer = Err q })
  unfolding withdraw_of withdraw_by
  refused-withdrawal q e = rw e

  pub withdraw-all : (P : Withdrawal → Type 0) →
      ((j : Quits b items) → P (record { board = on_items b.items j.ends.board; answer = Ok j.ends.bids })) →
      ((q : Refusal) → P (record { board = b; answer = Err q })) → (r : Withdrawal) → withdraw_of b items ≡ done r → P r
  withdraw-all P f g r h = go (first_of (withdraw_checks b items)) refl
    where
      go : (v : Verdict) → first_of (withdraw_checks b items) ≡ v → P r
      go (Ok tt) e = let j = quits b items e in same-done P (sym j.answers ∙ h) (f j)
      go (Err q) e = same-done P (sym (refused-withdrawal q e) ∙ h) (g q)

pub withdraw_ends : WithdrawEnds
withdraw_ends b items = go (first_of (withdraw_checks b items)) refl
  where
    go : (v : Verdict) → first_of (withdraw_checks b items) ≡ v → (r : Withdrawal) × (withdraw_of b items ≡ done r)
    go (Ok tt) e = (_, (quits b items e).answers)
    go (Err q) e = (_, refused-withdrawal b items q e)

-- A withdrawal serves, or refuses and leaves the board
pub withdraw-either : (b : Board) (items : List ℕ) → ((c : Board) × (n : ℕ) × WithdrawAnswers b items c (served n)) ⊎ ((r : Refusal) × WithdrawAnswers b items b (refused r))
withdraw-either b items = go (first_of (withdraw_checks b items)) refl
  where
    go : (v : Verdict) → first_of (withdraw_checks b items) ≡ v → ((c : Board) × (n : ℕ) × WithdrawAnswers b items c (served n)) ⊎ ((r : Refusal) × WithdrawAnswers b items b (refused r))
    go (Ok tt) e = inl (_, _, record { answer = Ok _; outcome = (quits b items e).answers; tells = refl })
    go (Err q) e = inr (q, record { answer = Err q; outcome = refused-withdrawal b items q e; tells = refl })

pub withdraw-demand-2 : WithdrawDemand2
withdraw-demand-2 b c items n a =
    withdraw-all b items (λ r. r.board ≡ c → r.answer ≡ Ok n → Withdraws b items c n)
    (λ j e f. let k : j.ends.bids ≡ n = cc in subst₂ (λ c n. Withdraws b items c n) e k (withdraws j))
    (λ q e f. let z : ◌≡◌ {A = ℕ} 0 1 = cc in absurd (omega arith))
    _ a.outcome refl (withdrawn-bids a.answer n a.tells)
  where
    withdraws : (j : Quits b items) → Withdraws b items (on_items b.items j.ends.board) j.ends.bids
    withdraws j =
        let gone = all_go (auction_of b) (cells (places_for b items)) (length (places_for b items)) j.before.auction j.listed in
        record {
          before = j.before;
          places = λ s l. places-named b.items (cells items) (length items) (sound-fits b j.before) j.listable s (place-below b j.before s l);
          gone = gone;
          order = displaced-in-order (auction_of b) (cells (places_for b items)) (length (places_for b items));
          chains = j.ends.chains;
          others = same_edges b.items (auction_of b) j.ends.board (chains-weights j.ends.chains ∙ gone.weights);
          same = refl;
          after = j.sound;
        }

-- ---- A sound board
pub sound-demand-2 : SoundDemand2
sound-demand-2 b sound =
    let s = (sound-is-settled (auction_of b)).0 sound.auction in
    let o = sound-over-places b sound in
    record {
      sum = tightness _ _ (placed.live (auction_of b)) _ (placed.matching_of (auction_of b)) _ _ s.matches s.tight ∙ ap (λ n. (b.market.slack.q + b.market.slack.p) * n) (sym o.weighs);
      share = λ other p. share-with _ _ (places_at b) (live b) _ _ (placed.matching_of (auction_of b)) _ _ other o.matches o.tight o.covers p;
      plan = o.plans;
      busy = λ i k t l away lk hw at e.
          let here = places-as-item b k t sound lk at in
          let none = unplaced-back (places_at b) b.items.count (placed.matching_of (auction_of b)) i away in
          let vacant = s.tight.unheld t here.below (λ h lh q. omega (arith, cell_free (holder_at (auction_of b) t) e, ((framed s).names.cell h t q).1)) in
          let wide = rw (← (here.live i l)) at hw in
          omega (arith, s.tight.unplaced i l none, vacant, sound.auction.covers i t l here.below wide, mul-pos (slack-gap s.slack.below) wide);
    }
  where
    slack-gap : {p q : ℕ} → p < q → 0 < q - p
    slack-gap l = omega arith

    -- Who is unplaced by item holds no place
    unplaced-back : (count : ℕ → ℕ) (m : ℕ) (matching : ℕ → ℕ) (i : ℕ) → read_back count m matching i ≡ 0 → matching i ≡ 0
    unplaced-back count m matching i e = go (matching i) refl e
      where
        go : (c : ℕ) → matching i ≡ c → at_cell (λ s. suc (item_of count m s)) c ≡ 0 → c ≡ 0
        go zero q e = refl
        go (suc s) q e = absurd (omega arith)
