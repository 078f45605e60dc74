-- What is solved on the live edges, written into three lists, shows the greatest weight; so the exact call meets demand 3 and demand 1.
use Rattle.std.specs.Prelude.{Err, Ok}
use mathlib.Core.Path.{◌≡◌, refl, sym, ap, subst, ◌∙◌}
use mathlib.Core.Bool.{true, cond}
use mathlib.Core.List.{List}
use Prim.Native.Nat.{ℕ, zero, suc, ◌+◌, ◌-◌, ◌*◌, ◌≤◌, ◌<◌}
use native.Mathlib.Nat.{one-mul}
use native.Mathlib.Omega.{arith}
use lib.ListN.{drop, length-drop}
use lib.Seq.{get_or-drop, ext_get_or}
use Rattle.duality.specs.Lists.{cells}
use Rattle.duality.specs.Matching.{at_cell, weight_of}
use Rattle.duality.proofs.Sums.{sum_to-eq}
use Rattle.duality.proofs.Agree.{weight-as, covers-as}
use Rattle.places.specs.Places.{places_to, spread_weights}
use Rattle.places.specs.Plan.{read_back}
use Rattle.places.specs.Total.{total_with, least_price}
use Rattle.places.specs.StrongDualityWith.{EqualWith}
use Rattle.places.proofs.PlaceLaws.{every-place-has-its-item}
use Rattle.places.proofs.Spread.{matching-reads-back}
use Rattle.places.proofs.SpreadCover.{least_of-le}
use Rattle.places.proofs.WeakDualityWith.{weak-duality-with}
use Rattle.places.proofs.StrongDualityWith.{equal-reads-back}
use Rattle.places.proofs.EqualExactlyWhenBestWith.{plan-as, total-with-as, equal-exactly-when-best-lists-with}
use Rattle.places.proofs.GreatestWeightWith.{greatest-weight-with}
use Rattle.board.specs.declared.lent.Columns.{Columns}
use Rattle.board.specs.declared.units.Pence.{Pence}
use Rattle.refusals.specs.declared.Refusal.{Refusal}
use Rattle.refusals.specs.declared.Told.{Told}
use Rattle.refusals.specs.Told.{served, refused}
use Rattle.refusals.proofs.Answers.{refused-apart, served-apart}
use Rattle.refusals.specs.Demand1.{first_of, Verdict}
use Rattle.refusals.proofs.Verdicts.{demand-1}
use Rattle.board.specs.Limits.{max_items}
use Rattle.board.specs.Cells.{pence}
use Rattle.board.specs.Live as placed
use Rattle.board.specs.Lent.{Lists, written, written_lists}
use Rattle.board.proofs.Written.{written-length, written_in, written-past}
use Rattle.supply.specs.declared.record.Board.{Board}
use Rattle.supply.specs.Board.{auction_of, places_at, all_places, start_in, item_at}
use Rattle.supply.specs.ByItem.{withdrawn_at, weight_at, live}
use Rattle.supply.specs.Sound.{Sound}
use Rattle.supply.specs.Lent.{Roomy}
use Rattle.supply.specs.Columns.{ReadByItem}
use Rattle.supply.proofs.SoundLaw.{sound-decides}
use Rattle.supply.proofs.ByItem.{places-as-item, first-place, sound-over-places}
use Rattle.supply.proofs.Lending.{roomy-decides, read-out-decided}
use Rattle.hungarian.specs.Solved.{Solved, SolvedBy}
use Rattle.hungarian.specs.LiveWeights.{LiveTo}
use Rattle.hungarian.specs.Exact.{Greatest, exact_checks, exact_by, exact_of, greatest_on, exact_told, KeptFrom, Shows, ExactOutcome}
use Rattle.hungarian.specs.Demand3.{EqualExactlyWhenBestOn, ExactGivesDemand3, ExactDemand1, ExactIsBest, ExactKeeps}
use Rattle.hungarian.proofs.Solving.{solved-is-greatest, solved-for-fewer}
use Rattle.hungarian.proofs.LiveWeights.{live-is, live-unused}

-- Weights count only where there are bidders and items
pub solved-as : {n m : ℕ} {w v : ℕ → ℕ → ℕ} {matching price gain : ℕ → ℕ} {weight : ℕ} → ((i k : ℕ) → i < n → k < m → w i k ≡ v i k)
    → Solved n m w matching price gain weight → Solved n m v matching price gain weight
solved-as {n} {m} {w} {v} {matching} {price} {gain} {weight} e s =
    record {
      matches = record { along = λ i k l h. along i k l (s.matches.along i k l h); once = s.matches.once };
      covers = λ i k l lk hw. covered i k l lk (e i k l lk) hw;
      tight = record { placed = λ i k l h. s.tight.placed i k l h ∙ ap (λ x. 1 * x) (e i k l (s.matches.along i k l h).0); unplaced = s.tight.unplaced; unheld = s.tight.unheld };
      weighs = s.weighs ∙ sum_to-eq n _ _ (λ i l. same i l (matching i) refl);
      totals = s.totals;
    }
  where
    along : (i k : ℕ) → i < n → (k < m) × (0 < w i k) → (k < m) × (0 < v i k)
    along i k l (lk, edge) = (lk, rw (← e i k l lk) edge)

    covered : (i k : ℕ) → i < n → k < m → w i k ≡ v i k → 0 < v i k → 1 * v i k ≤ gain i + price k
    covered i k l lk x hw = rw (← x) (s.covers i k l lk (rw x hw))

    same : (i : ℕ) → i < n → (c : ℕ) → matching i ≡ c → at_cell (w i) c ≡ at_cell (v i) c
    same i l zero h = refl
    same i l (suc k) h = e i k l (s.matches.along i k l h).0

pub kept_from : (n : ℕ) (f : ℕ → ℕ) (l : List ℕ) → KeptFrom n l (written n f l)
kept_from n f l = record { size = written-length n f l; further = λ i u. written-past n f l i u }

-- What is solved on the live edges by place, and read by item
module _ (b : Board) (matrix : List ℕ) (c : Columns) (weight : ℕ) (s : Sound b) (p : LiveTo max_items b.weights b.market.withdrawn matrix)
    (solved : SolvedBy b.market.arrived matrix c weight) where
  -- Of all places of the board
  by_place : Solved b.market.arrived b.market.items (placed.live (auction_of b)) (cells c.plan) (cells c.prices) (cells c.gains) weight
  by_place =
      solved-for-fewer _ _ b.market.items _ _ _ _ _ s.auction.items.1 (λ i k li u lk. live-unused (auction_of b) s.auction matrix p i k li u lk)
      (solved-as (λ i k li lk. live-is (auction_of b) s.auction matrix p i k (omega (arith, s.auction.arrived)) lk) solved)

  -- A bidder's cell names one of all places, or none
  pub solved-few : (i : ℕ) → i < b.market.arrived → cells c.plan i ≤ all_places b.items
  solved-few i l = go (cells c.plan i) refl
    where
      go : (m : ℕ) → cells c.plan i ≡ m → m ≤ all_places b.items
      go zero e = omega arith
      go (suc k) e = omega (arith, (by_place.matches.along i k l e).0, s.laid.all)

  -- With the weights by item
  spread : Solved b.market.arrived (places_to (places_at b) b.items.count) (spread_weights (places_at b) b.items.count (live b))
      (cells c.plan) (cells c.prices) (cells c.gains) weight
  spread =
      let w = spread_weights (places_at b) b.items.count (live b) in
      subst (λ m. Solved b.market.arrived m w (cells c.plan) (cells c.prices) (cells c.gains) weight) s.laid.all (solved-as as-item by_place)
    where
      as-item : (i k : ℕ) → i < b.market.arrived → k < b.market.items → placed.live (auction_of b) i k ≡ live b i (item_at b.items k)
      as-item i k li lk =
          let (l, at) = every-place-has-its-item (places_at b) b.items.count k (rw s.laid.all at lk) in
          (places-as-item b (item_at b.items k) k s l at).live i li

  -- A plan and a cover with equal totals, at the least prices
  by-item : EqualWith b.market.arrived b.items.count (places_at b) (live b)
      (read_back (places_at b) b.items.count (cells c.plan)) (least_price (places_at b) (cells c.prices)) (cells c.gains)
  by-item =
      equal-reads-back _ _ _ _ _ _ _ (sound-over-places b s).some (solved-is-greatest _ _ _ _ _ _ _ spread).equal

  weighs-by-item : weight ≡ weight_of b.market.arrived (live b) (read_back (places_at b) b.items.count (cells c.plan))
  weighs-by-item = spread.weighs ∙ sym (matching-reads-back _ b.items.count (places_at b) (live b) _ spread.matches).same

  -- Nobody has a live edge at the first place of a withdrawn item
  gone-free : (k : ℕ) → k < b.items.count → withdrawn_at b k ≡ true → least_price (places_at b) (cells c.prices) k ≡ 0
  gone-free k lk gone =
      let start = start_in b.items k in
      let below = (places-as-item b k start s lk (first-place b k s lk)).below in
      let free = (solved-is-greatest _ _ _ _ _ _ _ by_place).unwanted start below (λ i li. ap (λ f. cond f 0 (weight_at b i k)) gone) in
      let e : start + 0 ≡ start = omega arith in
      omega (
        arith,
        least_of-le (cells c.prices start) (places_at b k) (λ j. cells c.prices (start + j)) 0 (omega (arith, (s.laid.each k lk).low)),
        ap (cells c.prices) e,
        free,
      )

  -- Lists that hold it
  pub shows : (l : Lists) (d : Columns) → Roomy b l → ReadByItem b.items b.market.arrived c d →
      Shows b l (Ok (pence weight)) (written_lists b.market.arrived b.items.count d l)
  shows l d room read =
      record {
        matches = plan-as plan-is by-item.plans;
        covers = covers-as _ _ _ 1 _ _ _ _ prices-are gains-are by-item.covers;
        weighs = ap served (weighs-by-item ∙ sym (weight-as _ (live b) _ _ plan-is));
        totals = ap served (weighs-by-item ∙ by-item.same ∙ sym (total-with-as _ _ (places_at b) _ _ _ _ prices-are gains-are));
        withdrawn = λ k lk gone. prices-are k lk ∙ gone-free k lk gone;
        plan = kept_from b.market.arrived (cells d.plan) l.plan;
        prices = kept_from b.items.count (cells d.prices) l.prices;
        gains = kept_from b.market.arrived (cells d.gains) l.gains;
      }
    where
      plan-is : (i : ℕ) → i < b.market.arrived →
          cells (written b.market.arrived (cells d.plan) l.plan) i ≡ read_back (places_at b) b.items.count (cells c.plan) i
      plan-is i li = written_in b.market.arrived (cells d.plan) l.plan room.plan i li ∙ read.plan i li

      prices-are : (k : ℕ) → k < b.items.count →
          cells (written b.items.count (cells d.prices) l.prices) k ≡ least_price (places_at b) (cells c.prices) k
      prices-are k lk = written_in b.items.count (cells d.prices) l.prices room.prices k lk ∙ read.prices k lk

      gains-are : (i : ℕ) → i < b.market.arrived → cells (written b.market.arrived (cells d.gains) l.gains) i ≡ cells c.gains i
      gains-are i li = written_in b.market.arrived (cells d.gains) l.gains room.gains i li ∙ ap (λ gains. cells gains i) read.gains

pub best-on : (b : Board) → Sound b → EqualExactlyWhenBestOn b
best-on b s plan prices gains =
    equal-exactly-when-best-lists-with b.market.arrived b.items.count (places_at b) (live b) plan prices gains (sound-over-places b s).some

-- Both totals are the answer, so they are equal
pub shown-equal : {b : Board} {before after : Lists} {answer : Greatest} → Shows b before answer after →
    EqualWith b.market.arrived b.items.count (places_at b) (live b) (cells after.plan) (cells after.prices) (cells after.gains)
shown-equal {after = after} s = record { plans = s.matches; covers = s.covers; same = ap (λ (t : Told). t.value) (sym s.weighs ∙ s.totals) }

pub exact-is-best : ExactIsBest
exact-is-best b before after answer s =
    record {
      answers = s.totals ∙ ap served whole;
      weight = (shown-equal s).same ∙ whole;
      sum = whole;
      greatest = (greatest-weight-with b.market.arrived b.items.count (places_at b) (live b)).bound;
      least = λ y x c. least y x (weak-duality-with b.market.arrived b.items.count (places_at b) (live b) 1 (cells after.plan) y x s.matches c);
    }
  where
    whole : total_with b.market.arrived b.items.count (places_at b) (cells after.prices) (cells after.gains) ≡ greatest_on b
    whole = (greatest-weight-with b.market.arrived b.items.count (places_at b) (live b)).equal _ _ _ (shown-equal s)

    least : (y x : ℕ → ℕ) →
        1 * weight_of b.market.arrived (live b) (cells after.plan) ≤ total_with b.market.arrived b.items.count (places_at b) y x →
        greatest_on b ≤ total_with b.market.arrived b.items.count (places_at b) y x
    least y x l = rw (← (one-mul (weight_of b.market.arrived (live b) (cells after.plan)) ∙ (shown-equal s).same ∙ whole)) l

-- ---- Further cells

same-behind : {n : ℕ} {before after : List ℕ} → KeptFrom n before after → drop n after ≡ drop n before
same-behind {n} {before} {after} k =
    ext_get_or 0 _ _ (simp length-drop (ap (λ x. x - n) k.size))
    (λ i _. get_or-drop n after i 0 ∙ k.further (n + i) (omega arith) ∙ sym (get_or-drop n before i 0))

pub exact-keeps : ExactKeeps
exact-keeps b before after answer s =
    record {
      plan = same-behind s.plan;
      prices = same-behind s.prices;
      gains = same-behind s.gains;
      plan_length = s.plan.size;
      prices_length = s.prices.size;
      gains_length = s.gains.size;
    }

-- ---- What is told of an answer names the answer

pub exact-told-weight : (a : Greatest) (w : ℕ) → exact_told a ≡ served w → a ≡ Ok (pence w)
exact-told-weight (Ok v) w e = ap (λ x. Ok (pence x)) (ap (λ (t : Told). t.value) e)
exact-told-weight (Err r) w e = served-apart w r _ _ (sym e)

exact-told-refused : (a : Greatest) (r : Refusal) → exact_told a ≡ refused r → a ≡ Err r
exact-told-refused (Ok v) r e = served-apart v.0 r _ _ e
exact-told-refused (Err s) r e = ap Err (refused-apart s r e)

-- ---- The call's two ends

module _ (b : Board) (l : Lists) where
  pub exact-refused : (r : Refusal) → first_of (exact_checks b l) ≡ Err r → ExactOutcome b l (Err r) l
  unfolding exact_of exact_by
  exact-refused r e = record { answers = rw e refl; refused = λ q f. refl; served = λ w f. served-apart w r _ _ (sym f) }

  pub exact-shown : (answer : Greatest) (after : Lists) → first_of (exact_checks b l) ≡ Ok tt → Shows b l answer after → ExactOutcome b l answer after
  unfolding exact_of exact_by
  exact-shown answer after e s =
      record {
        answers = rw e (exact-told-weight answer _ (exact-is-best b l after answer s).answers);
        refused = λ r f. served-apart _ r _ _ (sym s.totals ∙ f);
        served = λ w f. s;
      }

-- ---- Demand 3

lent-served : (b : Board) (l : Lists) → Sound b → Roomy b l → first_of (exact_checks b l) ≡ Ok tt
unfolding first_of
lent-served b l s room = rw ((sound-decides b).complete s, (roomy-decides b l).complete room) refl

pub exact-gives-demand-3 : ExactGivesDemand3
unfolding exact_of exact_by
exact-gives-demand-3 b l after answer o =
    record { best = best-on b; exact = λ s room. o.served (greatest_on b) (ap exact_told (o.answers ∙ ap (exact_by b) (lent-served b l s room))) }

-- ---- Demand 1

pub exact-demand-1 : ExactDemand1
unfolding exact_of exact_by
exact-demand-1 b l after answer o =
    demand-1 (read-out-decided b l)
    (λ r. (
      λ e. let a = ap exact_told (o.answers ∙ ap (exact_by b) e) in (a, o.refused r a),
      λ e. by-refused r (first_of (exact_checks b l)) (sym o.answers ∙ exact-told-refused answer r e.0),
    )) (
      λ e. o.served (greatest_on b) (ap exact_told (o.answers ∙ ap (exact_by b) e)),
      λ s. by-shown (first_of (exact_checks b l)) (sym o.answers ∙ exact-told-weight answer _ s.totals),
    )
  where
    by-refused : (r : Refusal) (v : Verdict) → exact_by b v ≡ Err r → v ≡ Err r
    by-refused r (Ok tt) e = let z : ◌≡◌ {A = ℕ} 0 1 = cc in absurd (omega arith)
    by-refused r (Err s) e = let h : s ≡ r = cc in ap Err h

    by-shown : {w : Pence} (v : Verdict) → exact_by b v ≡ Ok w → v ≡ Ok tt
    by-shown (Ok tt) e = refl
    by-shown (Err s) e = let z : ◌≡◌ {A = ℕ} 0 1 = cc in absurd (omega arith)
