-- The lines of a history text, as the code carries them out.
use Rattle.std.specs.Prelude.{Err, Ok, Result, MatchResult, IsErrAnd}
use Rattle.std.proofs.lemmas.Result.{err_from_is_err_and}
use mathlib.Core.Path.{◌≡◌, refl, sym, ap, subst, ◌∙◌}
use mathlib.Core.Bool.{true, false}
use mathlib.Core.List.{List, []}
use mathlib.Core.Logic.{⊎_elim}
use Prim.Native.Nat.{ℕ, suc, ◌+◌, ◌-◌, ◌*◌, ◌≤◌, ◌<◌}
use native.Mathlib.Omega.{arith}
use lib.ListN.{length, get_or, set}
use borrow.Author.Tests.{lt-ltb, le-ltb}
use Rattle.text.specs.declared.line.Line.{Line}
use Rattle.text.specs.Line.{bad_line, line_at}
use Rattle.text.proofs.Forms.{line-sound, line-complete, line-ahead}
use Rattle.supply.specs.declared.record.Board.{Board}
use Rattle.board.specs.declared.record.Edge.{Edge}
use Rattle.refusals.specs.declared.Refusal.{Refusal}
use Rattle.refusals.specs.declared.AtLine.{AtLine}
use Rattle.auction.specs.Arrive.{Arrival, arrival, arrive_of}
use Rattle.auction.specs.Withdraw.{Withdrawal, withdrawal, withdraw_of}
use Rattle.replay.specs.declared.Replayed.{Replayed}
use Rattle.board.specs.Limits.{max_items, max_bidders, max_q, max_text}
use Rattle.bidding.specs.Rule.{Outcome, done}
use Rattle.refusals.specs.Demand1.{first_of, Verdict}
use Rattle.refusals.proofs.Verdicts.{served-next}
use Rattle.supply.specs.Board.{auction_of}
use Rattle.supply.specs.Opening.{opened, open_checks, open_by, open_of}
use Rattle.auction.specs.Histories.{Reached}
use Rattle.replay.specs.Counted.{Counted}
use Rattle.replay.specs.Replay.{Command, opens, places, arrives, withdraws, malformed, command_of, finished, stopped, after_arrived, after_arrival, after_withdrawn, after_withdrawal, carry_out, lines_from, halted, Ending, place_checks, at_line, after_places, place_line, place_lines, ones, after_opened, first_line, replay_of}
use Rattle.replay.specs.ReplayLaws.{replayed, after_call, after_line, ReachedBy}
use Rattle.bidding.proofs.Potentials.{potential-within}
use Rattle.bidding.proofs.Turns.{limit-small}
use Rattle.auction.proofs.Demand2.{arrive_ends, withdraw_ends}
use Rattle.auction.proofs.Histories.{counted}
use Rattle.replay.proofs.ReplayForms.{is_opening, is_places, says-opens, says-places, places-goes, places-none, opens-none, carries-none}

-- What makes the lines that follow
abbrev pub Next : Type 0
Next = Board → ℕ → Outcome Replayed

-- ---- A line that is served is a step of a history, and the bids in all fit the code's type

pub arrival-reached : {b c : Board} {a : (Result ℕ Refusal)} {bids k : ℕ} (edges : List Edge) →
    done (arrival c a) ≡ arrive_of b edges → a ≡ Ok k → ReachedBy b bids → ReachedBy c (bids + k)
arrival-reached {c = c} edges h e t = (_, Reached.arrives edges (arrival c (Ok _)) t.1 (sym h ∙ ap (λ a. done (arrival c a)) e))

pub withdrawal-reached : {b c : Board} {a : (Result ℕ Refusal)} {bids k : ℕ} (items : List ℕ) →
    done (withdrawal c a) ≡ withdraw_of b items → a ≡ Ok k → ReachedBy b bids → ReachedBy c (bids + k)
withdrawal-reached {c = c} items h e t = (_, Reached.withdraws items (withdrawal c (Ok _)) t.1 (sym h ∙ ap (λ a. done (withdrawal c a)) e))

pub bids-fit : {b : Board} {bids : ℕ} → ReachedBy b bids → bids ≤ max_bidders * max_items * max_q
bids-fit {b} t =
    let c = counted t.1 in
    let s = c.sound in
    omega (arith, c.bids, potential-within (auction_of b), limit-small (auction_of b) s.auction.items.1 s.auction.arrived s.auction.slack.high)

-- ---- What follows an arrival, and what follows a withdrawal
module _ (next : Next) (n bids : ℕ) {c : Board} where
  pub arrival-goes : {a : (Result ℕ Refusal)} {k : ℕ} {o : Outcome Arrival} → done (arrival c a) ≡ o → a ≡ Ok k → next c (bids + k) ≡ after_arrival next n bids o
  unfolding after_arrival after_arrived
  arrival-goes h e = rw (← h, e)

  pub arrival-stops : {a : (Result ℕ Refusal)} {r : Refusal} {o : Outcome Arrival} → done (arrival c a) ≡ o → a ≡ Err r → stopped c bids r n ≡ after_arrival next n bids o
  unfolding after_arrival after_arrived
  arrival-stops h e = rw (← h, e)

  pub withdrawal-goes : {a : (Result ℕ Refusal)} {k : ℕ} {o : Outcome Withdrawal} → done (withdrawal c a) ≡ o → a ≡ Ok k → next c (bids + k) ≡ after_withdrawal next n bids o
  unfolding after_withdrawal after_withdrawn
  withdrawal-goes h e = rw (← h, e)

  pub withdrawal-stops : {a : (Result ℕ Refusal)} {r : Refusal} {o : Outcome Withdrawal} →
      done (withdrawal c a) ≡ o → a ≡ Err r → stopped c bids r n ≡ after_withdrawal next n bids o
  unfolding after_withdrawal after_withdrawn
  withdrawal-stops h e = rw (← h, e)

-- The error that a `?` hands up
pub stopped_up : {T E : Type 0} {e : E} (r : Result T E) → IsErrAnd r (λ s. s ≡ e) → r ≡ Err e
stopped_up r h = let p = err_from_is_err_and r h in p.1 ∙ ap Err p.2

-- The code's word for both
module _ (n bids : ℕ) {c : Board} where
  pub arrival-says : {a : Result ℕ Refusal} {o : Outcome Arrival} → done (arrival c a) ≡ o → done (after_call n bids c a) ≡ after_arrival finished n bids o
  unfolding after_arrival after_arrived
  arrival-says {a = Ok k} h = rw (← h) refl
  arrival-says {a = Err r} h = rw (← h) refl

  pub withdrawal-says : {a : Result ℕ Refusal} {o : Outcome Withdrawal} → done (withdrawal c a) ≡ o → done (after_call n bids c a) ≡ after_withdrawal finished n bids o
  unfolding after_withdrawal after_withdrawn
  withdrawal-says {a = Ok k} h = rw (← h) refl
  withdrawal-says {a = Err r} h = rw (← h) refl

-- A refusal that is told at its line
pub said-at-line : (n : ℕ) (b : Board) (a : Result ℕ Refusal) (r : Result ℕ AtLine) (bids : ℕ) →
    MatchResult a (λ k. r ≡ Ok k) (λ e. r ≡ Err (record { refusal = e; line = n })) → done (after_line bids b r) ≡ done (after_call n bids b a)
said-at-line n b (Ok k) r bids h = ap (λ (r : Result ℕ AtLine). done (after_line bids b r)) h
said-at-line n b (Err e) r bids h = ap (λ (r : Result ℕ AtLine). done (after_line bids b r)) h

-- What was answered before
pub served-before : {T : Type 0} (n : ℕ) (a : Result T Refusal) (x : T) →
    MatchResult a (λ y. ◌≡◌ {A = Result T AtLine} (Ok x) (Ok y)) (λ e. ◌≡◌ {A = Result T AtLine} (Ok x) (Err (record { refusal = e; line = n }))) → a ≡ Ok x
served-before n (Ok y) x h = let q : x ≡ y = cc in rw q
served-before n (Err e) x h = let z : ◌≡◌ {A = ℕ} 0 1 = cc in absurd (omega arith)

pub refused-before : {T : Type 0} (n : ℕ) (a : Result T Refusal) (s : AtLine) →
    MatchResult a (λ y. ◌≡◌ {A = Result T AtLine} (Err s) (Ok y)) (λ e. ◌≡◌ {A = Result T AtLine} (Err s) (Err (record { refusal = e; line = n }))) →
    (e : Refusal) × (a ≡ Err e) × (s ≡ record { refusal = e; line = n })
refused-before n (Ok y) s h = let z : ◌≡◌ {A = ℕ} 0 1 = cc in absurd (omega arith)
refused-before n (Err e) s h = let q : s ≡ record { refusal = e; line = n } = cc in (e, refl, q)

-- ---- A line carried out: the lines that follow go on from there, or it is refused

pub data Carried (n : ℕ) (b : Board) (bids : ℕ) (command : Command) : Replayed → Type 0 where
  goes : {c : Board} {m : ℕ} → ((next : Next) → carry_out next n b bids command ≡ next c m) → (ReachedBy b bids → ReachedBy c m) →
      (command ≡ malformed → ⊥) → Carried n b bids command (replayed c m (Ok tt))
  stops : {c : Board} {r : Refusal} → ((next : Next) → carry_out next n b bids command ≡ stopped c bids r n) →
      Carried n b bids command (replayed c bids (halted r n))

pub carried : (n : ℕ) (b : Board) (bids : ℕ) (command : Command) → (r : Replayed) × Carried n b bids command r
unfolding carry_out
carried n b bids (opens k p q) = (_, stops {r = Refusal.Line n} (λ next. refl))
carried n b bids (places k c) = (_, stops {r = Refusal.Line n} (λ next. refl))
carried n b bids malformed = (_, stops {r = Refusal.Line n} (λ next. refl))
carried n b bids (arrives edges) = let u = arrive_ends b edges in go u.0.board u.0.answer (sym u.1)
  where
    go : (c : Board) (a : Result ℕ Refusal) → done (arrival c a) ≡ arrive_of b edges → (r : Replayed) × Carried n b bids (arrives edges) r
    go c (Ok k) h =
        (_, goes (λ next. sym (arrival-goes next n bids h refl)) (arrival-reached edges h refl) (λ e. let z : ◌≡◌ {A = ℕ} 0 1 = cc in omega arith))
    go c (Err r) h = (_, stops (λ next. sym (arrival-stops next n bids h refl)))
carried n b bids (withdraws items) = let u = withdraw_ends b items in go u.0.board u.0.answer (sym u.1)
  where
    go : (c : Board) (a : Result ℕ Refusal) → done (withdrawal c a) ≡ withdraw_of b items → (r : Replayed) × Carried n b bids (withdraws items) r
    go c (Ok k) h =
        (_, goes (λ next. sym (withdrawal-goes next n bids h refl)) (withdrawal-reached items h refl) (λ e. let z : ◌≡◌ {A = ℕ} 0 1 = cc in omega arith))
    go c (Err r) h = (_, stops (λ next. sym (withdrawal-stops next n bids h refl)))

-- An ending is one of two
pub unfinished : {A : Type 0} {r : Refusal} {n : ℕ} → ◌≡◌ {A = Ending} (halted r n) (Ok tt) → A
unfinished e = let z : ◌≡◌ {A = ℕ} 0 1 = cc in absurd (omega arith)

module _ {n : ℕ} {b : Board} {bids : ℕ} {command : Command} where
  alone : {r : Replayed} → Carried n b bids command r → carry_out finished n b bids command ≡ done r
  alone (goes f g h) = f finished
  alone (stops f) = f finished

  -- A line with nothing after it says what it does before others
  carried-as : {r : Replayed} → done r ≡ carry_out finished n b bids command → Carried n b bids command r
  carried-as {r} e =
      let u = carried n b bids command in
      let h = e ∙ alone u.1 in
      let q : u.0 ≡ r = cc in
      subst (Carried n b bids command) q u.1

  goes_on : {r : Replayed} → Carried n b bids command r → r.answer ≡ Ok tt →
      ((next : Next) → carry_out next n b bids command ≡ next r.board r.bids) × (ReachedBy b bids → ReachedBy r.board r.bids) × (command ≡ malformed → ⊥)
  goes_on (goes f g h) e = (f, g, h)
  goes_on (stops f) e = unfinished e

  stops-there : {r : Replayed} {q : Refusal} {m : ℕ} → Carried n b bids command r → r.answer ≡ halted q m → (next : Next) → carry_out next n b bids command ≡ done r
  stops-there (goes f g h) e next = unfinished (sym e)
  stops-there (stops f) e next = f next

-- ---- The lines from a position on

-- A line of the form ends after it starts, in the text
pub line_on : (s : List ℕ) (at : ℕ) → (command_of (line_at s at) ≡ malformed → ⊥) → (at < (line_at s at).next) × ((line_at s at).next ≤ length s)
unfolding command_of
line_on s at f =
    ⊎_elim (λ e. absurd (f (ap command_of e)))
    (λ w. rw (line-complete s at w.0 w.1 w.2) (line-ahead s at w.0 w.1 w.2))
    (line-sound s at)

module _ (s : List ℕ) (at n : ℕ) (b : Board) (bids fuel : ℕ) where
  -- The lines after this one
  abbrev pub after : Next
  after c more = lines_from fuel s (line_at s at).next (n + 1) c more

  pub lines-turn : at < length s → lines_from (suc fuel) s at n b bids ≡ carry_out after n b bids (command_of (line_at s at))
  unfolding lines_from
  lines-turn h = rw (lt-ltb at (length s) h)

  pub lines_end : length s ≤ at → lines_from (suc fuel) s at n b bids ≡ finished b bids
  unfolding lines_from
  lines_end h = rw (le-ltb at (length s) h)

-- All lines after those that open the board, of which the first is line `first`
abbrev pub all_lines : List ℕ → ℕ → ℕ → Board → Outcome Replayed
all_lines s start first b = lines_from (suc (length s)) s start first b 0

-- A replay on its way: the lines from here on say what all lines say. A line has a byte at least, so that fuel is left
pub record Replaying (s : List ℕ) (start first : ℕ) (b₀ : Board) (at n : ℕ) (b : Board) (bids : ℕ) : Type 0 where
  pub since : first ≤ n
  pub few : n ≤ at + first
  pub inside : at ≤ length s
  pub reached : ReachedBy b bids
  pub rest : lines_from (length s + 1 + first - n) s at n b bids ≡ all_lines s start first b₀

pub replaying-starts : (s : List ℕ) (start first : ℕ) (b : Board) → start ≤ length s → ReachedBy b 0 → Replaying s start first b start first b 0
replaying-starts s start first b h t =
    let z : length s + 1 + first - first ≡ suc (length s) = omega arith in
    record { since = omega arith; few = omega arith; inside = h; reached = t; rest = rw z }

module _ {s : List ℕ} {start first : ℕ} {b₀ : Board} {at n : ℕ} {b : Board} {bids : ℕ} (w : Replaying s start first b₀ at n b bids) where
  turns : length s + 1 + first - n ≡ suc (length s + 1 + first - (n + 1))
  turns = omega (arith, w.few, w.inside)

  pub replaying-ends : length s ≤ at → finished b bids ≡ all_lines s start first b₀
  replaying-ends h = sym (rw turns (lines_end s at n b bids (length s + 1 + first - (n + 1)) h)) ∙ w.rest

  -- Line n was read, and carried out as r says
  module _ (h : at < length s) {l : Line} (e : l ≡ line_at s at) {r : Replayed} (c : done r ≡ carry_out finished n b bids (command_of l)) where
    step : Carried n b bids (command_of (line_at s at)) r
    step = carried-as (c ∙ ap (λ (l : Line). carry_out finished n b bids (command_of l)) e)

    here : carry_out (after s at n b bids (length s + 1 + first - (n + 1))) n b bids (command_of (line_at s at)) ≡ all_lines s start first b₀
    here = sym (rw turns (lines-turn s at n b bids (length s + 1 + first - (n + 1)) h)) ∙ w.rest

    pub replaying-stops : {q : Refusal} {m : ℕ} → r.answer ≡ halted q m → done r ≡ all_lines s start first b₀
    replaying-stops a = sym (stops-there step a _) ∙ here

    pub replaying-on : r.answer ≡ Ok tt → (at < l.next) × Replaying s start first b₀ l.next (n + 1) r.board r.bids
    replaying-on a =
        let g = goes_on step a in
        let o = line_on s at g.2 in
        rw e (
          o.0,
          record {
            since = omega (arith, w.since);
            few = omega (arith, w.few);
            inside = o.1;
            reached = g.1 w.reached;
            rest = sym (g.0 _) ∙ here;
          },
        )

-- A line that is not of the form stops the replay
pub bad-stops : (n : ℕ) (b : Board) (bids : ℕ) → done (replayed b bids (halted (Refusal.Line n) n)) ≡ carry_out finished n b bids (command_of bad_line)
bad-stops n b bids = sym (carries-none bad_line finished n b bids refl refl)

-- ---- The lines that open the board

module _ (s : List ℕ) (at n items p q low : ℕ) (counts : List ℕ) (fuel : ℕ) where
  -- What the lines after this one make, with another count
  abbrev pub after_place : ℕ → List ℕ → Outcome Replayed
  after_place k more = place_lines fuel s (line_at s at).next (n + 1) items p q k more

  -- What all lines from here on make, if none of them is one of places
  abbrev pub others : Outcome Replayed
  others = all_lines s at n (opened p q counts)

  pub places-turn : at < length s → place_lines (suc fuel) s at n items p q low counts ≡ place_line after_place others n items p q low counts (command_of (line_at s at))
  unfolding place_lines
  places-turn h = rw (lt-ltb at (length s) h)

  pub places-end : length s ≤ at → place_lines (suc fuel) s at n items p q low counts ≡ finished (opened p q counts) 0
  unfolding place_lines
  places-end h = rw (le-ltb at (length s) h)

-- All lines but the first
abbrev pub all_placing : List ℕ → ℕ → ℕ → ℕ → ℕ → Outcome Replayed
all_placing s start items p q = place_lines (suc (length s)) s start 2 items p q 0 (ones items)

-- A board on its way to be opened
pub record Placing (s : List ℕ) (start items p q at n low : ℕ) (counts : List ℕ) : Type 0 where
  pub since : 2 ≤ n
  pub few : n ≤ at + 2
  pub inside : at ≤ length s
  pub counted : Counted items p q counts
  pub rest : place_lines (length s + 3 - n) s at n items p q low counts ≡ all_placing s start items p q

pub placing-starts : (s : List ℕ) (start items p q : ℕ) → start ≤ length s → Counted items p q (ones items) → Placing s start items p q start 2 0 (ones items)
placing-starts s start items p q h c =
    let z : length s + 3 - 2 ≡ suc (length s) = omega arith in
    record { since = omega arith; few = omega arith; inside = h; counted = c; rest = rw z }

module _ {s : List ℕ} {start items p q at n low : ℕ} {counts : List ℕ} (w : Placing s start items p q at n low counts) where
  more : length s + 3 - n ≡ suc (length s + 3 - (n + 1))
  more = omega (arith, w.few, w.inside)

  pub placing-ends : length s ≤ at → finished (opened p q counts) 0 ≡ all_placing s start items p q
  placing-ends h = sym (rw more (places-end s at n items p q low counts (length s + 3 - (n + 1)) h)) ∙ w.rest

  -- The text is over: there are no others
  pub placing-past : length s ≤ at → all_lines s at n (opened p q counts) ≡ all_placing s start items p q
  placing-past h = lines_end s at n (opened p q counts) 0 (length s) h ∙ placing-ends h

  module _ (h : at < length s) {l : Line} (e : l ≡ line_at s at) where
    -- Line n, as it was read
    now-at : place_line (after_place s at n items p q low counts (length s + 3 - (n + 1))) (others s at n items p q low counts (length s + 3 - (n + 1))) n items p q low counts
        (command_of l) ≡ all_placing s start items p q
    now-at =
        ap (λ (l : Line). place_line (after_place s at n items p q low counts (length s + 3 - (n + 1))) (others s at n items p q low counts (length s + 3 - (n + 1))) n items p q low counts (command_of l)) e
        ∙ sym (rw more (places-turn s at n items p q low counts (length s + 3 - (n + 1)) h))
        ∙ w.rest

    -- It is not one of places
    pub placing-rest : is_places l ≡ false → all_lines s at n (opened p q counts) ≡ all_placing s start items p q
    placing-rest t = sym (places-none l _ _ n items p q low counts t) ∙ now-at

    module _ (t : is_places l ≡ true) {v : Verdict} (c : v ≡ first_of (place_checks items p q low counts (get_or l.numbers 0 0) (get_or l.numbers 1 0))) where
      pub placing-stops : {r : Refusal} → v ≡ Err r → stopped (opened p q counts) 0 r (at_line r n) ≡ all_placing s start items p q
      unfolding after_places
      placing-stops f = let g = sym c ∙ f in sym (places-goes l _ _ n items p q low counts t ∙ rw g) ∙ now-at

      pub placing-on : v ≡ Ok tt →
          (at < l.next) × Placing s start items p q l.next (n + 1) (get_or l.numbers 0 0) (set counts (get_or l.numbers 0 0 - 1) (get_or l.numbers 1 0))
      unfolding after_places place_checks
      placing-on f =
          let g = sym c ∙ f in
          let o = line_on s at (λ m.
          let a = says-places l t in
          let b = ap command_of e in
          let z : ◌≡◌ {A = ℕ} 0 1 = cc in
          omega arith) in
          let u = served-next _ _ (served-next _ _ g).1 in (
            rw e o.0,
            record {
              since = omega (arith, w.since);
              few = rw e (omega (arith, w.few, o.0));
              inside = rw e o.1;
              counted = u.1;
              rest =
                  ap (λ (x : Line). place_lines (length s + 3 - (n + 1)) s x.next (n + 1) items p q (get_or l.numbers 0 0) (set counts (get_or l.numbers 0 0 - 1) (get_or l.numbers 1 0))) e
                  ∙ sym (places-goes l (after_place s at n items p q low counts (length s + 3 - (n + 1))) (others s at n items p q low counts (length s + 3 - (n + 1))) n items p q low counts t ∙ rw g)
                  ∙ now-at;
            },
          )

-- ---- The whole text
module _ (s : List ℕ) where
  pub replay-long : max_text < length s → stopped (opened 0 0 []) 0 Refusal.Long 0 ≡ replay_of s
  unfolding replay_of
  replay-long h = rw (lt-ltb max_text (length s) h)

  -- The first line was read
  module _ (h : length s ≤ max_text) {l : Line} (e : l ≡ line_at s 0) where
    begins : first_line s l.next (command_of l) ≡ replay_of s
    unfolding replay_of
    begins = rw (le-ltb max_text (length s) h) (ap (λ (l : Line). first_line s l.next (command_of l)) e)

    pub replay-none : is_opening l ≡ false → stopped (opened 0 0 []) 0 (Refusal.Line 1) 1 ≡ replay_of s
    replay-none t = sym (opens-none l t s l.next) ∙ begins

    module _ (t : is_opening l ≡ true) where
      pub replay-inside : l.next ≤ length s
      replay-inside =
          rw e
          (line_on s 0 (λ q.
          let a = says-opens l t in
          let b = ap command_of e in
          let z : ◌≡◌ {A = ℕ} 0 1 = cc in
          omega arith)).1

      module _ {v : Verdict} (w : v ≡ first_of (open_checks (get_or l.numbers 0 0) (get_or l.numbers 1 0) (get_or l.numbers 2 0) (ones (get_or l.numbers 0 0)))) where
        pub replay-opened : v ≡ Ok tt → all_placing s l.next (get_or l.numbers 0 0) (get_or l.numbers 1 0) (get_or l.numbers 2 0) ≡ replay_of s
        unfolding first_line after_opened open_of open_by
        replay-opened f = let g = sym w ∙ f in sym (ap (first_line s l.next) (says-opens l t) ∙ rw g) ∙ begins

        pub replay-refused : {r : Refusal} → v ≡ Err r → stopped (opened 0 0 []) 0 r 1 ≡ replay_of s
        unfolding first_line after_opened open_of open_by
        replay-refused f = let g = sym w ∙ f in sym (ap (first_line s l.next) (says-opens l t) ∙ rw g) ∙ begins
