-- What comes of a text is what its lines say: each way, and so exactly.
use Rattle.std.specs.Prelude.{Err, Ok}
use mathlib.Core.Path.{◌≡◌, refl, sym, ap, subst, ◌∙◌}
use mathlib.Core.Logic.{⊎_elim}
use mathlib.Core.Bool.{Bool, true, false}
use mathlib.Core.List.{List, []}
use Prim.Native.Nat.{ℕ, zero, suc, ◌+◌, ◌-◌, ◌<◌, ◌≤◌}
use native.Mathlib.Omega.{arith}
use lib.ListN.{length, set}
use lib.Dec.{leb, ltb}
use borrow.Author.Tests.{leb-true, leb-false, le-leb, lt-leb, ltb-true, ltb-false, lt-ltb, le-ltb}
use Rattle.duality.specs.Decide.{Decides}
use Rattle.duality.proofs.Decide.{clash}
use Rattle.text.specs.Line.{line_at}
use Rattle.refusals.specs.declared.Refusal.{Refusal}
use Rattle.refusals.specs.declared.Refusal.TheVariants.{Unknown, Order}
use Rattle.refusals.specs.Demand1.{first_of, Verdict}
use Rattle.refusals.specs.Told.{served, refused}
use Rattle.supply.specs.declared.record.Board.{Board}
use Rattle.board.specs.declared.record.Edge.{Edge}
use Rattle.board.specs.Limits.{max_text}
use Rattle.board.specs.Ranges.{Within, within_test}
use Rattle.board.proofs.Tests.{within-decides}
use Rattle.supply.specs.Opening.{Opening, opened, open_checks, open_by, open_of, OpenAnswers}
use Rattle.bidding.specs.Rule.{Outcome, done}
use Rattle.auction.specs.Arrive.{ArriveAnswers}
use Rattle.auction.specs.Withdraw.{WithdrawAnswers}
use Rattle.auction.proofs.Told.{opened-refused, opened-ready, arrived_refused, arrived-bids, withdrawn_refused, withdrawn-bids}
use Rattle.auction.proofs.Demand2.{arrive-either, withdraw-either}
use Rattle.auction.proofs.Opening.{ready-served, opening-either, opening-ready}
use Rattle.replay.specs.declared.Replayed.{Replayed}
use Rattle.replay.specs.Counted.{Counted}
use Rattle.replay.specs.Replay.{Command, opens, places, arrives, withdraws, malformed, command_of, finished, stopped, halted, carry_out, lines_from, place_checks, at_line, after_places, place_line, place_lines, ones, after_opened, first_line, replay_of}
use Rattle.replay.specs.ReplayLaws.{replayed}
use Rattle.replay.specs.Says.{Says}
use Rattle.replay.specs.TextDemand1.{Stage, beginning, running, Lines, first, placed, arrived, withdrew, NoPlaces, LineRefused, TextRefused, TextFinished}
use Rattle.replay.proofs.ReplayLines.{Next, arrival-goes, arrival-stops, withdrawal-goes, withdrawal-stops, after, lines-turn, lines_end, all_lines, after_place, others, places-turn, places-end, all_placing}
use Rattle.replay.proofs.Saying.{line-said, said-ahead, Said, said, spoken, says-once}

-- ---- A call's answer, and what follows its line

module _ (next : Next) (n bids : ℕ) {b c : Board} where
  arrival-served : (edges : List Edge) (k : ℕ) → ArriveAnswers b edges c (served k) → carry_out next n b bids (arrives edges) ≡ next c (bids + k)
  unfolding carry_out
  arrival-served edges k a = sym (arrival-goes next n bids (sym a.outcome) (arrived-bids a.answer k a.tells))

  arrival-refused : (edges : List Edge) (r : Refusal) → ArriveAnswers b edges c (refused r) → carry_out next n b bids (arrives edges) ≡ stopped c bids r n
  unfolding carry_out
  arrival-refused edges r a = sym (arrival-stops next n bids (sym a.outcome) (arrived_refused a.answer r a.tells))

  withdrawal-served : (items : List ℕ) (k : ℕ) → WithdrawAnswers b items c (served k) → carry_out next n b bids (withdraws items) ≡ next c (bids + k)
  unfolding carry_out
  withdrawal-served items k a = sym (withdrawal-goes next n bids (sym a.outcome) (withdrawn-bids a.answer k a.tells))

  withdrawal-refused : (items : List ℕ) (r : Refusal) → WithdrawAnswers b items c (refused r) → carry_out next n b bids (withdraws items) ≡ stopped c bids r n
  unfolding carry_out
  withdrawal-refused items r a = sym (withdrawal-stops next n bids (sym a.outcome) (withdrawn_refused a.answer r a.tells))

-- ---- What opening answers

module _ (items p q : ℕ) (counts : List ℕ) {b : Board} where
  -- It serves where no check refuses, and then gives the opened board
  open-counted : OpenAnswers items p q counts b (served 0) → Counted items p q counts
  open-counted a = ready-served items p q counts (opened-ready (open_of items p q counts).answer a.tells)

  open-board : OpenAnswers items p q counts b (served 0) → b ≡ opened p q counts
  open-board a = sym a.board ∙ ap (λ (o : Opening). o.board) (opening-ready items p q counts (opened-ready (open_of items p q counts).answer a.tells))

  open-refused : (r : Refusal) → OpenAnswers items p q counts b (refused r) → first_of (open_checks items p q counts) ≡ Err r
  unfolding open_of open_by
  open-refused r a = go (first_of (open_checks items p q counts)) (opened-refused (open_of items p q counts).answer r a.tells)
    where
      go : (v : Verdict) → (open_by p q counts v).answer ≡ Err r → v ≡ Err r
      go (Ok tt) e = let z : ◌≡◌ {A = ℕ} 0 1 = cc in absurd (omega arith)
      go (Err x) e = let h : x ≡ r = cc in ap Err h

-- The first line
module _ (s : List ℕ) (next k p q : ℕ) {b : Board} where
  opening-served : OpenAnswers k p q (ones k) b (served 0) → first_line s next (opens k p q) ≡ all_placing s next k p q
  unfolding first_line after_opened
  opening-served a = ap (after_opened s next k p q) (opened-ready (open_of k p q (ones k)).answer a.tells)

  opening-refused : (r : Refusal) → OpenAnswers k p q (ones k) b (refused r) → first_line s next (opens k p q) ≡ stopped (opened 0 0 []) 0 r 1
  unfolding first_line after_opened
  opening-refused r a = ap (after_opened s next k p q) (opened-refused (open_of k p q (ones k)).answer r a.tells)

-- A line of places, while the board is being opened
module _ (go : ℕ → List ℕ → Outcome Replayed) (rest : Outcome Replayed) (n items p q low : ℕ) (counts : List ℕ) (k c : ℕ) where
  place-unknown : within_test items k ≡ false → place_line go rest n items p q low counts (places k c) ≡ stopped (opened p q counts) 0 (Unknown 0) n
  unfolding place_line after_places place_checks first_of
  place-unknown e = rw e

  module _ (e : within_test items k ≡ true) where
    place-unordered : leb k low ≡ true → place_line go rest n items p q low counts (places k c) ≡ stopped (opened p q counts) 0 (Order 0) n
    unfolding place_line after_places place_checks first_of
    place-unordered f = rw (e, f)

    module _ (f : leb k low ≡ false) where
      place-refused : (r : Refusal) → first_of (open_checks items p q (set counts (k - 1) c)) ≡ Err r →
          place_line go rest n items p q low counts (places k c) ≡ stopped (opened p q counts) 0 r (at_line r n)
      unfolding place_line after_places place_checks first_of
      place-refused r g = rw (e, f, g)

      place-served : Counted items p q (set counts (k - 1) c) → place_line go rest n items p q low counts (places k c) ≡ go k (set counts (k - 1) c)
      unfolding place_line after_places place_checks first_of
      place-served g = rw (e, f, g)

-- A line at a position in the text
module _ {s : List ℕ} {at next : ℕ} {command : Command} (w : Says s at command next) where
  pub line-turn : (fuel n : ℕ) (b : Board) (bids : ℕ) → lines_from (suc fuel) s at n b bids ≡ carry_out (λ c more. lines_from fuel s next (n + 1) c more) n b bids command
  line-turn fuel n b bids =
      let a = said-ahead w in
      let u = line-said s at command next w in
      lines-turn s at n b bids fuel (omega (arith, a.0, a.1))
      ∙ u.later (after s at n b bids fuel) n b bids
      ∙ ap (λ (j : ℕ). carry_out (λ c more. lines_from fuel s j (n + 1) c more) n b bids command) u.moves

  pub place-turn : (fuel n items p q low : ℕ) (counts : List ℕ) → place_lines (suc fuel) s at n items p q low counts ≡
      place_line (λ k more. place_lines fuel s next (n + 1) items p q k more) (all_lines s at n (opened p q counts)) n items p q low counts command
  place-turn fuel n items p q low counts =
      let a = said-ahead w in
      let u = line-said s at command next w in
      places-turn s at n items p q low counts fuel (omega (arith, a.0, a.1))
      ∙ u.placing (after_place s at n items p q low counts fuel) (others s at n items p q low counts fuel) n items p q low counts
      ∙ ap (λ (j : ℕ). place_line (λ k more. place_lines fuel s j (n + 1) items p q k more) (all_lines s at n (opened p q counts)) n items p q low counts command) u.moves

-- A line after those that open the board that is malformed, a further `K`, or a later `P`
module _ (s : List ℕ) (at fuel n : ℕ) (b : Board) (m : ℕ) where
  ill : at < length s → command_of (line_at s at) ≡ malformed → lines_from (suc fuel) s at n b m ≡ stopped b m (Refusal.Line n) n
  unfolding carry_out
  ill l e = lines-turn s at n b m fuel l ∙ ap (carry_out (after s at n b m fuel) n b m) e

  again : {k p q next : ℕ} → Says s at (opens k p q) next → lines_from (suc fuel) s at n b m ≡ stopped b m (Refusal.Line n) n
  unfolding carry_out
  again w = line-turn w fuel n b m

  late : {k c next : ℕ} → Says s at (places k c) next → lines_from (suc fuel) s at n b m ≡ stopped b m (Refusal.Line n) n
  unfolding carry_out
  late w = line-turn w fuel n b m

-- A line that is not one of places, while the board is being opened
module _ (s : List ℕ) (at fuel n items p q low : ℕ) (counts : List ℕ) where
  other-line : at < length s → ((k c next : ℕ) → Says s at (places k c) next → ⊥) → Said s at → place_lines (suc fuel) s at n items p q low counts ≡ all_lines s at n (opened p q counts)
  unfolding place_line
  other-line l f = ⊎_elim (λ e. places-turn s at n items p q low counts fuel l ∙ ap (place_line (after_place s at n items p q low counts fuel) (others s at n items p q low counts fuel) n items p q low counts) e) (λ u. by_said u.0 u.1 u.2)
    where
      by_said : (command : Command) (next : ℕ) → Says s at command next → place_lines (suc fuel) s at n items p q low counts ≡ all_lines s at n (opened p q counts)
      by_said (opens k u v) next w = place-turn w fuel n items p q low counts
      by_said (places k c) next w = absurd (f k c next w)
      by_said (arrives edges) next w = place-turn w fuel n items p q low counts
      by_said (withdraws list) next w = place-turn w fuel n items p q low counts
      by_said malformed next w = place-turn w fuel n items p q low counts

-- No line says that it is malformed
silent : {s : List ℕ} {at next : ℕ} → Says s at malformed next → ⊥
silent = elim [ ]

-- Two lines that say something different at one place
differ : {A : Type 0} {s : List ℕ} {at next end : ℕ} {c d : Command} → Says s at c next → Says s at d end → (c ≡ d → ⊥) → A
differ w v f = absurd (f (says-once _ _ _ _ _ _ w v).0)

apart : {A : Type 0} → ◌≡◌ {A = ℕ} 0 1 → A
apart z = absurd (omega arith)

not-arrival : {A : Type 0} {s : List ℕ} {at k p q j next : ℕ} {edges : List Edge} → Says s at (opens k p q) j → Says s at (arrives edges) next → A
not-arrival w v = differ w v (λ e. apart cc)

not-withdrawal : {A : Type 0} {s : List ℕ} {at k p q j next : ℕ} {items : List ℕ} → Says s at (opens k p q) j → Says s at (withdraws items) next → A
not-withdrawal w v = differ w v (λ e. apart cc)

-- ---- From the text to what its lines are

pub data Fate (s : List ℕ) : Replayed → Type 0 where
  stops : {n m : ℕ} {b : Board} {r : Refusal} → LineRefused s n b m r → Fate s (replayed b m (halted r n))
  ends : {n e m : ℕ} {g : Stage} {b : Board} → Lines s n (length s) g b e m → Fate s (replayed b m (Ok tt))

abbrev Fated : List ℕ → Outcome Replayed → Type 0
Fated s o = (r : Replayed) × (o ≡ done r) × Fate s r

-- Where calls have been made, no line is one of places
runs : {s : List ℕ} {at : ℕ} → NoPlaces s at running
runs items p q low counts e k c next w = apart cc

-- The lines after line n, where fewer bytes are left than fuel, and the next is not one of places
abbrev FatedFrom : ℕ → List ℕ → ℕ → Type 0
FatedFrom fuel s n = (at e m : ℕ) (g : Stage) (b : Board) → at ≤ length s → length s < fuel + at → Lines s n at g b e m → NoPlaces s at g → Fated s (lines_from fuel s at (suc n) b m)

lines-fate : (fuel : ℕ) (s : List ℕ) (n : ℕ) → FatedFrom fuel s n
lines-fate zero s n at e m g b h f t np = absurd (omega arith)
lines-fate (suc fuel) s n at e m g b h f t np = go (ltb at (length s)) refl (lines-fate fuel s (suc n))
  where
    on : (next more : ℕ) (c : Board) {o : Outcome Replayed} → o ≡ lines_from fuel s next (suc n + 1) c more → Fated s (lines_from fuel s next (suc (suc n)) c more) → Fated s o
    on next more c q u =
        let j : suc n + 1 ≡ suc (suc n) = omega arith in
        (u.0, q ∙ ap (λ (i : ℕ). lines_from fuel s next i c more) j ∙ u.1, u.2)

    by-arrival : {edges : List Edge} {next : ℕ} → Says s at (arrives edges) next → FatedFrom fuel s (suc n) → Fated s (lines_from (suc fuel) s at (suc n) b m)
    by-arrival {edges} {next} w rest =
        let a = said-ahead w in
        ⊎_elim
        (λ u. on next _ u.0 (line-turn w fuel (suc n) b m ∙ arrival-served _ (suc n) m edges u.1 u.2) (rest next _ _ running u.0 a.1 (omega (arith, a.0)) (arrived t w u.2) runs))
        (λ u. (_, line-turn w fuel (suc n) b m ∙ arrival-refused _ (suc n) m edges u.0 u.1, stops (LineRefused.arrival t w u.1)))
        (arrive-either b edges)

    by-withdrawal : {items : List ℕ} {next : ℕ} → Says s at (withdraws items) next → FatedFrom fuel s (suc n) → Fated s (lines_from (suc fuel) s at (suc n) b m)
    by-withdrawal {items} {next} w rest =
        let a = said-ahead w in
        ⊎_elim
        (λ u. on next _ u.0 (line-turn w fuel (suc n) b m ∙ withdrawal-served _ (suc n) m items u.1 u.2) (rest next _ _ running u.0 a.1 (omega (arith, a.0)) (withdrew t w u.2) runs))
        (λ u. (_, line-turn w fuel (suc n) b m ∙ withdrawal-refused _ (suc n) m items u.0 u.1, stops (LineRefused.withdrawal t w u.1)))
        (withdraw-either b items)

    by_said : at < length s → (command : Command) (next : ℕ) → Says s at command next → FatedFrom fuel s (suc n) → Fated s (lines_from (suc fuel) s at (suc n) b m)
    by_said l (opens k p q) next w rest = (_, again s at fuel (suc n) b m w, stops (LineRefused.malformed t l (λ edges j v. not-arrival w v) (λ items j v. not-withdrawal w v) np))
    by_said l (places k c) next w rest =
        (_, late s at fuel (suc n) b m w, stops (LineRefused.malformed t l (λ edges j v. differ w v (λ q. apart cc)) (λ items j v. differ w v (λ q. apart cc)) np))
    by_said l (arrives edges) next w rest = by-arrival w rest
    by_said l (withdraws items) next w rest = by-withdrawal w rest
    by_said l malformed next w rest = absurd (silent w)

    by-line : at < length s → FatedFrom fuel s (suc n) → Said s at → Fated s (lines_from (suc fuel) s at (suc n) b m)
    by-line l rest =
        ⊎_elim
        (λ q. (_, ill s at fuel (suc n) b m l q, stops (LineRefused.malformed t l (λ edges j v. spoken v q) (λ items j v. spoken v q) np)))
        (λ u. by_said l u.0 u.1 u.2 rest)

    go : (x : Bool) → ltb at (length s) ≡ x → FatedFrom fuel s (suc n) → Fated s (lines_from (suc fuel) s at (suc n) b m)
    go true q rest = by-line (ltb-true at (length s) q) rest (said s at)
    go false q rest =
        let l = ltb-false at (length s) q in
        let z : at ≡ length s = omega arith in
        (_, lines_end s at (suc n) b m fuel l, ends (subst (λ (at : ℕ). Lines s n at g b e m) z t))

-- The lines that open the board, after line n
module _ (s : List ℕ) (items p q : ℕ) where
  abbrev PlacedFrom : ℕ → ℕ → Type 0
  PlacedFrom fuel n =
      (at low : ℕ) (counts : List ℕ) → at ≤ length s → length s < fuel + at → Lines s n at (beginning items p q low counts) (opened p q counts) 0 0 →
      Fated s (place_lines fuel s at (suc n) items p q low counts)

  places-fate : (fuel n : ℕ) → PlacedFrom fuel n
  places-fate zero n at low counts h f t = absurd (omega arith)
  places-fate (suc fuel) n at low counts h f t = go (ltb at (length s)) refl (places-fate fuel (suc n))
    where
      now : Outcome Replayed
      now = place_lines (suc fuel) s at (suc n) items p q low counts

      as-lines : at < length s → ((k c next : ℕ) → Says s at (places k c) next → ⊥) → Fated s now
      as-lines l np =
          let u = lines-fate (suc (length s)) s n at 0 0 (beginning items p q low counts) (opened p q counts) h (omega arith) t (λ i x y z more e k c next w. np k c next w) in
          (u.0, other-line s at fuel (suc n) items p q low counts l np (said s at) ∙ u.1, u.2)

      by-places : (k c next : ℕ) → Says s at (places k c) next → PlacedFrom fuel (suc n) → Fated s now
      by-places k c next w rest = by-range (within_test items k) refl
        where
          turn : now ≡ place_line (λ k more. place_lines fuel s next (suc n + 1) items p q k more) (all_lines s at (suc n) (opened p q counts)) (suc n) items p q low counts (places k c)
          turn = place-turn w fuel (suc n) items p q low counts

          by-opening : (e : within_test items k ≡ true) (o : leb k low ≡ false) → Fated s now
          by-opening e o =
              let a = said-ahead w in
              let known = (within-decides items k).sound e in
              let above = leb-false k low o in
              ⊎_elim
              (λ u. let c' = open-counted items p q (set counts (k - 1) c) u in
              let v = rest next k (set counts (k - 1) c) a.1 (omega (arith, a.0)) (placed t w known above u) in
              let j : suc n + 1 ≡ suc (suc n) = omega arith in
              (v.0, turn ∙ place-served _ _ (suc n) items p q low counts k c e o c' ∙ ap (λ (i : ℕ). place_lines fuel s next i items p q k (set counts (k - 1) c)) j ∙ v.1, v.2))
              (λ u. (_, turn ∙ place-refused _ _ (suc n) items p q low counts k c e o u.0 (open-refused items p q (set counts (k - 1) c) u.0 u.1), stops (LineRefused.miscounted t w known above u.1 refl)))
              (opening-either items p q (set counts (k - 1) c))

          by_order : (e : within_test items k ≡ true) (x : Bool) → leb k low ≡ x → Fated s now
          by_order e true o = (_, turn ∙ place-unordered _ _ (suc n) items p q low counts k c e o, stops (LineRefused.unordered t w ((within-decides items k).sound e) (leb-true k low o)))
          by_order e false o = by-opening e o

          by-range : (x : Bool) → within_test items k ≡ x → Fated s now
          by-range true e = by_order e (leb k low) refl
          by-range false e = (_, turn ∙ place-unknown _ _ (suc n) items p q low counts k c e, stops (LineRefused.unknown t w (λ known. clash false (sym e ∙ (within-decides items k).complete known) refl)))

      by_said : at < length s → (command : Command) (next : ℕ) → Says s at command next → PlacedFrom fuel (suc n) → Fated s now
      by_said l (places k c) next w rest = by-places k c next w rest
      by_said l (opens k u v) next w rest = as-lines l (λ k c j x. differ w x (λ q. apart cc))
      by_said l (arrives edges) next w rest = as-lines l (λ k c j x. differ w x (λ q. apart cc))
      by_said l (withdraws list) next w rest = as-lines l (λ k c j x. differ w x (λ q. apart cc))
      by_said l malformed next w rest = absurd (silent w)

      go : (x : Bool) → ltb at (length s) ≡ x → PlacedFrom fuel (suc n) → Fated s now
      go true e rest = let l = ltb-true at (length s) e in ⊎_elim (λ z. as-lines l (λ k c j w. spoken w z)) (λ u. by_said l u.0 u.1 u.2 rest) (said s at)
      go false e rest =
          let l = ltb-false at (length s) e in
          let z : at ≡ length s = omega arith in
          (_, places-end s at (suc n) items p q low counts fuel l, ends (subst (λ (at : ℕ). Lines s n at (beginning items p q low counts) (opened p q counts) 0 0) z t))

-- The whole text
pub data TextFate (s : List ℕ) : Replayed → Type 0 where
  stops : {n m : ℕ} {b : Board} {r : Refusal} → TextRefused s n b m r → TextFate s (replayed b m (halted r n))
  ends : {e m : ℕ} {b : Board} → TextFinished s b e m → TextFate s (replayed b m (Ok tt))

text-fate : {s : List ℕ} {r : Replayed} → length s ≤ 65536 → Fate s r → TextFate s r
text-fate h (stops t) = TextFate.stops (TextRefused.by-line h t)
text-fate h (ends {n = n} {g = g} t) = TextFate.ends (record { lines = n; stage = g; short = h; carried = t })

module _ (s : List ℕ) where
  begins : length s ≤ 65536 → replay_of s ≡ first_line s (line_at s 0).next (command_of (line_at s 0))
  unfolding replay_of
  begins h = rw (le-ltb max_text (length s) h)

  begins-as : length s ≤ 65536 → {command : Command} {next : ℕ} → Says s 0 command next → replay_of s ≡ first_line s next command
  begins-as h {command} {next} w =
      let u = line-said s 0 command next w in
      begins h ∙ ap (λ (j : ℕ). first_line s j (command_of (line_at s 0))) u.moves ∙ u.first

  too_long : 65536 < length s → replay_of s ≡ stopped (opened 0 0 []) 0 Refusal.Long 0
  unfolding replay_of
  too_long h = rw (lt-ltb max_text (length s) h)

  -- A first line that does not open a board
  unopened-is : length s ≤ 65536 → ((k p q next : ℕ) → Says s 0 (opens k p q) next → ⊥) → Said s 0 → replay_of s ≡ stopped (opened 0 0 []) 0 (Refusal.Line 1) 1
  unfolding first_line
  unopened-is h f = ⊎_elim (λ e. begins h ∙ ap (first_line s (line_at s 0).next) e) (λ u. by_said u.0 u.1 u.2)
    where
      by_said : (command : Command) (next : ℕ) → Says s 0 command next → replay_of s ≡ stopped (opened 0 0 []) 0 (Refusal.Line 1) 1
      by_said (opens k p q) next w = absurd (f k p q next w)
      by_said (places k c) next w = begins-as h w
      by_said (arrives edges) next w = begins-as h w
      by_said (withdraws items) next w = begins-as h w
      by_said malformed next w = absurd (silent w)

  unopened : length s ≤ 65536 → ((k p q next : ℕ) → Says s 0 (opens k p q) next → ⊥) → Fated s (replay_of s)
  unopened h f = (_, unopened-is h f (said s 0), stops (LineRefused.unopened f))

  first-fate : length s ≤ 65536 → Said s 0 → Fated s (replay_of s)
  first-fate h = ⊎_elim (λ e. unopened h (λ k p q j w. spoken w e)) (λ u. by_said u.0 u.1 u.2)
    where
      by_said : (command : Command) (next : ℕ) → Says s 0 command next → Fated s (replay_of s)
      by_said (opens k p q) next w =
          let a = said-ahead w in
          ⊎_elim
          (λ u. let v = places-fate s k p q (suc (length s)) 1 next 0 (ones k) a.1 (omega (arith, a.0)) (first w u) in (v.0, begins-as h w ∙ opening-served s next k p q u ∙ v.1, v.2))
          (λ u. (_, begins-as h w ∙ opening-refused s next k p q u.0 u.1, stops (LineRefused.opening w u.1)))
          (opening-either k p q (ones k))
      by_said (places k c) next w = unopened h (λ k p q j v. differ w v (λ e. apart cc))
      by_said (arrives edges) next w = unopened h (λ k p q j v. differ w v (λ e. apart cc))
      by_said (withdraws items) next w = unopened h (λ k p q j v. differ w v (λ e. apart cc))
      by_said malformed next w = absurd (silent w)

  pub replay-fate : (r : Replayed) × (replay_of s ≡ done r) × TextFate s r
  replay-fate = go (ltb 65536 (length s)) refl
    where
      go : (x : Bool) → ltb 65536 (length s) ≡ x → (r : Replayed) × (replay_of s ≡ done r) × TextFate s r
      go true q = let l = ltb-true 65536 (length s) q in (_, too_long l, TextFate.stops (TextRefused.long l))
      go false q = let l = ltb-false 65536 (length s) q in let u = first-fate l (said s 0) in (u.0, u.1, text-fate l u.2)

-- ---- From what the lines are to the text

-- The replay has come to the line after line n, where calls are carried out; enough fuel is left
record ComesLines (s : List ℕ) (n at : ℕ) (b : Board) (m : ℕ) : Type 0 where
  pub fuel : ℕ
  pub enough : length s < fuel + at
  pub inside : at ≤ length s
  pub rest : lines_from fuel s at (suc n) b m ≡ replay_of s

-- The same, where the board is being opened
record ComesPlaces (s : List ℕ) (n at items p q low : ℕ) (counts : List ℕ) (b : Board) (m : ℕ) : Type 0 where
  pub fuel : ℕ
  pub enough : length s < fuel + at
  pub inside : at ≤ length s
  pub board : b ≡ opened p q counts
  pub none : m ≡ 0
  pub rest : place_lines fuel s at (suc n) items p q low counts ≡ replay_of s

abbrev Comes : List ℕ → ℕ → ℕ → Stage → Board → ℕ → Type 0
Comes s n at (beginning items p q low counts) b m = ComesPlaces s n at items p q low counts b m
Comes s n at running b m = ComesLines s n at b m

-- What is not so has a test that fails
refuted : (t : Bool) {P : Type 0} → Decides t P → (P → ⊥) → t ≡ false
refuted true d f = absurd (f (d.sound refl))
refuted false d f = refl

-- One turn at least is left inside the text
turned : {fuel at m : ℕ} → m < fuel + at → at ≤ m → fuel ≡ suc (fuel - 1)
turned l h = omega arith

module _ {s : List ℕ} (h : length s ≤ 65536) where
  -- Where the next line is not one of places, calls are carried out
  comes-lines : {n at m : ℕ} {b : Board} (g : Stage) → Comes s n at g b m → NoPlaces s at g → ComesLines s n at b m
  comes-lines running t np = t
  comes-lines {n} {at} {m} {b} (beginning items p q low counts) t np =
      let z = turned t.enough t.inside in
      record {
        fuel = suc (length s);
        enough = omega arith;
        inside = t.inside;
        rest = rw (t.board, t.none) (sym (by_end (ltb at (length s)) refl) ∙ sym (ap (λ (f : ℕ). place_lines f s at (suc n) items p q low counts) z) ∙ t.rest);
      }
    where
      by_end : (x : Bool) → ltb at (length s) ≡ x → place_lines (suc (t.fuel - 1)) s at (suc n) items p q low counts ≡ all_lines s at (suc n) (opened p q counts)
      by_end true e = other-line s at (t.fuel - 1) (suc n) items p q low counts (ltb-true at (length s) e) (np items p q low counts refl) (said s at)
      by_end false e =
          let l = ltb-false at (length s) e in
          places-end s at (suc n) items p q low counts (t.fuel - 1) l ∙ sym (lines_end s at (suc n) (opened p q counts) 0 (length s) l)

  -- One line more
  comes-on : {n at next m more : ℕ} {b c : Board} {command : Command} → ComesLines s n at b m → Says s at command next →
      ((rest : Next) → carry_out rest (suc n) b m command ≡ rest c more) → ComesLines s (suc n) next c more
  comes-on {n} {at} {next} {m} {more} {b} {c} t w e =
      let a = said-ahead w in
      let z = turned t.enough t.inside in
      let j : suc n + 1 ≡ suc (suc n) = omega arith in
      record {
        fuel = t.fuel - 1;
        enough = omega (arith, t.enough, a.0);
        inside = a.1;
        rest =
            sym (ap (λ (f : ℕ). lines_from f s at (suc n) b m) z ∙ line-turn w (t.fuel - 1) (suc n) b m ∙ e _ ∙ ap (λ (i : ℕ). lines_from (t.fuel - 1) s next i c more) j)
            ∙ t.rest;
      }

  -- One line of places more
  comes-placed : {n at next items p q low k c m : ℕ} {counts : List ℕ} {b d : Board} → ComesPlaces s n at items p q low counts b m → Says s at (places k c) next →
      Within 1 items k → low < k → OpenAnswers items p q (set counts (k - 1) c) d (served 0) → ComesPlaces s (suc n) next items p q k (set counts (k - 1) c) d m
  comes-placed {n} {at} {next} {items} {p} {q} {low} {k} {c} {m} {counts} t w known above u =
      let a = said-ahead w in
      let z = turned t.enough t.inside in
      let j : suc n + 1 ≡ suc (suc n) = omega arith in
      record {
        fuel = t.fuel - 1;
        enough = omega (arith, t.enough, a.0);
        inside = a.1;
        board = open-board items p q (set counts (k - 1) c) u;
        none = t.none;
        rest =
            sym (ap (λ (f : ℕ). place_lines f s at (suc n) items p q low counts) z ∙ place-turn w (t.fuel - 1) (suc n) items p q low counts
            ∙ place-served _ _ (suc n) items p q low counts k c ((within-decides items k).complete known) (lt-leb k low above) (open-counted items p q (set counts (k - 1) c) u)
            ∙ ap (λ (i : ℕ). place_lines (t.fuel - 1) s next i items p q k (set counts (k - 1) c)) j)
            ∙ t.rest;
      }

  comes : {n at e m : ℕ} {g : Stage} {b : Board} → Lines s n at g b e m → Comes s n at g b m
  comes (first {k} {p} {q} {next} {b} w u) =
      let a = said-ahead w in
      record {
        fuel = suc (length s);
        enough = omega arith;
        inside = a.1;
        board = open-board k p q (ones k) u;
        none = refl;
        rest = sym (begins-as s h w ∙ opening-served s next k p q u);
      }
  comes (placed t w known above u) = comes-placed (comes t) w known above u
  comes (arrived {k = k} {g = g} {edges = edges} t w u) = comes-on (comes-lines g (comes t) (λ i x y z more e k c next v. differ w v (λ q. apart cc))) w (λ rest. arrival-served rest _ _ edges k u)
  comes (withdrew {k = k} {g = g} {items = items} t w u) = comes-on (comes-lines g (comes t) (λ i x y z more e k c next v. differ w v (λ q. apart cc))) w (λ rest. withdrawal-served rest _ _ items k u)

  -- The line is reached, and stops the text
  stops_at : {n at m : ℕ} {b : Board} {r : Refusal} → ComesLines s n at b m → ((fuel : ℕ) → lines_from (suc fuel) s at (suc n) b m ≡ stopped b m r (suc n)) →
      replay_of s ≡ stopped b m r (suc n)
  stops_at {n} {at} {m} {b} t e = sym t.rest ∙ ap (λ (f : ℕ). lines_from f s at (suc n) b m) (turned t.enough t.inside) ∙ e _

  -- The line of places is reached, and stops the text
  stops-placing : {n at next items p q low k c m line : ℕ} {counts : List ℕ} {b : Board} {r : Refusal} → ComesPlaces s n at items p q low counts b m → Says s at (places k c) next →
      ((go : ℕ → List ℕ → Outcome Replayed) (rest : Outcome Replayed) → place_line go rest (suc n) items p q low counts (places k c) ≡ stopped (opened p q counts) 0 r line) →
      replay_of s ≡ stopped b m r line
  stops-placing {n} {at} {items = items} {p} {q} {low} {counts = counts} t w e =
      rw (t.board, t.none)
      (sym t.rest ∙ ap (λ (f : ℕ). place_lines f s at (suc n) items p q low counts) (turned t.enough t.inside) ∙ place-turn w (t.fuel - 1) (suc n) items p q low counts ∙ e _ _)

  ill-formed : {n at m : ℕ} {b : Board} (fuel : ℕ) → at < length s → ((edges : List Edge) (next : ℕ) → Says s at (arrives edges) next → ⊥) →
      ((items : List ℕ) (next : ℕ) → Says s at (withdraws items) next → ⊥) → Said s at → lines_from (suc fuel) s at (suc n) b m ≡ stopped b m (Refusal.Line (suc n)) (suc n)
  ill-formed {n} {at} {m} {b} fuel l f g = ⊎_elim (ill s at fuel (suc n) b m l) (λ u. by_said u.0 u.1 u.2)
    where
      by_said : (command : Command) (next : ℕ) → Says s at command next → lines_from (suc fuel) s at (suc n) b m ≡ stopped b m (Refusal.Line (suc n)) (suc n)
      by_said (opens k p q) next w = again s at fuel (suc n) b m w
      by_said (places k c) next w = late s at fuel (suc n) b m w
      by_said (arrives edges) next w = absurd (f edges next w)
      by_said (withdraws items) next w = absurd (g items next w)
      by_said malformed next w = absurd (silent w)

  line_refused : {n m : ℕ} {b : Board} {r : Refusal} → LineRefused s n b m r → replay_of s ≡ stopped b m r n
  line_refused (LineRefused.unopened f) = unopened-is s h f (said s 0)
  line_refused (LineRefused.opening {k} {p} {q} {next} {r} w u) = begins-as s h w ∙ opening-refused s next k p q r u
  line_refused (LineRefused.unknown {items = items} {p = p} {q = q} {low = low} {k = k} {c = c} {counts = counts} t w f) =
      stops-placing (comes t) w (λ go rest. place-unknown go rest _ items p q low counts k c (refuted (within_test items k) (within-decides items k) f))
  line_refused (LineRefused.unordered {items = items} {p = p} {q = q} {low = low} {k = k} {c = c} {counts = counts} t w known l) =
      stops-placing (comes t) w (λ go rest. place-unordered go rest _ items p q low counts k c ((within-decides items k).complete known) (le-leb k low l))
  line_refused (LineRefused.miscounted {items = items} {p = p} {q = q} {low = low} {k = k} {c = c} {counts = counts} {r = r} t w known above u e) =
      rw e (stops-placing (comes t) w (λ go rest. place-refused go rest _ items p q low counts k c ((within-decides items k).complete known) (lt-leb k low above) r
      (open-refused items p q (set counts (k - 1) c) r u)))
  line_refused (LineRefused.malformed {n} {at} {e} {m} {g} {b} t l f i np) = stops_at (comes-lines g (comes t) np) (λ fuel. ill-formed fuel l f i (said s at))
  line_refused (LineRefused.arrival {n = n} {m = m} {g = g} {b = b} {edges = edges} {r = r} t w u) =
      stops_at (comes-lines g (comes t) (λ i x y z more e k c next v. differ w v (λ q. apart cc))) (λ fuel. line-turn w fuel (suc n) b m ∙ arrival-refused _ (suc n) m edges r u)
  line_refused (LineRefused.withdrawal {n = n} {m = m} {g = g} {b = b} {items = items} {r = r} t w u) =
      stops_at (comes-lines g (comes t) (λ i x y z more e k c next v. differ w v (λ q. apart cc))) (λ fuel. line-turn w fuel (suc n) b m ∙ withdrawal-refused _ (suc n) m items r u)

pub refused-text : {s : List ℕ} {n m : ℕ} {b : Board} {r : Refusal} → TextRefused s n b m r → replay_of s ≡ stopped b m r n
refused-text {s} (TextRefused.long l) = too_long s l
refused-text (TextRefused.by-line h t) = line_refused h t

pub finished-text : {s : List ℕ} {e m : ℕ} {b : Board} → TextFinished s b e m → replay_of s ≡ finished b m
finished-text {s} {e} {m} {b} t =
    let u = comes-lines t.short t.stage (comes t.short t.carried) (λ i x y z more q k c next w. let a = said-ahead w in omega (arith, a.0, a.1)) in
    sym u.rest ∙ ap (λ (f : ℕ). lines_from f s (length s) (suc t.lines) b m) (turned u.enough u.inside) ∙ lines_end s (length s) (suc t.lines) b m (u.fuel - 1) (omega arith)
