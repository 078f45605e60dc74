-- A line is carried out as what it says, and is malformed exactly when it says nothing.
use mathlib.Core.Path.{◌≡◌, refl, sym, ap, ◌∙◌}
use mathlib.Core.Logic.{◌⊎◌, inl, inr, ⊎_elim}
use mathlib.Core.Bool.{Bool, true, false}
use mathlib.Core.List.{List, [], ◌∷◌, ◌++◌}
use Prim.Native.Nat.{ℕ, zero, suc, ◌+◌, ◌*◌, ◌/◌, ◌%◌, ◌<◌, ◌≤◌}
use native.Mathlib.Omega.{arith}
use lib.ListN.{length, get_or}
use lib.Dec.{eqb, ltb}
use borrow.Author.Tests.{eqb-true, eq-eqb, ltb-true, lt-ltb}
use Rattle.text.specs.declared.line.Line.{Line}
use Rattle.text.specs.Line.{all, line_with, line_at}
use Rattle.text.specs.Form.{LineForm}
use Rattle.text.proofs.Numbers.{both}
use Rattle.text.proofs.Forms.{line-sound, line-complete, line_once, line-ahead}
use Rattle.board.specs.declared.record.Edge.{Edge}
use Rattle.board.specs.Cells.{edge}
use Rattle.replay.specs.Replay.{Command, opens, places, arrives, withdraws, malformed, pairs_of, command_of, carry_out, place_line, first_line}
use Rattle.replay.specs.Says.{Pairs, none, pair, Says, opening, placing, arrival, withdrawal, SaysOnce, LineSaid, LineMalformed}
use Rattle.replay.proofs.ReplayForms.{is_opening, is_places, is_arrival, is_withdrawal, edges_said, items_said, says-arrives, says-withdraws}
use Rattle.replay.proofs.LinePairs.{line-edges, line-items}

-- ---- Pairs

pairs-cons : (k w : ℕ) (ns : List ℕ) (n : ℕ) → pairs_of (k ∷ (w ∷ ns)) (suc n) ≡ edge k w ∷ pairs_of ns n
unfolding pairs_of
pairs-cons k w ns zero = refl
pairs-cons k w ns (suc n) =
    let a : 2 * suc n ≡ suc (suc (2 * n)) = omega arith in
    let b : 2 * suc n + 1 ≡ suc (suc (2 * n + 1)) = omega arith in
    ap (λ (l : List Edge). l ++ (edge (get_or (k ∷ (w ∷ ns)) (2 * suc n) 0) (get_or (k ∷ (w ∷ ns)) (2 * suc n + 1) 0) ∷ [])) (pairs-cons k w ns n) ∙ rw (b, a) refl

pairs-all : {ns : List ℕ} {edges : List Edge} → Pairs ns edges → edges ≡ pairs_of ns (length ns / 2)
unfolding pairs_of
pairs-all none = refl
pairs-all (pair {k} {w} {ns} {edges} p) =
    let h : suc (suc (length ns)) / 2 ≡ suc (length ns / 2) = omega arith in
    rw h (ap (λ (l : List Edge). edge k w ∷ l) (pairs-all p) ∙ sym (pairs-cons k w ns (length ns / 2)))

pairs-even : {ns : List ℕ} {edges : List Edge} → Pairs ns edges → length ns % 2 ≡ 0
pairs-even none = refl
pairs-even (pair p) = omega (arith, pairs-even p)

pairs_made : (ns : List ℕ) → length ns % 2 ≡ 0 → (edges : List Edge) × Pairs ns edges
pairs_made [] e = ([], none)
pairs_made (k ∷ []) e = absurd (omega arith)
pairs_made (k ∷ (w ∷ ns)) e = let u = pairs_made ns (omega arith) in (edge k w ∷ u.0, pair u.1)

-- ---- A line that says something

module _ {s : List ℕ} {at next : ℕ} where
  said-opens : {k p q : ℕ} → get_or s at 0 ≡ 75 → LineForm s at (k ∷ (p ∷ (q ∷ []))) next → command_of (line_at s at) ≡ opens k p q
  unfolding command_of
  said-opens {k} {p} {q} c w = ap command_of (line-complete s at (k ∷ (p ∷ (q ∷ []))) next w) ∙ rw c refl

  said-places : {k c : ℕ} → get_or s at 0 ≡ 80 → LineForm s at (k ∷ (c ∷ [])) next → command_of (line_at s at) ≡ places k c
  unfolding command_of
  said-places {k} {c} a w = ap command_of (line-complete s at (k ∷ (c ∷ [])) next w) ∙ rw a refl

  said-withdraws : {k : ℕ} {ns : List ℕ} → get_or s at 0 ≡ 87 → LineForm s at (k ∷ ns) next → command_of (line_at s at) ≡ withdraws (items_said (line_at s at))
  said-withdraws {k} {ns} c w = says-withdraws (line_at s at) (rw (line-complete s at (k ∷ ns) next w, eq-eqb (get_or s at 0) 87 c, lt-ltb 0 (suc (length ns)) (omega arith)))

  said-arrives : {ns : List ℕ} → get_or s at 0 ≡ 65 → LineForm s at ns next → length ns % 2 ≡ 0 → command_of (line_at s at) ≡ arrives (edges_said (line_at s at))
  said-arrives {ns} c w even = says-arrives (line_at s at) (rw (line-complete s at ns next w, eq-eqb (get_or s at 0) 65 c, eq-eqb (length ns % 2) 0 even))

  -- Where the next line starts
  moves-on : {ns : List ℕ} → LineForm s at ns next → (line_at s at).next ≡ next
  moves-on {ns} w = ap (λ (l : Line). l.next) (line-complete s at ns next w)

pub line-said : LineSaid
unfolding first_line place_line carry_out
line-said s at command next (opening c w) =
    let e = said-opens c w in
    record {
      moves = moves-on w;
      first = ap (first_line s next) e;
      placing = λ go rest n items p q low counts. ap (place_line go rest n items p q low counts) e;
      later = λ rest n b bids. ap (carry_out rest n b bids) e;
    }
line-said s at command next (placing c w) =
    let e = said-places c w in
    record {
      moves = moves-on w;
      first = ap (first_line s next) e;
      placing = λ go rest n items p q low counts. ap (place_line go rest n items p q low counts) e;
      later = λ rest n b bids. ap (carry_out rest n b bids) e;
    }
line-said s at command next (withdrawal {k} {ns = ns} c w) =
    record {
      moves = moves-on w;
      first = ap (first_line s next) (said-withdraws c w);
      placing = λ go rest n items p q low counts. ap (place_line go rest n items p q low counts) (said-withdraws c w);
      later = λ rest n b bids. line-items s at (k ∷ ns) next w c (omega arith) rest n b bids;
    }
line-said s at command next (arrival {ns} {edges} c w p) =
    record {
      moves = moves-on w;
      first = ap (first_line s next) (said-arrives c w (pairs-even p));
      placing = λ go rest n items p' q low counts. ap (place_line go rest n items p' q low counts) (said-arrives c w (pairs-even p));
      later = λ rest n b bids. line-edges s at ns next w c (pairs-even p) rest n b bids ∙ ap (λ l. carry_out rest n b bids (arrives l)) (sym (pairs-all p));
    }

-- It ends after it starts, in the text
pub said-ahead : {s : List ℕ} {at next : ℕ} {command : Command} → Says s at command next → (at < next) × (next ≤ length s)
said-ahead {s} {at} {next} (opening c w) = line-ahead s at _ next w
said-ahead {s} {at} {next} (placing c w) = line-ahead s at _ next w
said-ahead {s} {at} {next} (arrival c w p) = line-ahead s at _ next w
said-ahead {s} {at} {next} (withdrawal c w) = line-ahead s at _ next w

-- ---- A line says something, or is malformed

three : (ns : List ℕ) → length ns ≡ 3 → (k : ℕ) × (p : ℕ) × (q : ℕ) × (ns ≡ k ∷ (p ∷ (q ∷ [])))
three [] e = absurd (omega arith)
three (k ∷ []) e = absurd (omega arith)
three (k ∷ (p ∷ [])) e = absurd (omega arith)
three (k ∷ (p ∷ (q ∷ []))) e = (k, p, q, refl)
three (k ∷ (p ∷ (q ∷ (r ∷ ns)))) e = absurd (omega arith)

two : (ns : List ℕ) → length ns ≡ 2 → (k : ℕ) × (c : ℕ) × (ns ≡ k ∷ (c ∷ []))
two [] e = absurd (omega arith)
two (k ∷ []) e = absurd (omega arith)
two (k ∷ (c ∷ [])) e = (k, c, refl)
two (k ∷ (c ∷ (d ∷ ns))) e = absurd (omega arith)

some : (ns : List ℕ) → 0 < length ns → (k : ℕ) × (ms : List ℕ) × (ns ≡ k ∷ ms)
some [] l = absurd (omega arith)
some (k ∷ ms) l = (k, ms, refl)

abbrev pub Said : List ℕ → ℕ → Type 0
Said s at = (command_of (line_at s at) ≡ malformed) ⊎ ((command : Command) × (next : ℕ) × Says s at command next)

module _ (s : List ℕ) (at : ℕ) where
  -- The tests of the four forms, of a line of the form
  module _ (ns : List ℕ) (next : ℕ) (w : LineForm s at ns next) where
    abbrev letter : ℕ
    letter = get_or s at 0

    abbrev read : Line
    read = line_with letter (all ns next)

    by-opening : is_opening read ≡ true → Said s at
    by-opening e =
        let u = both (eqb letter 75) (eqb (length ns) 3) e in
        let (k, p, q, h) = three ns (eqb-true (length ns) 3 u.1) in
        inr (opens k p q, next, opening (eqb-true letter 75 u.0) (rw h at w))

    by-places : is_places read ≡ true → Said s at
    by-places e =
        let u = both (eqb letter 80) (eqb (length ns) 2) e in
        let (k, c, h) = two ns (eqb-true (length ns) 2 u.1) in
        inr (places k c, next, placing (eqb-true letter 80 u.0) (rw h at w))

    by-arrival : is_arrival read ≡ true → Said s at
    by-arrival e =
        let u = both (eqb letter 65) (eqb (length ns % 2) 0) e in
        let p = pairs_made ns (eqb-true (length ns % 2) 0 u.1) in
        inr (arrives p.0, next, arrival (eqb-true letter 65 u.0) w p.1)

    by-withdrawal : is_withdrawal read ≡ true → Said s at
    by-withdrawal e =
        let u = both (eqb letter 87) (ltb 0 (length ns)) e in
        let (k, ms, h) = some ns (ltb-true 0 (length ns) u.1) in
        inr (withdraws (k ∷ ms), next, withdrawal (eqb-true letter 87 u.0) (rw h at w))

    by-none : is_opening read ≡ false → is_places read ≡ false → is_arrival read ≡ false → is_withdrawal read ≡ false → Said s at
    unfolding command_of
    by-none e d f g = inl (ap command_of (line-complete s at ns next w) ∙ rw (e, d, f, g))

    by_form : Said s at
    by_form = openings (is_opening read) refl
      where
        withdrawals : (t : Bool) → is_withdrawal read ≡ t → is_opening read ≡ false → is_places read ≡ false → is_arrival read ≡ false → Said s at
        withdrawals true g e d f = by-withdrawal g
        withdrawals false g e d f = by-none e d f g

        arrivals : (t : Bool) → is_arrival read ≡ t → is_opening read ≡ false → is_places read ≡ false → Said s at
        arrivals true f e d = by-arrival f
        arrivals false f e d = withdrawals (is_withdrawal read) refl e d f

        placings : (t : Bool) → is_places read ≡ t → is_opening read ≡ false → Said s at
        placings true d e = by-places d
        placings false d e = arrivals (is_arrival read) refl e d

        openings : (t : Bool) → is_opening read ≡ t → Said s at
        openings true e = by-opening e
        openings false e = placings (is_places read) refl e

  pub said : Said s at
  unfolding command_of
  said = ⊎_elim (λ e. inl (ap command_of e)) (λ u. by_form u.0 u.1 u.2) (line-sound s at)

-- What says something is not malformed
pub spoken : {s : List ℕ} {at next : ℕ} {command : Command} → Says s at command next → command_of (line_at s at) ≡ malformed → ⊥
spoken (opening c w) e = let f = said-opens c w in let z : ◌≡◌ {A = ℕ} 0 1 = cc in omega arith
spoken (placing c w) e = let f = said-places c w in let z : ◌≡◌ {A = ℕ} 0 1 = cc in omega arith
spoken (arrival c w p) e = let f = said-arrives c w (pairs-even p) in let z : ◌≡◌ {A = ℕ} 0 1 = cc in omega arith
spoken (withdrawal c w) e = let f = said-withdraws c w in let z : ◌≡◌ {A = ℕ} 0 1 = cc in omega arith

pub line-malformed : LineMalformed
line-malformed s at = (λ e command next w. spoken w e, λ f. ⊎_elim (λ e. e) (λ u. absurd (f u.0 u.1 u.2)) (said s at))

-- ---- A line says one thing

-- One list of numbers has one list of pairs
pairs-once : {ns ms : List ℕ} {es fs : List Edge} → ns ≡ ms → Pairs ns es → Pairs ms fs → es ≡ fs
pairs-once e p q = pairs-all p ∙ (ap (λ (l : List ℕ). pairs_of l (length l / 2)) e ∙ sym (pairs-all q))

pub says-once : SaysOnce
says-once s at c d next end (opening {k} {p} {q} a w) (opening {k = j} {p = r} {q = t} b v) =
    let u = line_once s at (k ∷ (p ∷ (q ∷ []))) (j ∷ (r ∷ (t ∷ []))) next end w v in
    let e = u.0 in
    let x : k ≡ j = cc in
    let y : p ≡ r = cc in
    let z : q ≡ t = cc in
    (rw (x, y, z) refl, u.1)
says-once s at c d next end (placing {k} {c = x} a w) (placing {k = j} {c = y} b v) =
    let u = line_once s at (k ∷ (x ∷ [])) (j ∷ (y ∷ [])) next end w v in
    let e = u.0 in
    let f : k ≡ j = cc in
    let g : x ≡ y = cc in
    (rw (f, g) refl, u.1)
says-once s at c d next end (arrival {ns} a w p) (arrival {ns = ms} b v q) =
    let u = line_once s at ns ms next end w v in (ap arrives (pairs-once u.0 p q), u.1)
says-once s at c d next end (withdrawal {k} {ns = ns} a w) (withdrawal {k = j} {ns = ms} b v) =
    let u = line_once s at (k ∷ ns) (j ∷ ms) next end w v in (ap withdraws u.0, u.1)
says-once s at c d next end (opening a w) (placing b v) = absurd (omega (arith, a, b))
says-once s at c d next end (placing a w) (opening b v) = absurd (omega (arith, a, b))
says-once s at c d next end (placing a w) (arrival b v q) = absurd (omega (arith, a, b))
says-once s at c d next end (placing a w) (withdrawal b v) = absurd (omega (arith, a, b))
says-once s at c d next end (arrival a w p) (placing b v) = absurd (omega (arith, a, b))
says-once s at c d next end (withdrawal a w) (placing b v) = absurd (omega (arith, a, b))
says-once s at c d next end (opening a w) (arrival b v q) = absurd (omega (arith, a, b))
says-once s at c d next end (opening a w) (withdrawal b v) = absurd (omega (arith, a, b))
says-once s at c d next end (arrival a w p) (opening b v) = absurd (omega (arith, a, b))
says-once s at c d next end (arrival a w p) (withdrawal b v) = absurd (omega (arith, a, b))
says-once s at c d next end (withdrawal a w) (opening b v) = absurd (omega (arith, a, b))
says-once s at c d next end (withdrawal a w) (arrival b v q) = absurd (omega (arith, a, b))
