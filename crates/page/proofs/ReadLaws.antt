-- What reading a page answers, as the code comes to it, and demand 1 of it.
use Rattle.std.specs.Prelude.{Err, Ok}
use mathlib.Core.Path.{◌≡◌, refl, sym, ◌∙◌, ap}
use mathlib.Core.Bool.{true, false, not}
use mathlib.Core.List.{List}
use Prim.Native.Nat.{ℕ, ◌≤◌, ◌<◌}
use native.Mathlib.Omega.{arith}
use lib.ListN.{length}
use borrow.Author.Tests.{lt-ltb, le-ltb, not-false}
use Rattle.duality.specs.Decide.{Decides}
use Rattle.duality.proofs.Decide.{clash, reword, lt-decides, le-decides, and-decides}
use Rattle.refusals.specs.declared.Refusal.{Refusal}
use Rattle.refusals.specs.declared.Refusal.TheVariants.{Short, Line, Long}
use Rattle.refusals.specs.Demand1.{first_of, Verdict}
use Rattle.refusals.specs.Told.{served, refused}
use Rattle.refusals.proofs.Verdicts.{Decided, ends, next, demand-1, served-next}
use Rattle.refusals.proofs.Answers.{refused-apart, served-apart}
use Rattle.board.specs.Limits.{max_text}
use Rattle.board.proofs.Tests.{no-decides}
use Rattle.layout.specs.declared.row.Row.{Row}
use Rattle.layout.specs.Page.{IsPageOf}
use Rattle.layout.specs.Read.{Read, got, bad, read_of}
use Rattle.layout.specs.Seen.{rows_in, line_in}
use Rattle.layout.specs.Stored.{RowLists, rows_got, rows_stored}
use Rattle.layout.specs.Statements.{FirstBad}
use Rattle.layout.proofs.Statements.{read-is-page, read-is-first-bad}
use Rattle.page.specs.Reading.{read, Room, room_for, ReadMet, is_bad, read_checks, read_by, read_page_of, read_told}
use Rattle.page.specs.Demand1.{ReadServes, ReadDemand1}

-- ---- As the code comes to it
module _ (s : List ℕ) (l : RowLists) where
  pub read-long : max_text < length s → read (Err Long) l ≡ read_page_of s l
  unfolding read_page_of read_by first_of
  read-long h = let q = lt-ltb max_text (length s) h in rw q

  module _ (h : length s ≤ max_text) where
    pub read-line : {j : ℕ} → read_of s ≡ bad j → read (Err (Line j)) l ≡ read_page_of s l
    unfolding read_page_of read_by first_of
    read-line e = let q = le-ltb max_text (length s) h in rw (q, e)

    module _ {rows : List Row} (e : read_of s ≡ got rows) where
      pub read_short : room_for (length rows) (length l.plan) (length l.weights) (length l.gains) ≡ false → read (Err Short) l ≡ read_page_of s l
      unfolding read_page_of read_by first_of
      read_short r = let q = le-ltb max_text (length s) h in rw (q, e, r)

      pub read-served : {after : RowLists} → room_for (length rows) (length l.plan) (length l.weights) (length l.gains) ≡ true → after ≡ rows_stored (length rows) rows l →
          read (Ok (length rows)) after ≡ read_page_of s l
      unfolding read_page_of read_by first_of
      read-served {after} r f = let q = le-ltb max_text (length s) h in rw (q, e, r, e) (ap (read (Ok (length rows))) f)

-- ---- Demand 1
pub room-decides : (n : ℕ) (l : RowLists) → Decides (room_for n (length l.plan) (length l.weights) (length l.gains)) (Room n l)
unfolding room_for
room-decides n l =
    reword (and-decides (le-decides n (length l.plan)) (and-decides (le-decides n (length l.weights)) (le-decides n (length l.gains))))
    (λ h. record { plan = h.0; weights = h.1.0; gains = h.1.1 })
    (λ h. (h.plan, (h.weights, h.gains)))

module _ (s : List ℕ) (l : RowLists) where
  long-met : ReadMet s l Long → max_text < length s
  long-met (ReadMet.long h) = h

  line-met : (j : ℕ) → ReadMet s l (Line j) → FirstBad s j
  line-met j (ReadMet.line b) = b

  bad-decides : Decides (is_bad (read_of s)) (FirstBad s (line_in (read_of s)))
  bad-decides = record { sound = λ e. some (read_of s) refl e; complete = λ b. let e = (read-is-first-bad s _).1 b in ap is_bad e }
    where
      some : (o : Read) → read_of s ≡ o → is_bad (read_of s) ≡ true → FirstBad s (line_in (read_of s))
      some (got rows) e t = absurd (clash (is_bad (read_of s)) t (ap is_bad e))
      some (bad j) e t = (read-is-first-bad s _).0 (e ∙ ap bad (sym (ap line_in e)))

  short-decides : Decides (not (room_for (rows_in (read_of s)) (length l.plan) (length l.weights) (length l.gains))) (ReadMet s l Short)
  short-decides = reword (no-decides (room-decides (rows_in (read_of s)) l)) to from
    where
      to : (Room (rows_in (read_of s)) l → ⊥) → ReadMet s l Short
      to f = go (read_of s) refl
        where
          go : (o : Read) → read_of s ≡ o → ReadMet s l Short
          go (got rows) e = ReadMet.short ((read-is-page s rows).0 e) (λ r. f (rw e r))
          go (bad j) e = absurd (f (rw e (record { plan = omega arith; weights = omega arith; gains = omega arith })))

      from : ReadMet s l Short → Room (rows_in (read_of s)) l → ⊥
      from (ReadMet.short {rows = rows} p f) r = f (rw ((read-is-page s rows).1 p) at r)

  read-decided : Decided (ReadMet s l) (read_checks s l)
  read-decided =
      next (reword (lt-decides max_text (length s)) (λ h. ReadMet.long h) long-met)
      (next (reword bad-decides (λ b. ReadMet.line b) (line-met _))
      (next short-decides ends))

-- What is served is a page, and lists with room for its rows
pub read-open : (s : List ℕ) (l : RowLists) → first_of (read_checks s l) ≡ Ok tt → IsPageOf s (rows_got (read_of s)) × Room (rows_in (read_of s)) l
read-open s l e =
    let u = served-next _ _ e in
    let v = served-next _ _ u.1 in
    (page (read_of s) refl v.0, (room-decides (rows_in (read_of s)) l).sound (not-false _ (served-next _ _ v.1).0))
  where
    page : (o : Read) → read_of s ≡ o → is_bad (read_of s) ≡ false → IsPageOf s (rows_got (read_of s))
    page (got rows) e f = rw e ((read-is-page s rows).0 e)
    page (bad j) e f = absurd (clash (is_bad (read_of s)) (ap is_bad e) f)

module _ (s : List ℕ) (l : RowLists) where
  serves : read_page_of s l ≡ read_by s l (Ok tt) → first_of (read_checks s l) ≡ Ok tt → ReadServes s l
  unfolding read_by
  serves e v = record { rows = rows_got (read_of s); page = (read-open s l v).0; answers = record { lists = rw e; tells = rw e } }

pub read-demand-1 : ReadDemand1
unfolding read_page_of read_by
read-demand-1 s l =
    demand-1 (read-decided s l)
    (λ r. (λ e. record { lists = rw e; tells = rw e }, λ a. by-refused r (first_of (read_checks s l)) a.tells))
    (λ e. serves s l (ap (read_by s l) e) e, λ a. by-served (first_of (read_checks s l)) a.answers.tells)
  where
    by-refused : (r : Refusal) (v : Verdict) → read_told (read_by s l v).answer ≡ refused r → v ≡ Err r
    by-refused r (Ok tt) e = served-apart _ r _ _ e
    by-refused r (Err q) e = ap Err (refused-apart q r e)

    by-served : {n : ℕ} (v : Verdict) → read_told (read_by s l v).answer ≡ served n → v ≡ Ok tt
    by-served (Ok tt) e = refl
    by-served (Err q) e = served-apart _ q _ _ (sym e)
