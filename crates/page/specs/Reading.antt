-- Reading a page: "a text not of this form is 14 at its first bad line (the one after the last, if it stops short), after 15, then 8 for lists too
-- short." "Writing returns the bytes written, reading the number of batches".
use Rattle.std.specs.Prelude.{◌≡◌, Bool, true, false, not, ◌&&◌, List, [], ◌∷◌, ℕ, ◌<◌, ◌≤◌, length, leb, ltb, Err, Ok, Result}
use Rattle.refusals.specs.declared.Refusal.{Refusal}
use Rattle.refusals.specs.declared.Refusal.TheVariants.{Short, Line, Long}
use Rattle.refusals.specs.declared.Told.{Told}
use Rattle.refusals.specs.Told.{served, refused}
use Rattle.refusals.specs.Demand1.{Check, check_for, first_of, Verdict}
use Rattle.board.specs.Limits.{max_text}
use Rattle.layout.specs.declared.row.Row.{Row}
use Rattle.layout.specs.Page.{IsPageOf}
use Rattle.layout.specs.Read.{Read, got, bad, read_of}
use Rattle.layout.specs.Seen.{rows_in, line_in}
use Rattle.layout.specs.Stored.{RowLists, stored_lists}
use Rattle.layout.specs.Statements.{FirstBad}

-- The answer, and the three lists after the call
pub record RowsOutcome : Type 0 where
  pub answer : Result ℕ Refusal
  pub lists : RowLists

abbrev pub read : Result ℕ Refusal → RowLists → RowsOutcome
read a l = record { answer = a; lists = l }

-- There is a cell of each list for each of n rows
pub record Room (n : ℕ) (l : RowLists) : Type 0 where
  pub plan : n ≤ length l.plan
  pub weights : n ≤ length l.weights
  pub gains : n ≤ length l.gains

unfoldable pub room_for : ℕ → ℕ → ℕ → ℕ → Bool
room_for rows plan weights gains = leb rows plan && (leb rows weights && leb rows gains)

-- The table's rows: "text above 65,536 bytes"; "a text not of this form is 14 at its first bad line"; "8 for lists too short"
pub data ReadMet (s : List ℕ) (l : RowLists) : Refusal → Type 0 where
  long : max_text < length s → ReadMet s l Long
  line : {j : ℕ} → FirstBad s j → ReadMet s l (Line j)
  short : {rows : List Row} → IsPageOf s rows → (Room (length rows) l → ⊥) → ReadMet s l Short

abbrev pub is_bad : Read → Bool
is_bad (got rows) = false
is_bad (bad j) = true

abbrev pub read_checks : List ℕ → RowLists → List Check
read_checks s l =
    check_for Long (ltb max_text (length s))
    ∷ (check_for (Line (line_in (read_of s))) (is_bad (read_of s))
    ∷ (check_for Short (not (room_for (rows_in (read_of s)) (length l.plan) (length l.weights) (length l.gains))) ∷ []))

unfoldable pub read_by : List ℕ → RowLists → Verdict → RowsOutcome
read_by s l (Ok tt) = read (Ok (rows_in (read_of s))) (stored_lists (rows_in (read_of s)) (read_of s) l)
read_by s l (Err r) = read (Err r) l

unfoldable pub read_page_of : List ℕ → RowLists → RowsOutcome
read_page_of s l = read_by s l (first_of (read_checks s l))

-- What is told
abbrev pub read_told : Result ℕ Refusal → Told
read_told (Ok n) = served n
read_told (Err r) = refused r

-- Reading leaves the lists after, and tells t
pub record ReadAnswers (s : List ℕ) (before after : RowLists) (t : Told) : Type 0 where
  pub lists : (read_page_of s before).lists ≡ after
  pub tells : read_told (read_page_of s before).answer ≡ t
