-- What code has read of a text, and what each step adds.
use mathlib.Core.Path.{◌≡◌, refl, sym, ◌∙◌, ap}
use Prim.Native.Nat.{ℕ, suc, ◌+◌, ◌*◌, ◌-◌, ◌<◌, ◌≤◌}
use native.Mathlib.Numerals.{add-one}
use native.Mathlib.Omega.{arith}
use mathlib.Core.Bool.{Bool, true, false}
use mathlib.Core.List.{List, [], ◌∷◌, ◌++◌, append_assoc}
use lib.ListN.{length, take, drop, length-take, length-append}
use lib.Dec.{eqb}
use borrow.Author.Tests.{eqb-false}
use Rattle.board.specs.Limits.{max_bidders}
use Rattle.layout.specs.Limits.{line_bytes}
use Rattle.layout.specs.declared.row.Row.{Row}
use Rattle.layout.specs.Row.{row_fits}
use Rattle.layout.specs.Page.{heading, next_heading, row_line, breaks}
use Rattle.layout.specs.Read.{Read, got, bad, equal, row_read, lined, checked, read_fixed, is_row, read_row, read_entry, read_rows, read_of}
use Rattle.layout.specs.Seen.{RowFront}
use Rattle.layout.proofs.Rows.{equal-true, row-length}
use Rattle.layout.proofs.Fronts.{heading-length}

pub next-length : length next_heading ≡ line_bytes + 1
next-length = ap suc heading-length

next-reads : (s : List ℕ) (f : List ℕ → Read) (t : Bool) → equal (take (line_bytes + 1) s) next_heading ≡ t → read_fixed next_heading f s ≡ checked t (λ rs. rs) f (drop (line_bytes + 1) s)
unfolding read_fixed
next-reads s f t e =
    ap (λ (n : ℕ). checked (equal (take n s) next_heading) (λ rs. rs) f (drop n s)) next-length
    ∙ ap (λ (b : Bool). checked b (λ rs. rs) f (drop (line_bytes + 1) s)) e

-- ---- the line of a row
-- a text that is too short for a line
pub row-short : (s : List ℕ) (n : ℕ) → n ≤ max_bidders → length s < line_bytes → is_row n (take line_bytes s) ≡ false
row-short s n l h = go (row_fits r) refl (equal line (row_line n r)) refl
  where
    line : List ℕ
    line = take line_bytes s

    r : Row
    r = row_read line

    go : (t : Bool) → row_fits r ≡ t → (u : Bool) → equal line (row_line n r) ≡ u → is_row n line ≡ false
    go false f u e = rw f
    go true f false e = rw (f, e)
    go true f true e =
        let q : length (take line_bytes s) ≡ line_bytes = ap length (equal-true line (row_line n r) e) ∙ row-length n r l f in
        absurd (omega (arith, simp length-take at q))

-- ---- tests of the loop
pub some-left : (n : ℕ) → false ≡ eqb n 0 → 0 < n
some-left n e = omega (arith, eqb-false n 0 (sym e))

pub not-full : (n m : ℕ) → false ≡ eqb n m → n ≤ m → n < m
not-full n m e h = omega (arith, eqb-false n m (sym e))

-- ---- rows so far
-- what is read after so many lines with these rows
abbrev pub after : List Row → ℕ → Read → Read
after rows lines (got rs) = got (rows ++ rs)
after rows lines (bad j) = bad (lines + j)

-- the rows that are read after one more
abbrev more : ℕ → List ℕ → Read
more i t = read_rows (max_bidders - suc i) (suc i) t

-- so many good lines have these rows, and `rest` comes next
pub record Going (s : List ℕ) (rest : List ℕ) (rows : List Row) (lines : ℕ) : Type 0 where
  pub few : lines ≤ 1 + 2 * length rows
  pub reads : read_of s ≡ after rows lines (read_rows (max_bidders - length rows) (length rows) rest)

-- the same, and the line of a row comes next
pub record Due (s : List ℕ) (rest : List ℕ) (rows : List Row) (lines : ℕ) : Type 0 where
  pub few : lines ≤ 2 + 2 * length rows
  pub reads : read_of s ≡ after rows lines (read_row (suc (length rows)) (more (length rows)) rest)

pub heading-fails : (s : List ℕ) → equal (take line_bytes s) heading ≡ false → read_of s ≡ bad 1
unfolding read_of read_fixed
heading-fails s e = rw (heading-length, e)

pub heading-passes : (s : List ℕ) → equal (take line_bytes s) heading ≡ true → Going s (drop line_bytes s) [] 1
unfolding read_of read_fixed
heading-passes s e = record { few = omega arith; reads = rw (heading-length, e) (go (read_rows max_bidders 0 (drop line_bytes s))) }
  where
    go : (o : Read) → lined (λ rs. rs) o ≡ after [] 1 o
    go (got rs) = refl
    go (bad j) = ap bad (omega arith)

module _ {s rest : List ℕ} {rows : List Row} {lines : ℕ} where
  -- an entry comes next
  entry : Going s rest rows lines → 0 < length rest → length rows < max_bidders →
      read_of s ≡ after rows lines (read_entry (breaks (length rows)) (suc (length rows)) (more (length rows)) rest)
  entry w h l = w.reads ∙ go rest h
    where
      go : (t : List ℕ) → 0 < length t → after rows lines (read_rows (max_bidders - length rows) (length rows) t)
          ≡ after rows lines (read_entry (breaks (length rows)) (suc (length rows)) (more (length rows)) t)
      go [] k = absurd (omega arith)
      go (b ∷ bs) k =
          let e : max_bidders - length rows ≡ suc (max_bidders - suc (length rows)) = omega arith in
          rw e

  pub going-plain : Going s rest rows lines → 0 < length rest → length rows < max_bidders → breaks (length rows) ≡ false → Due s rest rows lines
  going-plain w h l e = record { few = omega (arith, w.few); reads = entry w h l ∙ rw e }

  pub going-headed : Going s rest rows lines → 0 < length rest → length rows < max_bidders → breaks (length rows) ≡ true
      → equal (take (line_bytes + 1) rest) next_heading ≡ true → Due s (drop (line_bytes + 1) rest) rows (lines + 1)
  going-headed w h l e q =
      let n = next-reads rest (λ t. read_row (suc (length rows)) (more (length rows)) t) true q in
      record {
        few = omega (arith, w.few);
        reads = entry w h l ∙ rw e (ap (after rows lines) n ∙ go (read_row (suc (length rows)) (more (length rows)) (drop (line_bytes + 1) rest)));
      }
    where
      go : (o : Read) → after rows lines (lined (λ rs. rs) o) ≡ after rows (lines + 1) o
      go (got rs) = refl
      go (bad j) = ap bad (omega arith)

  -- The same of what the reader goes on with
  pub headed-due : (r : List ℕ) → Going s rest rows lines → 0 < length rest → length rows < max_bidders → breaks (length rows) ≡ true
      → equal (take (line_bytes + 1) rest) next_heading ≡ true → r ≡ drop (line_bytes + 1) rest → Due s r rows (lines + 1)
  headed-due r w h l e q d = rw d (going-headed w h l e q)

  pub going-unheaded : Going s rest rows lines → 0 < length rest → length rows < max_bidders → breaks (length rows) ≡ true
      → equal (take (line_bytes + 1) rest) next_heading ≡ false → read_of s ≡ bad (lines + 1)
  going-unheaded w h l e q =
      entry w h l ∙ rw e (ap (after rows lines) (next-reads rest (λ t. read_row (suc (length rows)) (more (length rows)) t) false q))

  pub due-fails : Due s rest rows lines → is_row (length rows + 1) (take line_bytes rest) ≡ false → read_of s ≡ bad (lines + 1)
  unfolding read_row
  due-fails w e = w.reads ∙ rw (rw add-one at e)

  pub due-passes : {r : Row} {next : List ℕ} → Due s rest rows lines → RowFront rest (length rows + 1) r next → Going s next (rows ++ (r ∷ [])) (lines + 1)
  unfolding read_row
  due-passes {r} {next} w f =
      let n : length (rows ++ (r ∷ [])) ≡ suc (length rows) = length-append rows (r ∷ []) ∙ omega arith in
      record {
        few = omega (arith, w.few, n);
        reads = w.reads ∙ rw (rw add-one at f.is, ← f.read, ← f.after, n) (go (more (length rows) next));
      }
    where
      go : (o : Read) → after rows lines (lined (λ rs. r ∷ rs) o) ≡ after (rows ++ (r ∷ [])) (lines + 1) o
      go (got rs) = ap got (sym (append_assoc rows (r ∷ []) rs))
      go (bad j) = ap bad (omega arith)
