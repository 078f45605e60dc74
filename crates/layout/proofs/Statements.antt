-- The proof of each statement of specs/.
use mathlib.Core.Path.{◌≡◌, refl, sym, ◌∙◌, ap, subst}
use Prim.Native.Nat.{ℕ}
use native.Mathlib.Omega.{arith}
use mathlib.Core.Bool.{Bool, true, false}
use mathlib.Core.List.{List, [], ◌++◌}
use lib.Dec.{ltb}
use borrow.Author.Tests.{ltb-true, ltb-false}
use Rattle.board.specs.Limits.{max_bidders}
use Rattle.layout.specs.declared.row.Row.{Row}
use Rattle.layout.specs.Page.{heading, page_from, page_of, IsPageOf}
use Rattle.layout.specs.Read.{Read, got, bad, lined, read_rows, read_of}
use Rattle.layout.specs.Statements.{IsPage, FirstBad, PageReads, RowsUnique, FirstBadUnique, FirstBadExists, ReadIsPage, ReadIsFirstBad}
use Rattle.layout.proofs.Lines.{starts_none}
use Rattle.layout.proofs.Rows.{heading-line}
use Rattle.layout.proofs.Steps.{Form, Some, Means, FixedThen, bad-as, fixed-means, fixed_reads}
use Rattle.layout.proofs.Forms.{FormFrom, some-form, rows-mean, form-tail, page-form, tail-reads}

abbrev Whole : Form
Whole = FixedThen heading (FormFrom max_bidders 0)

abbrev Page : Form
Page rows bytes = IsPageOf bytes rows

whole-page : (rows : List Row) (bytes : List ℕ) → Whole rows bytes → Page rows bytes
whole-page rows bytes (rest, w, e) =
    let z = form-tail max_bidders 0 rows rest w in
    record { fit = record { few = z.few; each = z.each }; is = e ∙ ap (λ (x : List ℕ). heading ++ x) z.is }

page-whole : (rows : List Row) (bytes : List ℕ) → Page rows bytes → Whole rows bytes
page-whole rows bytes p = (page_from 0 rows, page-form max_bidders 0 rows p.fit.few p.fit.each, p.is)

-- what is read of any text
as-page : (s : List ℕ) (o : Read) → Means Whole s o → Means Page s o
as-page s (got rows) w = whole-page rows s w
as-page s (bad j) w = bad-as (Some Whole) (Some Page) s j (λ t k. (k.0, whole-page k.0 t k.1)) (λ t k. (k.0, page-whole k.0 t k.1)) w

read-means : (s : List ℕ) → Means Page s (read_of s)
unfolding read_of
read-means s =
    let next : List ℕ → Read = λ t. read_rows max_bidders 0 t in
    as-page s (read_of s) (fixed-means heading heading-line (FormFrom max_bidders 0) next s [] (some-form max_bidders 0) (λ x. rows-mean max_bidders 0 x (omega arith)))

read_as : (s : List ℕ) (o : Read) → read_of s ≡ o → Means Page s o
read_as s o e = subst (λ (x : Read). Means Page s x) e (read-means s)

pub page-reads : PageReads
unfolding read_of
page-reads rows fit =
    let next : List ℕ → Read = λ t. read_rows max_bidders 0 t in
    fixed_reads heading heading-line (FormFrom max_bidders 0) next (page_from 0 rows)
    ∙ ap (lined (λ rs. rs)) (tail-reads max_bidders 0 rows (omega arith) fit.few fit.each)

read-of-page : (bytes : List ℕ) (rows : List Row) → IsPageOf bytes rows → read_of bytes ≡ got rows
read-of-page bytes rows p = ap read_of p.is ∙ page-reads rows p.fit

pub rows-unique : RowsUnique
rows-unique bytes some other p q = let e = sym (read-of-page bytes some p) ∙ read-of-page bytes other q in cc

pub first-bad-unique : FirstBadUnique
first-bad-unique bytes i j a b = go (ltb i j) (ltb j i) refl refl
  where
    go : (x y : Bool) → ltb i j ≡ x → ltb j i ≡ y → i ≡ j
    go true y p q = absurd (a.here (b.before i (ltb-true i j p)))
    go false true p q = absurd (b.here (a.before j (ltb-true j i q)))
    go false false p q = omega (arith, ltb-false i j p, ltb-false j i q)

pub read-is-page : ReadIsPage
read-is-page bytes rows = (read_as bytes (got rows), read-of-page bytes rows)

pub read-is-first-bad : ReadIsFirstBad
read-is-first-bad bytes j = (read_as bytes (bad j), λ b. go b (read_of bytes) refl)
  where
    go : FirstBad bytes j → (o : Read) → read_of bytes ≡ o → read_of bytes ≡ bad j
    go b (got rows) e = absurd (b.unlike (rows, read_as bytes (got rows) e))
    go b (bad i) e = e ∙ ap bad (first-bad-unique bytes i j (read_as bytes (bad i) e) b)

pub first-bad-exists : FirstBadExists
first-bad-exists bytes = (λ w. w.1.unlike, λ no-page. go no-page (read_of bytes) refl)
  where
    go : (IsPage bytes → ⊥) → (o : Read) → read_of bytes ≡ o → (j : ℕ) × FirstBad bytes j
    go no-page (got rows) e = absurd (no-page (rows, read_as bytes (got rows) e))
    go no-page (bad j) e = (j, read_as bytes (bad j) e)

-- a bad line is counted from 1: no lines are the first of every page
pub bad-some : (s : List ℕ) (j : ℕ) → read_of s ≡ bad j → j ≡ 0 → ⊥
bad-some s j e z =
    let none : IsPage (page_of []) = ([], record { fit = record { few = omega arith; each = tt }; is = refl }) in
    ((read-is-first-bad s j).0 e).here (rw z (starts_none IsPage s (page_of []) none))
