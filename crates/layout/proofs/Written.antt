-- Laws of a page that is written row after row.
use mathlib.Core.Path.{◌≡◌, refl, sym, ◌∙◌, ap}
use Prim.Native.Nat.{ℕ, zero, suc, ◌+◌, ◌<◌}
use native.Mathlib.Nat.{add-zero}
use native.Mathlib.Numerals.{add-one}
use native.Mathlib.Omega.{arith}
use mathlib.Core.Bool.{Bool, true, false}
use mathlib.Core.List.{List, [], ◌∷◌, ◌++◌, append_assoc, append-nil}
use lib.ListN.{length, get_or, length-append, get_or-append}
use lib.Seq.{get_or-append_seam}
use Rattle.duality.proofs.Below.{one_more}
use Rattle.layout.specs.declared.row.Row.{Row}
use Rattle.layout.specs.Row.{row_fits, EachFits, RowsFit}
use Rattle.layout.specs.Page.{heading, next_heading, headed, breaks, row_line, page_from, page_of}
use Rattle.layout.specs.Written.{rows_of, Writable, WrittenReads}
use Rattle.layout.proofs.Statements.{page-reads}

-- the heading that may be due
pub break-due : (i : ℕ) (line : List ℕ) → line ≡ next_heading → breaks i ≡ true → line ≡ headed (breaks i) []
break-due i line h e = rw (e, h) (sym (append-nil next_heading))

pub break-none : (i : ℕ) → breaks i ≡ false → [] ≡ headed (breaks i) []
break-none i e = rw e

headed-append : (b : Bool) (s t : List ℕ) → headed b s ++ t ≡ headed b (s ++ t)
headed-append true s t = append_assoc next_heading s t
headed-append false s t = refl

pub entry-parts : (i : ℕ) (r : Row) → headed (breaks i) [] ++ row_line (i + 1) r ≡ headed (breaks i) (row_line (suc i) r)
entry-parts i r = headed-append (breaks i) [] (row_line (i + 1) r) ∙ rw (add-one i)

-- one row more
page-snoc : (i : ℕ) (rs : List Row) (r : Row) → page_from i (rs ++ (r ∷ [])) ≡ page_from i rs ++ headed (breaks (i + length rs)) (row_line (suc (i + length rs)) r)
page-snoc i [] r = rw (add-zero i, append-nil (row_line (suc i) r))
page-snoc i (x ∷ xs) r =
    let e : suc i + length xs ≡ i + suc (length xs) = omega arith in
    let last = headed (breaks (i + suc (length xs))) (row_line (suc (i + suc (length xs))) r) in
    ap (λ (t : List ℕ). headed (breaks i) (row_line (suc i) x ++ t))
    (page-snoc (suc i) xs r ∙ ap (λ (k : ℕ). page_from (suc i) xs ++ headed (breaks k) (row_line (suc k) r)) e)
    ∙ (ap (headed (breaks i)) (sym (append_assoc (row_line (suc i) x) (page_from (suc i) xs) last))
    ∙ sym (headed-append (breaks i) (row_line (suc i) x ++ page_from (suc i) xs) last))

module _ (row : ℕ → Row) where
  pub length-rows : (n : ℕ) → length (rows_of row n) ≡ n
  length-rows zero = refl
  length-rows (suc n) = length-append (rows_of row n) (row n ∷ []) ∙ omega (arith, length-rows n)

  pub page-more : (i : ℕ) → page_from 0 (rows_of row i) ++ headed (breaks i) (row_line (suc i) (row i)) ≡ page_from 0 (rows_of row (i + 1))
  page-more i =
      let rs = rows_of row i in
      let e : 0 + length rs ≡ i = omega (arith, length-rows i) in
      sym (ap (λ (k : ℕ). page_from 0 (rows_of row k)) (add-one i)
      ∙ (page-snoc 0 rs (row i) ∙ ap (λ (k : ℕ). page_from 0 rs ++ headed (breaks k) (row_line (suc k) (row i))) e))

  pub page-whole : (line : List ℕ) (i n : ℕ) → line ≡ heading → i ≡ n → line ++ page_from 0 (rows_of row i) ≡ page_of (rows_of row n)
  page-whole line i n e h = rw (e, h)

-- ---- what is written reads back
each_more : (rs : List Row) (r : Row) → EachFits rs → row_fits r ≡ true → EachFits (rs ++ (r ∷ []))
each_more [] r w f = (f, tt)
each_more (x ∷ xs) r (g, w) f = (g, each_more xs r w f)

each_fits : (row : ℕ → Row) (n : ℕ) → ((k : ℕ) → k < n → row_fits (row k) ≡ true) → EachFits (rows_of row n)
each_fits row zero w = tt
each_fits row (suc n) w = each_more (rows_of row n) (row n) (each_fits row n (λ k h. w k (omega arith))) (w n (omega arith))

pub rows_fit : (row : ℕ → Row) (n : ℕ) → Writable row n → RowsFit (rows_of row n)
rows_fit row n w = record { few = omega (arith, length-rows row n, w.few); each = each_fits row n w.each }

pub written-reads : WrittenReads
written-reads row n w = page-reads (rows_of row n) (rows_fit row n w)

-- ---- rows of two makings
pub rows_same : (f g : ℕ → Row) (n : ℕ) → ((k : ℕ) → k < n → f k ≡ g k) → rows_of f n ≡ rows_of g n
rows_same f g zero h = refl
rows_same f g (suc n) h =
    let e = rows_same f g n (λ k l. h k (omega arith)) in
    let q = h n (omega arith) in
    rw (e, q)

pub rows_at : (row : ℕ → Row) (n : ℕ) (d : Row) (i : ℕ) → i < n → get_or (rows_of row n) i d ≡ row i
rows_at row zero d i h = absurd (omega arith)
rows_at row (suc n) d i h = one_more n (λ i. get_or (rows_of row (suc n)) i d ≡ row i) (λ i m. before i m ∙ rows_at row n d i m) last i h
  where
    before : (i : ℕ) → i < n → get_or (rows_of row n ++ (row n ∷ [])) i d ≡ get_or (rows_of row n) i d
    before i m = get_or-append (rows_of row n) (row n ∷ []) d i (omega (arith, length-rows row n))

    last : get_or (rows_of row n ++ (row n ∷ [])) n d ≡ row n
    last = ap (λ (k : ℕ). get_or (rows_of row n ++ (row n ∷ [])) k d) (sym (length-rows row n)) ∙ get_or-append_seam (rows_of row n) (row n) [] d
