-- The length of a page.
use mathlib.Core.Path.{◌≡◌, refl, ◌∙◌}
use Prim.Native.Nat.{ℕ, zero, suc, ◌+◌, ◌*◌, ◌-◌, ◌/◌, ◌≤◌}
use native.Mathlib.Omega.{arith}
use mathlib.Core.Bool.{Bool, true, false}
use mathlib.Core.List.{List, [], ◌∷◌, ◌++◌}
use lib.ListN.{length, length-append}
use lib.Dec.{eqb}
use Rattle.duality.specs.Decide.{all_below}
use Rattle.duality.proofs.Decide.{all-decides, eq-decides}
use Rattle.board.specs.Limits.{max_bidders}
use Rattle.layout.specs.declared.row.Row.{Row}
use Rattle.layout.specs.Limits.{rows_to_heading, line_bytes, max_page}
use Rattle.layout.specs.Row.{EachFits, RowsFit}
use Rattle.layout.specs.Page.{heading, next_heading, row_line, breaks, headed, page_from, page_of}
use Rattle.layout.specs.Written.{PageBytes}
use Rattle.layout.proofs.Rows.{row-length}
use Rattle.layout.proofs.Fronts.{heading-length}

abbrev one : Bool → ℕ
one true = 1
one false = 0

-- the headings that are due before n rows after the first i
abbrev breaks_in : ℕ → ℕ → ℕ
breaks_in i zero = 0
breaks_in i (suc n) = one (breaks i) + breaks_in (suc i) n

headed-length : (b : Bool) (rest : List ℕ) → length (headed b rest) ≡ one b * (1 + line_bytes) + length rest
headed-length true rest = length-append next_heading rest ∙ omega (arith, heading-length)
headed-length false rest = omega arith

tail-length : (i : ℕ) (rows : List Row) → i + length rows ≤ max_bidders → EachFits rows →
    length (page_from i rows) ≡ length rows * line_bytes + breaks_in i (length rows) * (1 + line_bytes)
tail-length i [] h w = refl
tail-length i (r ∷ rs) h (f, w) =
    headed-length (breaks i) (row_line (suc i) r ++ page_from (suc i) rs)
    ∙ omega (arith, length-append (row_line (suc i) r) (page_from (suc i) rs), row-length (suc i) r (omega arith) f, tail-length (suc i) rs (omega arith) w)

-- a heading is due before every further 40 rows: of each number of rows that a page may have, by counting
abbrev counted : ℕ → Bool
counted n = eqb (breaks_in 0 n) ((n - 1) / rows_to_heading)

all-counted : all_below (suc max_bidders) counted ≡ true
unfolding all_below breaks
all-counted = refl

breaks-count : (n : ℕ) → n ≤ max_bidders → breaks_in 0 n ≡ (n - 1) / rows_to_heading
breaks-count n h = (all-decides (suc max_bidders) counted (λ n. breaks_in 0 n ≡ (n - 1) / rows_to_heading) (λ n. eq-decides _ _)).sound all-counted n (omega arith)

pub page-bytes : PageBytes
page-bytes rows fit =
    length-append heading (page_from 0 rows)
    ∙ omega (arith, heading-length, tail-length 0 rows (omega (arith, fit.few)) fit.each, breaks-count (length rows) fit.few)

pub page-most : (rows : List Row) → RowsFit rows → length (page_of rows) ≤ max_page
page-most rows fit = omega (arith, page-bytes rows fit, fit.few)
