-- The form that reading follows is that of pages.
use mathlib.Core.Path.{◌≡◌, refl, ◌∙◌, ap}
use mathlib.Core.Logic.{inl, inr}
use Prim.Native.Nat.{ℕ, zero, suc, ◌+◌, ◌≤◌}
use native.Mathlib.Omega.{arith}
use mathlib.Core.Bool.{Bool, true, false}
use mathlib.Core.List.{List, [], ◌∷◌, ◌++◌}
use lib.ListN.{length}
use Rattle.text.specs.Bytes.{newline}
use Rattle.board.specs.Limits.{max_bidders}
use Rattle.layout.specs.declared.row.Row.{Row}
use Rattle.layout.specs.Row.{unplaced, row_fits, EachFits}
use Rattle.layout.specs.Page.{next_heading, row_line, breaks, headed, page_from}
use Rattle.layout.specs.Read.{Read, got, read_row, read_entry, unless_ended, read_rows}
use Rattle.layout.proofs.Lines.{IsLine, bad-at-end}
use Rattle.layout.proofs.Rows.{next-heading-line, row-line}
use Rattle.layout.proofs.Steps.{Form, Some, Means, FixedThen, RowThen, EndOr, fixed-means, row-means, end-means, fixed_reads, row-reads-on}

-- ---- the form, step by step as it is read
abbrev EntryThen : Bool → ℕ → Form → Form
EntryThen true n After = FixedThen next_heading (RowThen n After)
EntryThen false n After = RowThen n After

abbrev Nothing : Form
Nothing rs t = ⊥

abbrev pub FormFrom : ℕ → ℕ → Form
FormFrom zero i = EndOr Nothing
FormFrom (suc left) i = EndOr (EntryThen (breaks i) (suc i) (FormFrom left (suc i)))

pub some-form : (left i : ℕ) → Some (FormFrom left i) []
some-form zero i = ([], inl (refl, refl))
some-form (suc left) i = ([], inl (refl, refl))

some-row : (n : ℕ) (After : Form) (t : List ℕ) → Some After t → Some (RowThen n After) (row_line n unplaced ++ t)
some-row n After t (rs, w) = (unplaced ∷ rs, (t, refl, w, refl))

some-entry : (b : Bool) (n : ℕ) (After : Form) (t : List ℕ) → Some After t → Some (EntryThen b n After) (headed b (row_line n unplaced ++ t))
some-entry true n After t k = let (rs, w) = some-row n After t k in (rs, (row_line n unplaced ++ t, w, refl))
some-entry false n After t k = some-row n After t k

entry-means : (b : Bool) (n : ℕ) → n ≤ max_bidders → (After : Form) (next : List ℕ → Read) (s t : List ℕ) → Some After t → ((x : List ℕ) → Means After x (next x))
    → Means (EntryThen b n After) s (read_entry b n next s)
entry-means true n h After next s t k m =
    fixed-means next_heading next-heading-line (RowThen n After) (λ x. read_row n next x) s (row_line n unplaced ++ t) (some-row n After t k) (λ x. row-means n h After next x t k m)
entry-means false n h After next s t k m = row-means n h After next s t k m

pub rows-mean : (left i : ℕ) (s : List ℕ) → i + left ≤ max_bidders → Means (FormFrom left i) s (read_rows left i s)
rows-mean zero i [] h = inl (refl, refl)
rows-mean zero i (b ∷ bs) h = bad-at-end (Some (EndOr Nothing)) b bs only ([], inl (refl, refl))
  where
    only : (t : List ℕ) → Some (EndOr Nothing) t → t ≡ []
    only t (rs, (inl (p, q))) = q
    only t (rs, (inr w)) = absurd w
rows-mean (suc left) i s h =
    let After = FormFrom left (suc i) in
    let next : List ℕ → Read = λ x. read_rows left (suc i) x in
    end-means (EntryThen (breaks i) (suc i) After) s (headed (breaks i) (row_line (suc i) unplaced ++ [])) (some-entry (breaks i) (suc i) After [] (some-form left (suc i)))
    (read_entry (breaks i) (suc i) next s)
    (entry-means (breaks i) (suc i) (omega arith) After next s [] (some-form left (suc i)) (λ x. rows-mean left (suc i) x (omega arith)))

-- ---- a text of the form is what follows in a page
pub record Tail (left i : ℕ) (rs : List Row) (t : List ℕ) : Type 0 where
  pub few : length rs ≤ left
  pub each : EachFits rs
  pub is : t ≡ page_from i rs

row-tail : (n : ℕ) (After : Form) (left : ℕ) → ((rs : List Row) (t : List ℕ) → After rs t → Tail left n rs t)
    → (r : Row) (rs : List Row) (t : List ℕ) → RowThen n After (r ∷ rs) t → (row_fits r ≡ true) × (length rs ≤ left) × EachFits rs × (t ≡ row_line n r ++ page_from n rs)
row-tail n After left rec r rs t (rest, f, w, e) =
    let z = rec rs rest w in
    (f, z.few, z.each, e ∙ ap (λ (x : List ℕ). row_line n r ++ x) z.is)

entry-tail : (b : Bool) (i : ℕ) → breaks i ≡ b → (After : Form) (left : ℕ) → ((rs : List Row) (t : List ℕ) → After rs t → Tail left (suc i) rs t)
    → (rs : List Row) (t : List ℕ) → EntryThen b (suc i) After rs t → Tail (suc left) i rs t
entry-tail true i q After left rec [] t (rest, w, e) = absurd w
entry-tail true i q After left rec (r ∷ rs) t (rest, w, e) =
    let (f, few, each, is) = row-tail (suc i) After left rec r rs rest w in
    record { few = omega arith; each = (f, each); is = rw q (e ∙ ap (λ (x : List ℕ). next_heading ++ x) is) }
entry-tail false i q After left rec [] t w = absurd w
entry-tail false i q After left rec (r ∷ rs) t w =
    let (f, few, each, is) = row-tail (suc i) After left rec r rs t w in
    record { few = omega arith; each = (f, each); is = rw q is }

pub form-tail : (left i : ℕ) (rs : List Row) (t : List ℕ) → FormFrom left i rs t → Tail left i rs t
form-tail zero i rs t (inl (p, q)) = rw (p, q) (record { few = omega arith; each = tt; is = refl })
form-tail zero i rs t (inr w) = absurd w
form-tail (suc left) i rs t (inl (p, q)) = rw (p, q) (record { few = omega arith; each = tt; is = refl })
form-tail (suc left) i rs t (inr w) = entry-tail (breaks i) i refl (FormFrom left (suc i)) left (form-tail left (suc i)) rs t w

entry-form : (b : Bool) (n : ℕ) (After : Form) (r : Row) (rs : List Row) (t : List ℕ) → row_fits r ≡ true → After rs t → EntryThen b n After (r ∷ rs) (headed b (row_line n r ++ t))
entry-form true n After r rs t f w = (row_line n r ++ t, (t, f, w, refl), refl)
entry-form false n After r rs t f w = (t, f, w, refl)

pub page-form : (left i : ℕ) (rs : List Row) → length rs ≤ left → EachFits rs → FormFrom left i rs (page_from i rs)
page-form zero i [] h w = inl (refl, refl)
page-form zero i (r ∷ rs) h w = absurd (omega arith)
page-form (suc left) i [] h w = inl (refl, refl)
page-form (suc left) i (r ∷ rs) h (f, w) =
    inr (entry-form (breaks i) (suc i) (FormFrom left (suc i)) r rs (page_from (suc i) rs) f (page-form left (suc i) rs (omega arith) w))

-- ---- what follows in a page reads back
some_bytes : (line rest : List ℕ) (o : Read) → IsLine line → unless_ended (line ++ rest) o ≡ o
some_bytes line rest o l = rw l.ended (go l.body)
  where
    go : (body : List ℕ) → unless_ended ((body ++ (newline ∷ [])) ++ rest) o ≡ o
    go [] = refl
    go (b ∷ bs) = refl

entry-bytes : (b : Bool) (n : ℕ) (r : Row) (rest : List ℕ) (o : Read) → unless_ended (headed b (row_line n r ++ rest)) o ≡ o
entry-bytes true n r rest o = some_bytes next_heading (row_line n r ++ rest) o next-heading-line
entry-bytes false n r rest o = some_bytes (row_line n r) rest o (row-line n r)

entry-reads : (b : Bool) (n : ℕ) → n ≤ max_bidders → (next : List ℕ → Read) (r : Row) (rs : List Row) (rest : List ℕ) → row_fits r ≡ true → next rest ≡ got rs
    → read_entry b n next (headed b (row_line n r ++ rest)) ≡ got (r ∷ rs)
entry-reads true n h next r rs rest f e = fixed_reads next_heading next-heading-line Nothing (λ t. read_row n next t) (row_line n r ++ rest) ∙ rw (row-reads-on n h Nothing next r rest f, e)
entry-reads false n h next r rs rest f e = row-reads-on n h Nothing next r rest f ∙ rw e

pub tail-reads : (left i : ℕ) (rs : List Row) → i + left ≤ max_bidders → length rs ≤ left → EachFits rs → read_rows left i (page_from i rs) ≡ got rs
tail-reads zero i [] h l w = refl
tail-reads zero i (r ∷ rs) h l w = absurd (omega arith)
tail-reads (suc left) i [] h l w = refl
tail-reads (suc left) i (r ∷ rs) h l (f, w) =
    let next : List ℕ → Read = λ t. read_rows left (suc i) t in
    let rest = page_from (suc i) rs in
    entry-bytes (breaks i) (suc i) r rest (read_entry (breaks i) (suc i) next (headed (breaks i) (row_line (suc i) r ++ rest)))
    ∙ entry-reads (breaks i) (suc i) (omega arith) next r rs rest f (tail-reads left (suc i) rs (omega arith) (omega arith) w)
