-- What each step of reading answers, for texts of a form: rows with a text.
use mathlib.Core.Path.{◌≡◌, refl, sym, ◌∙◌, ap, subst}
use mathlib.Core.Logic.{◌⊎◌, inl, inr}
use Prim.Native.Nat.{ℕ, suc, ◌≤◌}
use mathlib.Core.Bool.{Bool, true, false, false≢true}
use mathlib.Core.List.{List, [], ◌∷◌, ◌++◌}
use lib.ListN.{length, take, drop, take-append-drop}
use lib.Seq.{take_at, drop_at}
use Rattle.text.proofs.Numbers.{both}
use Rattle.board.specs.Limits.{max_bidders}
use Rattle.layout.specs.Limits.{line_bytes}
use Rattle.layout.specs.declared.row.Row.{Row}
use Rattle.layout.specs.Row.{unplaced, row_fits}
use Rattle.layout.specs.Page.{row_line}
use Rattle.layout.specs.Lines.{FirstBadOf}
use Rattle.layout.specs.Read.{Read, got, bad, equal, row_read, lined, checked, read_fixed, is_row, read_row, unless_ended}
use Rattle.layout.proofs.Lines.{IsLine, LineThen, OrEmpty, bad-here, bad-later, bad-unless-empty}
use Rattle.layout.proofs.Rows.{equal-true, equal-same, row-length, row-line, row_reads, is-row}

abbrev pub Form : Type 1
Form = List Row → List ℕ → Type 0

-- some rows with the text
abbrev pub Some : Form → List ℕ → Type 0
Some G t = (rs : List Row) × G rs t

-- an answer says what the text is
abbrev pub Means : Form → List ℕ → Read → Type 0
Means G s (got rs) = G rs s
Means G s (bad j) = FirstBadOf (Some G) s j

pub bad-as : (K L : List ℕ → Type 0) (s : List ℕ) (j : ℕ) → ((t : List ℕ) → K t → L t) → ((t : List ℕ) → L t → K t) → FirstBadOf K s j → FirstBadOf L s j
bad-as K L s j to from b = record {
  before = λ k h. let g = b.before k h in record { closed = g.closed; other = g.other; kind = to g.other g.kind; same = g.same };
  here = λ g. b.here (record { closed = g.closed; other = g.other; kind = from g.other g.kind; same = g.same });
  unlike = λ w. b.unlike (from s w);
}

-- ---- any line that is accepted, by what it puts before the rows after it
module _ (Accept : List ℕ → Type 0) (lines : (l : List ℕ) → Accept l → IsLine l) (After G : Form)
    (to : (t : List ℕ) → Some G t → LineThen Accept (Some After) t) (from : (t : List ℕ) → LineThen Accept (Some After) t → Some G t) where
  passes : (l s : List ℕ) (f : List Row → List Row) → Accept l → ((rs : List Row) → After rs s → G (f rs) (l ++ s))
      → (t : List ℕ) → Some After t → (o : Read) → Means After s o → Means G (l ++ s) (lined f o)
  passes l s f a build t k (got rs) m = build rs m
  passes l s f a build t k (bad j) m = bad-as (LineThen Accept (Some After)) (Some G) (l ++ s) (suc j) from to (bad-later Accept (Some After) lines s l j t k a m)

  fails : (s t : List ℕ) → Some G t → ((l rest : List ℕ) → Accept l → s ≡ l ++ rest → ⊥) → FirstBadOf (Some G) s 1
  fails s t k none = bad-as (LineThen Accept (Some After)) (Some G) s 1 from to (bad-here Accept (Some After) lines s t (to t k) none)

-- ---- a line that must be this one
abbrev pub FixedThen : List ℕ → Form → Form
FixedThen line After rs t = (rest : List ℕ) × After rs rest × (t ≡ line ++ rest)

module _ (line : List ℕ) (is_line : IsLine line) (After : Form) where
  abbrev This : List ℕ → Type 0
  This l = l ≡ line

  this-line : (l : List ℕ) → This l → IsLine l
  this-line l e = rw e is_line

  to-this : (t : List ℕ) → Some (FixedThen line After) t → LineThen This (Some After) t
  to-this t (rs, (rest, w, e)) = record { line = line; rest = rest; accepted = refl; after = (rs, w); joined = e }

  from-this : (t : List ℕ) → LineThen This (Some After) t → Some (FixedThen line After) t
  from-this t w = (w.after.0, (w.rest, w.after.1, rw (← w.accepted) w.joined))

  pub fixed_reads : (next : List ℕ → Read) (rest : List ℕ) → read_fixed line next (line ++ rest) ≡ lined (λ rs. rs) (next rest)
  unfolding read_fixed
  fixed_reads next rest = rw (take_at line rest (length line) refl, equal-same line, drop_at line rest (length line) refl)

  pub fixed-means : (next : List ℕ → Read) (s t : List ℕ) → Some After t → ((x : List ℕ) → Means After x (next x)) → Means (FixedThen line After) s (read_fixed line next s)
  unfolding read_fixed
  fixed-means next s t k m = go (equal (take (length line) s) line) refl
    where
      rest : List ℕ
      rest = drop (length line) s

      go : (b : Bool) → equal (take (length line) s) line ≡ b → Means (FixedThen line After) s (checked b (λ rs. rs) next rest)
      go true e =
          let split : line ++ rest ≡ s = ap (λ (x : List ℕ). x ++ rest) (sym (equal-true (take (length line) s) line e)) ∙ take-append-drop (length line) s in
          subst (λ (x : List ℕ). Means (FixedThen line After) x (lined (λ rs. rs) (next rest))) split
          (passes This this-line After (FixedThen line After) to-this from-this line rest (λ rs. rs) refl (λ rs w. (rest, w, refl)) t k (next rest) (m rest))
      go false e =
          fails This this-line After (FixedThen line After) to-this from-this s (line ++ t) (k.0, (t, k.1, refl))
          (λ l x a q. false≢true (sym e ∙ (ap (λ (z : List ℕ). equal (take (length line) z) line) (q ∙ ap (λ (z : List ℕ). z ++ x) a) ∙ rw (take_at line x (length line) refl) (equal-same line))))

-- ---- the line of row n
abbrev pub RowThen : ℕ → Form → Form
RowThen n After [] t = ⊥
RowThen n After (r ∷ rs) t = (rest : List ℕ) × (row_fits r ≡ true) × After rs rest × (t ≡ row_line n r ++ rest)

module _ (n : ℕ) (within : n ≤ max_bidders) (After : Form) where
  abbrev ARow : List ℕ → Type 0
  ARow l = (r : Row) × (row_fits r ≡ true) × (l ≡ row_line n r)

  a-line : (l : List ℕ) → ARow l → IsLine l
  a-line l (r, f, e) = rw e (row-line n r)

  to_row : (t : List ℕ) → Some (RowThen n After) t → LineThen ARow (Some After) t
  to_row t ([], w) = absurd w
  to_row t ((r ∷ rs), (rest, f, w, e)) = record { line = row_line n r; rest = rest; accepted = (r, f, refl); after = (rs, w); joined = e }

  from_row : (t : List ℕ) → LineThen ARow (Some After) t → Some (RowThen n After) t
  from_row t w = let (r, f, e) = w.accepted in (r ∷ w.after.0, (w.rest, f, w.after.1, rw (← e) w.joined))

  row-front : (r : Row) (rest : List ℕ) → row_fits r ≡ true → take line_bytes (row_line n r ++ rest) ≡ row_line n r
  row-front r rest f = take_at (row_line n r) rest line_bytes (row-length n r within f)

  pub row-reads-on : (next : List ℕ → Read) (r : Row) (rest : List ℕ) → row_fits r ≡ true → read_row n next (row_line n r ++ rest) ≡ lined (λ rs. r ∷ rs) (next rest)
  unfolding read_row
  row-reads-on next r rest f =
      rw (row-front r rest f, is-row n r within f, row_reads n r within f, drop_at (row_line n r) rest line_bytes (row-length n r within f))

  pub row-means : (next : List ℕ → Read) (s t : List ℕ) → Some After t → ((x : List ℕ) → Means After x (next x)) → Means (RowThen n After) s (read_row n next s)
  unfolding read_row
  row-means next s t k m = go (is_row n line) refl
    where
      line : List ℕ
      line = take line_bytes s

      rest : List ℕ
      rest = drop line_bytes s

      row : Row
      row = row_read line

      go : (b : Bool) → is_row n line ≡ b → Means (RowThen n After) s (checked b (λ rs. row ∷ rs) next rest)
      go true e =
          let (f, q) = both (row_fits row) (equal line (row_line n row)) e in
          let split : row_line n row ++ rest ≡ s = ap (λ (x : List ℕ). x ++ rest) (sym (equal-true line (row_line n row) q)) ∙ take-append-drop line_bytes s in
          subst (λ (x : List ℕ). Means (RowThen n After) x (lined (λ rs. row ∷ rs) (next rest))) split
          (passes ARow a-line After (RowThen n After) to_row from_row (row_line n row) rest (λ rs. row ∷ rs) (row, f, refl) (λ rs w. (rest, f, w, refl)) t k (next rest) (m rest))
      go false e =
          fails ARow a-line After (RowThen n After) to_row from_row s (row_line n unplaced ++ t) (unplaced ∷ k.0, (t, refl, k.1, refl))
          (λ l x a q. let (r, f, p) = a in
          false≢true (sym e ∙ (ap (λ (z : List ℕ). is_row n (take line_bytes z)) (q ∙ ap (λ (z : List ℕ). z ++ x) p) ∙ rw (row-front r x f) (is-row n r within f))))

-- ---- a text that may end
abbrev pub EndOr : Form → Form
EndOr G rs t = ((rs ≡ []) × (t ≡ [])) ⊎ G rs t

pub end-means : (G : Form) (s t : List ℕ) → Some G t → (o : Read) → Means G s o → Means (EndOr G) s (unless_ended s o)
end-means G [] t k o m = inl (refl, refl)
end-means G (b ∷ bs) t k (got rs) m = inr m
end-means G (b ∷ bs) t k (bad j) m = bad-as (OrEmpty (Some G)) (Some (EndOr G)) (b ∷ bs) j to from (bad-unless-empty (Some G) b bs j t k m)
  where
    to : (x : List ℕ) → OrEmpty (Some G) x → Some (EndOr G) x
    to x (inl z) = ([], inl (refl, z))
    to x (inr (rs, w)) = (rs, inr w)

    from : (x : List ℕ) → Some (EndOr G) x → OrEmpty (Some G) x
    from x (rs, (inl (p, z))) = inl z
    from x (rs, (inr w)) = inr (rs, w)
