-- Laws of the first lines of a text, and what reading a line does to the first bad one.
use mathlib.Core.Path.{◌≡◌, refl, sym, ◌∙◌, ap}
use Prim.Native.Nat.{ℕ, zero, suc, ◌+◌, ◌<◌, ◌≤◌}
use mathlib.Core.Logic.{◌⊎◌, inl, inr, ⊎_elim}
use native.Mathlib.Omega.{arith}
use mathlib.Core.Bool.{Bool, true, false}
use mathlib.Core.List.{List, [], ◌∷◌, ◌++◌, append_assoc, append-nil, append_cancel_left}
use lib.ListN.{length}
use lib.Dec.{eqb}
use Rattle.text.specs.Bytes.{newline}
use Rattle.layout.specs.Lines.{line_count, first_lines, StartsLike, FirstBadOf}

pub count-append : (xs ys : List ℕ) → line_count (xs ++ ys) ≡ line_count xs + line_count ys
count-append [] ys = sym (omega arith)
count-append (x ∷ xs) ys = go (eqb x newline) refl (count-append xs ys)
  where
    go : (t : Bool) → eqb x newline ≡ t → line_count (xs ++ ys) ≡ line_count xs + line_count ys → line_count ((x ∷ xs) ++ ys) ≡ line_count (x ∷ xs) + line_count ys
    go true e rec = rw (line_count, e) (omega arith)
    go false e rec = rw (line_count, e) rec

-- a line: no byte 10 but the last
pub record IsLine (line : List ℕ) : Type 0 where
  pub body : List ℕ
  pub plain : line_count body ≡ 0
  pub ended : line ≡ body ++ (newline ∷ [])

first-none : (s : List ℕ) → first_lines s 0 ≡ []
first-none [] = refl
first-none (b ∷ bs) = refl

first_body : (body : List ℕ) (s : List ℕ) (k : ℕ) → line_count body ≡ 0 → first_lines (body ++ (newline ∷ s)) (suc k) ≡ body ++ (newline ∷ first_lines s k)
first_body [] s k e = refl
first_body (b ∷ bs) s k e = go (eqb b newline) refl (first_body bs s k)
  where
    go : (t : Bool) → eqb b newline ≡ t → (line_count bs ≡ 0 → first_lines (bs ++ (newline ∷ s)) (suc k) ≡ bs ++ (newline ∷ first_lines s k))
        → first_lines ((b ∷ bs) ++ (newline ∷ s)) (suc k) ≡ (b ∷ bs) ++ (newline ∷ first_lines s k)
    go true q rec = absurd (omega (arith, rw (line_count, q) at e))
    go false q rec = rw (first_lines, q) (ap (λ (l : List ℕ). b ∷ l) (rec (rw (line_count, q) at e)))

-- a line is the first of a text that starts with it
pub first-line : (line s : List ℕ) (k : ℕ) → IsLine line → first_lines (line ++ s) (suc k) ≡ line ++ first_lines s k
first-line line s k l =
    rw (l.ended, append_assoc l.body (newline ∷ []) s, append_assoc l.body (newline ∷ []) (first_lines s k))
    (first_body l.body s k l.plain)

pub count-line : (line s : List ℕ) → IsLine line → line_count (line ++ s) ≡ suc (line_count s)
count-line line s l = rw (l.ended, count-append (l.body ++ (newline ∷ [])) s, count-append l.body (newline ∷ []), l.plain) (omega arith)

-- the first lines stand at the front
first-front : (s : List ℕ) (k : ℕ) → (rest : List ℕ) × (s ≡ first_lines s k ++ rest)
first-front [] k = ([], refl)
first-front (b ∷ bs) zero = (b ∷ bs, refl)
first-front (b ∷ bs) (suc k) = go (eqb b newline) refl (first-front bs k) (first-front bs (suc k))
  where
    go : (t : Bool) → eqb b newline ≡ t → (rest : List ℕ) × (bs ≡ first_lines bs k ++ rest) → (rest : List ℕ) × (bs ≡ first_lines bs (suc k) ++ rest)
        → (rest : List ℕ) × (b ∷ bs ≡ first_lines (b ∷ bs) (suc k) ++ rest)
    go true q one more = (one.0, rw (first_lines, q) (ap (λ (l : List ℕ). b ∷ l) one.1))
    go false q one more = (more.0, rw (first_lines, q) (ap (λ (l : List ℕ). b ∷ l) more.1))

-- a text starts with one line at most
pub same_line : (a b x y : List ℕ) → IsLine a → IsLine b → a ++ x ≡ b ++ y → a ≡ b
same_line a b x y la lb e =
    alone a x la ∙ (ap (λ (s : List ℕ). first_lines s 1) e ∙ sym (alone b y lb))
  where
    alone : (l z : List ℕ) → IsLine l → l ≡ first_lines (l ++ z) 1
    alone l z p = sym (first-line l z 0 p ∙ (ap (λ (t : List ℕ). l ++ t) (first-none z) ∙ append-nil l))

pub same_rest : (a b x y : List ℕ) → IsLine a → IsLine b → a ++ x ≡ b ++ y → x ≡ y
same_rest a b x y la lb e = append_cancel_left b x y (ap (λ (l : List ℕ). l ++ x) (sym (same_line a b x y la lb e)) ∙ e)

-- no line of a text is the first of every text
pub starts_none : (Kind : List ℕ → Type 0) (s t : List ℕ) → Kind t → StartsLike Kind s 0
starts_none Kind s t k = record { closed = omega arith; other = t; kind = k; same = first-none s ∙ sym (first-none t) }

-- ---- texts of a line that is accepted, and a text of another kind after it
pub record LineThen (Accept : List ℕ → Type 0) (After : List ℕ → Type 0) (t : List ℕ) : Type 0 where
  pub line : List ℕ
  pub rest : List ℕ
  pub accepted : Accept line
  pub after : After rest
  pub joined : t ≡ line ++ rest

module _ (Accept After : List ℕ → Type 0) (lines : (l : List ℕ) → Accept l → IsLine l) (s : List ℕ) where
  -- the front is none of the lines: line 1 is bad
  pub bad-here : (t : List ℕ) → LineThen Accept After t → ((l rest : List ℕ) → Accept l → s ≡ l ++ rest → ⊥) → FirstBadOf (LineThen Accept After) s 1
  bad-here t k none = record {
    before = zeroth;
    here = λ g.
        let w = g.kind in
        let l = w.line in
        let e : first_lines s 1 ≡ l = g.same ∙ (ap (λ (x : List ℕ). first_lines x 1) w.joined ∙ (first-line l w.rest 0 (lines l w.accepted) ∙ (ap (λ (x : List ℕ). l ++ x) (first-none w.rest) ∙ append-nil l))) in
        let f = first-front s 1 in
        none l f.0 w.accepted (f.1 ∙ ap (λ (x : List ℕ). x ++ f.0) e);
    unlike = λ w. none w.line w.rest w.accepted w.joined;
  }
    where
      zeroth : (i : ℕ) → i < 1 → StartsLike (LineThen Accept After) s i
      zeroth zero h = starts_none (LineThen Accept After) s t k
      zeroth (suc i) h = absurd (omega arith)

  -- the front is one of the lines: the first bad line is one further
  pub bad-later : (l : List ℕ) (j : ℕ) (t : List ℕ) → After t → Accept l → FirstBadOf After s j → FirstBadOf (LineThen Accept After) (l ++ s) (suc j)
  bad-later l j t k a b = record {
    before = earlier;
    here = λ g.
        let w = g.kind in
        let e : l ++ first_lines s j ≡ w.line ++ first_lines w.rest j =
        sym (first-line l s j (lines l a)) ∙ (g.same ∙ (ap (λ (x : List ℕ). first_lines x (suc j)) w.joined ∙ first-line w.line w.rest j (lines w.line w.accepted))) in
        b.here (record {
          closed = omega (arith, g.closed, count-line l s (lines l a));
          other = w.rest;
          kind = w.after;
          same = same_rest l w.line (first_lines s j) (first_lines w.rest j) (lines l a) (lines w.line w.accepted) e;
        });
    unlike = λ w. b.unlike (rw (same_rest l w.line s w.rest (lines l a) (lines w.line w.accepted) w.joined) w.after);
  }
    where
      earlier : (i : ℕ) → i < suc j → StartsLike (LineThen Accept After) (l ++ s) i
      earlier zero h = starts_none (LineThen Accept After) (l ++ s) (l ++ t) (record { line = l; rest = t; accepted = a; after = k; joined = refl })
      earlier (suc i) h = let g = b.before i (omega arith) in record {
        closed = omega (arith, g.closed, count-line l s (lines l a));
        other = l ++ g.other;
        kind = record { line = l; rest = g.other; accepted = a; after = g.kind; joined = refl };
        same = first-line l s i (lines l a) ∙ (ap (λ (x : List ℕ). l ++ x) g.same ∙ sym (first-line l g.other i (lines l a)));
      }

-- ---- the same where the text may also be empty
abbrev pub OrEmpty : (List ℕ → Type 0) → List ℕ → Type 0
OrEmpty Kind t = (t ≡ []) ⊎ Kind t

not-empty : (b : ℕ) (bs : List ℕ) → b ∷ bs ≡ [] → ⊥
not-empty b bs e = omega (arith, ap length e)

pub bad-unless-empty : (Kind : List ℕ → Type 0) (b : ℕ) (bs : List ℕ) (j : ℕ) (t : List ℕ) → Kind t → FirstBadOf Kind (b ∷ bs) j → FirstBadOf (OrEmpty Kind) (b ∷ bs) j
bad-unless-empty Kind b bs j t k f = record {
  before = λ i h. let g = f.before i h in record { closed = g.closed; other = g.other; kind = inr g.kind; same = g.same };
  here = λ g. none j g.other g.same g.closed f.here g.kind;
  unlike = ⊎_elim (not-empty b bs) f.unlike;
}
  where
    none : (i : ℕ) (o : List ℕ) → first_lines (b ∷ bs) i ≡ first_lines o i → i ≤ line_count (b ∷ bs) → (StartsLike Kind (b ∷ bs) i → ⊥) → OrEmpty Kind o → ⊥
    none zero o e c no_start w = no_start (starts_none Kind (b ∷ bs) t k)
    none (suc i) o e c no_start (inl z) = omega (arith, ap length (rw z at e))
    none (suc i) o e c no_start (inr w) = no_start (record { closed = c; other = o; kind = w; same = e })

-- nothing may follow
pub bad-at-end : (Kind : List ℕ → Type 0) (b : ℕ) (bs : List ℕ) → ((t : List ℕ) → Kind t → t ≡ []) → Kind [] → FirstBadOf Kind (b ∷ bs) 1
bad-at-end Kind b bs only k = record {
  before = zeroth;
  here = λ g. omega (arith, ap length (rw (only g.other g.kind) at g.same));
  unlike = λ w. not-empty b bs (only (b ∷ bs) w);
}
  where
    zeroth : (i : ℕ) → i < 1 → StartsLike Kind (b ∷ bs) i
    zeroth zero h = starts_none Kind (b ∷ bs) [] k
    zeroth (suc i) h = absurd (omega arith)
