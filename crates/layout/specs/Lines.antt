-- The first lines of a text, and the first that no text of a kind has.
use Rattle.std.specs.Prelude.{◌≡◌, ℕ, zero, suc, ◌<◌, ◌≤◌, true, false, List, [], ◌∷◌, eqb}
use Rattle.text.specs.Bytes.{newline}

-- the lines of a text that are closed by byte 10
abbrev pub line_count : List ℕ → ℕ
line_count [] = 0
line_count (b ∷ bs) = elim (eqb b newline) [ true ↦ suc (line_count bs) | false ↦ line_count bs ]

-- the first k lines of a text, each with its byte 10
abbrev pub first_lines : List ℕ → ℕ → List ℕ
first_lines [] k = []
first_lines (b ∷ bs) zero = []
first_lines (b ∷ bs) (suc k) = b ∷ elim (eqb b newline) [ true ↦ first_lines bs k | false ↦ first_lines bs (suc k) ]

-- a text has k lines, and they are the first k of some text of the kind
pub record StartsLike (Kind : List ℕ → Type 0) (s : List ℕ) (k : ℕ) : Type 0 where
  pub closed : k ≤ line_count s
  pub other : List ℕ
  pub kind : Kind other
  pub same : first_lines s k ≡ first_lines other k

-- "at its first bad line (the one after the last, if it stops short)": the lines before j are the first of some text of the
-- kind, those up to j of none, or there is no line j; and the text is not itself of the kind
pub record FirstBadOf (Kind : List ℕ → Type 0) (s : List ℕ) (j : ℕ) : Type 0 where
  pub before : (k : ℕ) → k < j → StartsLike Kind s k
  pub here : StartsLike Kind s j → ⊥
  pub unlike : Kind s → ⊥
