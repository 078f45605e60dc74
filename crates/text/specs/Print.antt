-- Numbers and lines as bytes, and what writing them to a list leaves. Assumes nothing.
use Rattle.std.specs.Prelude.{◌≡◌, ℕ, zero, suc, ◌+◌, ◌/◌, ◌%◌, true, false, List, [], ◌∷◌, ◌++◌, length, ltb}
use Rattle.std.proofs.lemmas.List.Edits.{sets}
use Rattle.text.specs.Bytes.{tab, newline}

-- the decimal digits of n, the most significant first, at most fuel of them
abbrev pub decimal_from : ℕ → ℕ → List ℕ
decimal_from zero n = []
decimal_from (suc fuel) n = elim (ltb n 10) [ true ↦ (48 + n) ∷ [] | false ↦ decimal_from fuel (n / 10) ++ ((48 + n % 10) ∷ []) ]

-- the decimal digits of n, with no leading zero: at most n + 1 of them
unfoldable pub decimal : ℕ → List ℕ
decimal n = decimal_from (suc n) n

-- "tabbed fields": each number after a tab
abbrev pub tabbed : List ℕ → List ℕ
tabbed [] = []
tabbed (n ∷ ns) = (tab ∷ decimal n) ++ tabbed ns

-- a line "of the same kind but with numbers of any length"
abbrev pub line_of : ℕ → List ℕ → List ℕ
line_of letter ns = (letter ∷ tabbed ns) ++ (newline ∷ [])

-- `bytes` stand from `at` on, as far as the list goes, and `next` is the position after them
pub record Put (before : List ℕ) (after : List ℕ) (at : ℕ) (bytes : List ℕ) (next : ℕ) : Type 0 where
  pub wrote : after ≡ sets before at bytes
  pub moved : next ≡ at + length bytes
