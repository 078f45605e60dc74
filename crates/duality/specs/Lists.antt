-- Lists in the place of functions: a matching, prices and gains as a caller hands them.
use Rattle.std.specs.Prelude.{List, [], ◌∷◌, ℕ, ◌+◌, get_or}

-- The cells of a list, from 0, and 0 past its end
abbrev pub cells : List ℕ → ℕ → ℕ
cells l i = get_or l i 0

-- All the numbers of a list added
abbrev pub sum : List ℕ → ℕ
sum [] = 0
sum (x ∷ xs) = x + sum xs
