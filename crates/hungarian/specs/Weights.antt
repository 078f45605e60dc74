-- The matrix of weights, as the solver is lent it.
use Rattle.std.specs.Prelude.{List, ℕ, ◌+◌, ◌*◌, ◌≤◌, get_or}
use Rattle.board.specs.Limits.{max_items, max_weight}

-- The weight of the edge that joins bidder i + 1 to item k + 1, and 0 where there is no edge
abbrev pub matrix_at : List ℕ → ℕ → ℕ → ℕ
matrix_at weights i k = get_or weights (i * max_items + k) 0

-- No weight is above the limit
abbrev pub Light : List ℕ → Type 0
Light weights = (c : ℕ) → get_or weights c 0 ≤ max_weight
