-- The checks of the cells of a list, one cell after the other.
use Rattle.std.specs.Prelude.{Bool, not, List, [], ◌∷◌, ◌++◌, ℕ, zero, suc}
use Rattle.refusals.specs.declared.Refusal.{Refusal}
use Rattle.refusals.specs.Codes.{Code, code}
use Rattle.refusals.specs.Demand1.{Check, check_for}

-- "entry by entry", "kettle by kettle": the checks of n cells of a list, from cell i on; all of a cell's before the next cell's
unfoldable pub each_checks : (ℕ → List Check) → ℕ → ℕ → List Check
each_checks checks i zero = []
each_checks checks i (suc n) = checks i ++ each_checks checks (suc i) n

-- A cell of which one thing is asked, and "lowest place first": n such cells, the refusal of each where its test fails
abbrev pub cell_check : (ℕ → Refusal) → (ℕ → Bool) → ℕ → List Check
cell_check refusal test i = check_for (refusal i) (not (test i)) ∷ []

abbrev pub cell_checks : (ℕ → Refusal) → (ℕ → Bool) → ℕ → List Check
cell_checks refusal test n = each_checks (cell_check refusal test) 0 n

-- One number at n places, from place i on
abbrev pub places_of : ℕ → ℕ → ℕ → List Code
places_of number i zero = []
places_of number i (suc n) = code number i ∷ places_of number (suc i) n
