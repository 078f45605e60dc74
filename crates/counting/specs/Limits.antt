-- How much the slow count takes (the code's constant of src/limits.rt).
use Rattle.std.specs.Prelude.{ℕ}

-- "For up to 6 batches and 6 places"
abbrev pub max_counted : ℕ
max_counted = 6
