-- Tightness turned round.
use Rattle.std.specs.Prelude.{ℕ}
use Rattle.duality.specs.Cover.{Tight}
use Rattle.duality.specs.StrongDuality.{Equal}

-- A matching and a whole-number cover with equal totals are tight at 1
abbrev pub ComplementarySlackness : Type 0
ComplementarySlackness = (n m : ℕ) (w : ℕ → ℕ → ℕ) (matching price gain : ℕ → ℕ) → Equal n m w matching price gain → Tight n m w 1 matching price gain
