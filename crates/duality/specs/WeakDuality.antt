-- (a) Weak duality.
use Rattle.std.specs.Prelude.{ℕ, ◌*◌, ◌≤◌}
use Rattle.duality.specs.Matching.{IsMatching, weight_of}
use Rattle.duality.specs.Cover.{Covers, total}

-- No matching weighs more, c times, than a cover at c totals
abbrev pub WeakDuality : Type 0
WeakDuality =
    (n m : ℕ) (w : ℕ → ℕ → ℕ) (c : ℕ) (matching price gain : ℕ → ℕ) →
    IsMatching n m w matching → Covers n m w c price gain → c * weight_of n w matching ≤ total n m price gain
