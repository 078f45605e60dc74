-- Finite sums, and a function that is changed at one place.
use Rattle.std.specs.Prelude.{ℕ, zero, suc, ◌+◌}

-- f 0 + .. + f (n - 1)
abbrev pub sum_to : ℕ → (ℕ → ℕ) → ℕ
sum_to zero f = 0
sum_to (suc n) f = sum_to n f + f n

-- f, but v at i
abbrev pub upd : ℕ → ℕ → (ℕ → ℕ) → ℕ → ℕ
upd zero v f zero = v
upd zero v f (suc j) = f (suc j)
upd (suc i) v f zero = f zero
upd (suc i) v f (suc j) = upd i v (λ x. f (suc x)) j
