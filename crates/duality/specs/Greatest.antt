-- The greatest weight of a matching, as a plain count.
use Rattle.std.specs.Prelude.{ℕ, zero, suc, ◌+◌, max}
use Rattle.duality.specs.Sums.{upd}

-- The greatest of x and of f 0 .. f (m - 1)
abbrev pub greatest_of : ℕ → ℕ → (ℕ → ℕ) → ℕ
greatest_of x zero f = x
greatest_of x (suc m) f = max (greatest_of x m f) (f m)

-- "tries every free kettle and none for the first batch, then does likewise for the rest". The first bidder's row is w 0, the rest have
-- the rows after it. An item that the first bidder takes is no longer free: its column is 0 for the rest. Where there is no edge, trying
-- the item counts 0, which is never more than none.
abbrev pub greatest_weight : ℕ → ℕ → (ℕ → ℕ → ℕ) → ℕ
greatest_weight zero m w = 0
greatest_weight (suc n) m w =
    greatest_of
    (greatest_weight n m (λ i. w (suc i)))
    m
    (λ k. w 0 k + greatest_weight n m (λ i. upd k 0 (w (suc i))))
