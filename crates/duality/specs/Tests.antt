-- The tests of a matching and of a cover.
use Rattle.std.specs.Prelude.{Bool, true, not, ◌&&◌, ℕ, zero, suc, ◌+◌, ◌*◌, eqb, ltb, leb}
use Rattle.duality.specs.Decide.{all_below}

-- No bidder before i has item k + 1
unfoldable pub fresh_test : (ℕ → ℕ) → ℕ → ℕ → Bool
fresh_test matching i k = all_below i (λ h. not (eqb (matching h) (suc k)))

-- Bidder i + 1's cell: 0, or an item with an edge to it that no earlier bidder has
unfoldable pub cell_test : ℕ → (ℕ → ℕ → ℕ) → (ℕ → ℕ) → ℕ → ℕ → Bool
cell_test m w matching i zero = true
cell_test m w matching i (suc k) = ltb k m && (ltb 0 (w i k) && fresh_test matching i k)

unfoldable pub matching_test : ℕ → ℕ → (ℕ → ℕ → ℕ) → (ℕ → ℕ) → Bool
matching_test n m w matching = all_below n (λ i. cell_test m w matching i (matching i))

unfoldable pub covers_test : ℕ → ℕ → (ℕ → ℕ → ℕ) → ℕ → (ℕ → ℕ) → (ℕ → ℕ) → Bool
covers_test n m w c price gain = all_below n (λ i. all_below m (λ k. leb (c * w i k) (gain i + price k)))
