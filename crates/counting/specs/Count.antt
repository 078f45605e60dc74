-- The slow count (document 02, R-9), of any numbers of bidders and items: "a count they can follow".
use Rattle.std.specs.Prelude.{ℕ, zero, suc, ◌+◌, ◌-◌, ◌<◌}
use Rattle.duality.specs.Sums.{upd}
use Rattle.duality.specs.Greatest.{greatest_of}

-- n bidders and m items; free k is how many places of item k + 1 are free, and w i k the weight of the edge that joins bidder i + 1 to it, 0 where there
-- is none. The first bidder has the row w 0, the rest have the rows after it.

-- ---- What may be tried: "tries every free kettle and none for the first batch, then does likewise for the rest", and what a trial adds up to

pub data Trial (m : ℕ) : ℕ → (ℕ → ℕ) → (ℕ → ℕ → ℕ) → ℕ → Type 0 where
  -- Nobody is left
  ends : {free : ℕ → ℕ} {w : ℕ → ℕ → ℕ} → Trial m zero free w 0
  -- "none for the first batch": the rest find free what was free
  none : {n : ℕ} {free : ℕ → ℕ} {w : ℕ → ℕ → ℕ} {x : ℕ} → Trial m n free (λ i. w (suc i)) x → Trial m (suc n) free w x
  -- A "free kettle" for it: an item with a free place, of which the rest find one fewer. Where there is no edge this adds 0, which is never more than none
  item : {n : ℕ} {free : ℕ → ℕ} {w : ℕ → ℕ → ℕ} {x : ℕ} (k : ℕ) → k < m → 0 < free k → Trial m n (upd k (free k - 1) free) (λ i. w (suc i)) x →
      Trial m (suc n) free w (w 0 k + x)

-- ---- The greatest of them, computed

-- What trying an item counts: where none of its places is free it is not tried, and counts 0
abbrev pub if_free : ℕ → ℕ → ℕ
if_free zero x = 0
if_free (suc free) x = x

-- The greatest of what is counted with none for the first bidder, and with each free item
abbrev pub count_with : ℕ → ℕ → (ℕ → ℕ) → (ℕ → ℕ → ℕ) → ℕ
count_with zero m free w = 0
count_with (suc n) m free w =
    greatest_of
    (count_with n m free (λ i. w (suc i)))
    m
    (λ k. if_free (free k) (w 0 k + count_with n m (upd k (free k - 1) free) (λ i. w (suc i))))
