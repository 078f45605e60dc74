-- A cover at a power of 2 rounds to a cover in whole numbers, of no greater total for its factor.
use mathlib.Core.Path.{◌≡◌, refl}
use mathlib.Core.Logic.{by_cases}
use Prim.Native.Nat.{ℕ, zero, suc, ◌+◌, ◌*◌, ◌/◌, ◌^◌, ◌<◌}
use native.Mathlib.Nat.{two-pow-succ, add-mul, one-mul}
use native.Mathlib.Decide.{dec_lt}
use native.Mathlib.Omega.{arith}
use Rattle.duality.specs.Sums.{sum_to}
use Rattle.duality.specs.Cover.{Covers, total}

-- Half of each number, rounded down or up
abbrev down : (ℕ → ℕ) → ℕ → ℕ
down f i = f i / 2

abbrev up : (ℕ → ℕ) → ℕ → ℕ
up f i = (f i + 1) / 2

halves : (n : ℕ) (f : ℕ → ℕ) → sum_to n (down f) + sum_to n (up f) ≡ sum_to n f
halves zero f = refl
halves (suc n) f = omega (arith, halves n f)

module _ (n m : ℕ) (w : ℕ → ℕ → ℕ) where
  -- A cover at c of a total below t
  abbrev pub Below : ℕ → ℕ → Type 0
  Below c t = (price : ℕ → ℕ) × (gain : ℕ → ℕ) × Covers n m w c price gain × (total n m price gain < t)

  -- Round the prices down and the gains up, or the prices up and the gains down: both cover, and their totals add up to the total
  halved : (c t : ℕ) → Below (c + c) (t + t) → Below c t
  halved c t (price, gain, covers, below) =
      by_cases (dec_lt (total n m (down price) (up gain)) t)
      (λ l. (down price, up gain, λ i k li lk hw. omega (arith, covers i k li lk hw), l))
      (λ g. (up price, down gain, λ i k li lk hw. omega (arith, covers i k li lk hw), omega (arith, halves m price, halves n gain)))

  pub rounded : (r t : ℕ) → Below (2 ^ r) (2 ^ r * t) → Below 1 t
  rounded zero t b = rw one-mul at b
  rounded (suc r) t b = rounded r t (halved (2 ^ r) (2 ^ r * t) (rw (two-pow-succ, add-mul (2 ^ r) (2 ^ r) t) at b))
