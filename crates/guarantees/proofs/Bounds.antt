-- Prices and gains that are tight at 1 are at most the greatest weight of an edge; and lists cut to length.
use mathlib.Core.Path.{◌≡◌, refl}
use mathlib.Core.List.{List}
use mathlib.Core.Logic.{by_cases}
use Prim.Native.Nat.{ℕ, zero, suc, ◌≤◌, ◌<◌}
use native.Mathlib.Decide.{ℕ_discrete}
use native.Mathlib.Omega.{arith}
use lib.ListN.{take}
use lib.Seq.{get_or-take}
use Rattle.duality.specs.Lists.{cells}
use Rattle.duality.specs.Cover.{Tight}

pub data Held (n : ℕ) (f : ℕ → ℕ) (k : ℕ) : Type 0 where
  by : (i : ℕ) → i < n → f i ≡ suc k → Held n f k
  nobody : ((i : ℕ) → i < n → f i ≡ suc k → ⊥) → Held n f k

pub held : (n : ℕ) (f : ℕ → ℕ) (k : ℕ) → Held n f k
held zero f k = Held.nobody (λ i l. absurd (omega arith))
held (suc n) f k = go (held n f k)
  where
    go : Held n f k → Held (suc n) f k
    go (Held.by i l e) = Held.by i (omega arith) e
    go (Held.nobody alone) =
        by_cases (ℕ_discrete (f n) (suc k))
        (λ e. Held.by n (omega arith) e)
        (λ ne. Held.nobody (λ i l e. by_cases (ℕ_discrete i n) (λ (x : i ≡ n). ne (rw x at e)) (λ nx. alone i (omega arith) e)))

module _ {n m : ℕ} {w : ℕ → ℕ → ℕ} {matching price gain : ℕ → ℕ} (t : Tight n m w 1 matching price gain) (most : ℕ) (light : (i k : ℕ) → w i k ≤ most) where
  pub price-below : (k : ℕ) → k < m → price k ≤ most
  price-below k l = go (held n matching k)
    where
      go : Held n matching k → price k ≤ most
      go (Held.by i li e) = omega (arith, t.placed i k li e, light i k)
      go (Held.nobody alone) = omega (arith, t.unheld k l alone)

  pub gain-below : (i : ℕ) → i < n → gain i ≤ most
  gain-below i l = go (matching i) refl
    where
      go : (c : ℕ) → matching i ≡ c → gain i ≤ most
      go zero e = omega (arith, t.unplaced i l e)
      go (suc k) e = omega (arith, t.placed i k l e, light i k)

pub cut-cell : (n : ℕ) (l : List ℕ) (i : ℕ) → i < n → cells (take n l) i ≡ cells l i
cut-cell n l i li = get_or-take n l i 0 li
