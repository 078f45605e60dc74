-- What it means that neither of the refusals 11 and 12 is met.
use Rattle.std.specs.Prelude.{Ok}
use mathlib.Core.Path.{◌≡◌}
use mathlib.Core.Bool.{Bool, true}
use mathlib.Core.Logic.{◌↔◌}
use Prim.Native.Nat.{ℕ, ◌-◌, ◌≤◌, ◌<◌}
use Rattle.duality.specs.Cover.{Covers}
use Rattle.duality.specs.Tests.{covers_test}
use Rattle.duality.proofs.Decide.{agree, le-decides, all-decides}
use Rattle.duality.proofs.TestsDecide.{covers-test-decides}
use Rattle.refusals.specs.Demand1.{first_of}
use Rattle.board.specs.Limits.{max_price}
use Rattle.certificate.specs.Check.{price_test, price_checks, gain_checks, covered_test, bare_checks}
use Rattle.refusals.proofs.Places.{cells-served}
use Rattle.certificate.proofs.Tests.{price-decides}

module _ (n : ℕ) where
  pub price-served : (withdrawn : ℕ → Bool) (prices : ℕ → ℕ) →
      (first_of (price_checks withdrawn prices n) ≡ Ok tt) ↔
      ((k : ℕ) → k < n → (prices k ≤ max_price) × (withdrawn k ≡ true → prices k ≡ 0))
  unfolding price_test
  price-served withdrawn prices = agree (cells-served _ _ n) (all-decides n _ _ (λ k. price-decides (prices k) (withdrawn k)))

  module _ (items : ℕ) where
    pub gain-served : (gains : ℕ → ℕ) → (first_of (gain_checks items gains n) ≡ Ok tt) ↔ ((i : ℕ) → i < n → gains i ≤ max_price)
    gain-served gains = agree (cells-served _ _ n) (all-decides n _ _ (λ i. le-decides (gains i) max_price))

    module _ (w : ℕ → ℕ → ℕ) where
      pub bare-served : (p q : ℕ) (prices gains : ℕ → ℕ) →
          (first_of (bare_checks items w p q prices gains n) ≡ Ok tt) ↔ Covers n items w (q - p) prices gains
      unfolding covers_test covered_test
      bare-served p q prices gains = agree (cells-served _ _ n) (covers-test-decides n items w (q - p) prices gains)
