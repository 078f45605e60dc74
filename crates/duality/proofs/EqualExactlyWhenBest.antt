-- (e) Totals are equal exactly when neither can be bettered.
use mathlib.Core.Path.{◌≡◌, ap₂, ◌∙◌}
use mathlib.Core.List.{List}
use Prim.Native.Nat.{ℕ, ◌+◌}
use native.Mathlib.Omega.{arith}
use lib.ListN.{length}
use Rattle.duality.specs.Cover.{total}
use Rattle.duality.specs.Lists.{cells, sum}
use Rattle.duality.specs.EqualExactlyWhenBest.{EqualExactlyWhenBest, EqualExactlyWhenBestLists}
use Rattle.duality.proofs.WeakDuality.{weak-duality}
use Rattle.duality.proofs.StrongDuality.{strong-duality}
use Rattle.duality.proofs.Agree.{matching-as, weight-as, total-as, covers-as}
use Rattle.duality.proofs.Lists.{sum-cells, tab, length-tab, cells-tab}

pub equal-exactly-when-best : EqualExactlyWhenBest
equal-exactly-when-best n m w matching price gain p covers = (
  λ e. record {
    greatest = λ other o. omega (arith, weak-duality n m w 1 other price gain o covers);
    least = λ y x c. omega (arith, weak-duality n m w 1 matching y x p c);
  },
  λ b. let (other, y, x, e) = strong-duality n m w in
      omega (arith, weak-duality n m w 1 matching price gain p covers, b.greatest other e.matches, b.least y x e.covers, e.same),
)

-- The total of lists of these lengths is what they add up to
pub total-lists : (n m : ℕ) (prices gains : List ℕ) → length prices ≡ m → length gains ≡ n → total n m (cells prices) (cells gains) ≡ sum prices + sum gains
total-lists n m prices gains lp lg = rw (← lp, ← lg) (ap₂ ◌+◌ (sum-cells prices) (sum-cells gains))

pub equal-exactly-when-best-lists : EqualExactlyWhenBestLists
equal-exactly-when-best-lists n m w matching prices gains lm lp lg p covers =
    let same = total-lists n m prices gains lp lg in
    let exactly = equal-exactly-when-best n m w (cells matching) (cells prices) (cells gains) p covers in (
      λ e. let b = exactly.0 (omega (arith, same)) in record {
        greatest = λ other l o. omega (arith, b.greatest (cells other) o);
        least = λ ys xs ly lx c. omega (arith, b.least (cells ys) (cells xs) c, total-lists n m ys xs ly lx);
      },
      λ b. exactly.1 (record {
        greatest = λ f o. omega (arith, b.greatest (tab n f) (length-tab n f) (matching-as (cells-tab n f) o), weight-as n w f (cells (tab n f)) (cells-tab n f));
        least = λ y x c. let ys = tab m y in let xs = tab n x in omega (
          arith,
          b.least ys xs (length-tab m y) (length-tab n x) (covers-as n m w 1 y (cells ys) x (cells xs) (cells-tab m y) (cells-tab n x) c),
          total-lists n m ys xs (length-tab m y) (length-tab n x),
          total-as n m y (cells ys) x (cells xs) (cells-tab m y) (cells-tab n x),
        );
      }) ∙ same,
    )
