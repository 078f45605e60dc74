-- Tightness turned round: a matching and a whole-number cover with equal totals are tight at 1.
use mathlib.Core.Path.{◌≡◌}
use mathlib.Core.Logic.{by_cases}
use Prim.Native.Nat.{ℕ, ◌+◌, ◌≤◌, ◌<◌}
use native.Mathlib.Decide.{dec_lt}
use native.Mathlib.Omega.{arith}
use Rattle.duality.specs.Sums.{sum_to}
use Rattle.duality.specs.Matching.{at_cell}
use Rattle.duality.specs.ComplementarySlackness.{ComplementarySlackness}
use Rattle.duality.proofs.Sums.{sum_to-le, sum_to-lt, sum_to-add}
use Rattle.duality.proofs.HeldPrices.{held-le, unheld-zero}
use Rattle.duality.proofs.WeakDuality.{cell-covered}

pub complementary-slackness : ComplementarySlackness
complementary-slackness n m w matching price gain e =
    record {
      placed = λ i k l h. omega (arith, rw h at (same i l));
      unplaced = λ i l h. omega (arith, rw h at (same i l));
      unheld = λ k l u. omega (arith, unheld-zero n m w matching price e.matches (omega (arith, e.same, add, sum_to-le n weight dual covered)) k l u);
    }
  where
    weight : ℕ → ℕ
    weight i = at_cell (w i) (matching i)

    dual : ℕ → ℕ
    dual i = gain i + at_cell price (matching i)

    add : sum_to n dual ≡ sum_to n gain + sum_to n (λ i. at_cell price (matching i))
    add = sum_to-add n gain (λ i. at_cell price (matching i))

    covered : (i : ℕ) → i < n → weight i ≤ dual i
    covered i l = omega (arith, cell-covered n m w 1 matching price gain e.matches e.covers i l)

    same : (i : ℕ) → i < n → weight i ≡ dual i
    same i l =
        by_cases (dec_lt (weight i) (dual i))
        (λ s. absurd (omega (arith, e.same, add, held-le n m w matching price e.matches, sum_to-lt n i weight dual covered l s)))
        (λ s. omega (arith, covered i l))
