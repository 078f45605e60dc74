-- Numbers of 32 bits, copied cell by cell.
use mathlib.Core.Path.{◌≡◌}
use mathlib.Core.List.{List}
use Prim.Native.Nat.{ℕ, ◌*◌, ◌≤◌, ◌<◌}
use native.Mathlib.Omega.{arith}
use lib.ListN.{length, get_or, replicate, length-replicate}
use Rattle.duality.specs.Sums.{sum_to}
use Rattle.duality.proofs.Sums.{sum_to-most}
use Rattle.board.specs.Limits.{max_bidders, word_limit}
use Rattle.board.proofs.Filling.{blank}

-- After i cells: these are as they were, and the others are 0
pub record Widened (numbers list : List ℕ) (i : ℕ) : Type 0 where
  pub near : i ≤ length numbers
  pub size : length list ≡ max_bidders
  pub same : (j : ℕ) → j < i → get_or list j 0 ≡ get_or numbers j 0
  pub rest : (j : ℕ) → i ≤ j → get_or list j 0 ≡ 0
  pub small : (j : ℕ) → get_or list j 0 < word_limit

pub widened_none : (numbers : List ℕ) → Widened numbers (replicate max_bidders 0) 0
widened_none numbers =
    record {
      near = omega arith;
      size = length-replicate {A = ℕ} max_bidders 0;
      same = λ j l. absurd (omega arith);
      rest = λ j l. blank {A = ℕ} max_bidders j 0;
      small = λ j. omega (arith, blank {A = ℕ} max_bidders j 0);
    }

-- The sum of so many such numbers
pub widened-sum : (n : ℕ) (f : ℕ → ℕ) → n ≤ max_bidders → ((i : ℕ) → f i < word_limit) → sum_to n f ≤ max_bidders * word_limit
widened-sum n f few small = omega (arith, sum_to-most n word_limit f (λ i l. omega (arith, small i)))
