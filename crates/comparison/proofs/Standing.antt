-- How the order of plans comes out: of two plans the first precedes, or the second does, or their cells are the same.
use mathlib.Core.Path.{◌≡◌}
use mathlib.Core.List.{List}
use mathlib.Core.Logic.{by_cases}
use Prim.Native.Nat.{ℕ, zero, suc, ◌+◌, ◌≤◌, ◌<◌}
use native.Mathlib.Decide.{ℕ_discrete, dec_lt}
use native.Mathlib.Omega.{arith}
use borrow.Author.Tests.{lt-ltb, le-ltb}
use Rattle.duality.specs.Lists.{cells}
use Rattle.supply.specs.declared.record.Board.{Board}
use Rattle.matching.specs.Plans.{weight_on}
use Rattle.std.specs.declared.cmp.Ordering.{Ordering}
use Rattle.std.specs.declared.cmp.Ordering.TheVariants.{Less, Equal, Greater}
use Rattle.comparison.specs.Compare.{smaller_first, cells_order, order_of}
use Rattle.comparison.specs.OrderLaws.{Precedes, SameCells}

-- ---- The smaller number first

module _ (x y : ℕ) (rest : Ordering) where
  pub first-smaller : x < y → Less ≡ smaller_first x y rest
  unfolding smaller_first
  first-smaller l = rw (lt-ltb x y l)

  pub second-smaller : y < x → Greater ≡ smaller_first x y rest
  unfolding smaller_first
  second-smaller l = let f : y ≤ x = omega arith in rw (le-ltb x y f, lt-ltb y x l)

  pub equal-numbers : y ≤ x → x ≤ y → rest ≡ smaller_first x y rest
  unfolding smaller_first
  equal-numbers f g = rw (le-ltb x y f, le-ltb y x g)

  smaller-cases : (P : Ordering → Type 0) → (x < y → P Less) → (y < x → P Greater) → (x ≡ y → P rest) → P (smaller_first x y rest)
  smaller-cases P a b c =
      by_cases (dec_lt x y)
      (λ l. rw (← first-smaller l) (a l))
      (λ f. by_cases (dec_lt y x)
      (λ l. rw (← second-smaller l) (b l))
      (λ g. rw (← equal-numbers (omega arith) (omega arith)) (c (omega arith))))

-- ---- Cells

module _ (first second : ℕ → ℕ) where
  data CellsStand (i n : ℕ) : Ordering → Type 0 where
    before : (j : ℕ) → i ≤ j → j < i + n → ((h : ℕ) → i ≤ h → h < j → first h ≡ second h) → first j < second j → CellsStand i n Less
    behind : (j : ℕ) → i ≤ j → j < i + n → ((h : ℕ) → i ≤ h → h < j → second h ≡ first h) → second j < first j → CellsStand i n Greater
    alike : ((h : ℕ) → i ≤ h → h < i + n → first h ≡ second h) → CellsStand i n Equal

  cells-next : (i n : ℕ) {o : Ordering} → first i ≡ second i → CellsStand (suc i) n o → CellsStand i (suc n) o
  cells-next i n e (before j l m p s) =
      before j (omega arith) (omega arith) (λ h lh mh. by_cases (ℕ_discrete h i) (λ (q : h ≡ i). rw q e) (λ ne. p h (omega arith) mh)) s
  cells-next i n e (behind j l m p s) =
      behind j (omega arith) (omega arith) (λ h lh mh. by_cases (ℕ_discrete h i) (λ (q : h ≡ i). let f : second i ≡ first i = omega arith in rw q f) (λ ne. p h (omega arith) mh)) s
  cells-next i n e (alike p) =
      alike (λ h lh mh. by_cases (ℕ_discrete h i) (λ (q : h ≡ i). rw q e) (λ ne. p h (omega arith) (omega arith)))

  cells-stand : (i n : ℕ) → CellsStand i n (cells_order first second i n)
  unfolding cells_order
  cells-stand i zero = alike (λ h l m. absurd (omega arith))
  cells-stand i (suc n) =
      smaller-cases (first i) (second i) (cells_order first second (suc i) n) (CellsStand i (suc n))
      (λ l. before i (omega arith) (omega arith) (λ h lh mh. absurd (omega arith)) l)
      (λ l. behind i (omega arith) (omega arith) (λ h lh mh. absurd (omega arith)) l)
      (λ e. cells-next i n e (cells-stand (suc i) n))

-- ---- Plans

pub data Stands (b : Board) (first second : List ℕ) : Ordering → Type 0 where
  before : Precedes b first second → Stands b first second Less
  behind : Precedes b second first → Stands b first second Greater
  alike : SameCells b first second → Stands b first second Equal

pub stands : (b : Board) (first second : List ℕ) → Stands b first second (order_of b first second)
stands b first second =
    smaller-cases (weight_on b second) (weight_on b first) (cells_order (cells first) (cells second) 0 b.market.arrived) (Stands b first second)
    (λ l. Stands.before (Precedes.heavier l))
    (λ l. Stands.behind (Precedes.heavier l))
    (λ e. by-cells e (cells-stand (cells first) (cells second) 0 b.market.arrived))
  where
    by-cells : {o : Ordering} → weight_on b second ≡ weight_on b first → CellsStand (cells first) (cells second) 0 b.market.arrived o → Stands b first second o
    by-cells e (CellsStand.before j l m p s) = Stands.before (Precedes.smaller j (omega arith) (omega arith) (λ h k. p h (omega arith) k) s)
    by-cells e (CellsStand.behind j l m p s) = Stands.behind (Precedes.smaller j (omega arith) e (λ h k. p h (omega arith) k) s)
    by-cells e (CellsStand.alike p) = Stands.alike (λ i k. p i (omega arith) (omega arith))
