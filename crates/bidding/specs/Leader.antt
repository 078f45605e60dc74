-- The best of the edges looked at, as step 2 of a bid keeps it: its item, weight and utility, and a bar. An edge whose utility is not above the bar changes
-- nothing. The bar is the second utility less 1, and 0 while there is no second. Every edge that is offered has a utility of 2 or more.
use Rattle.std.specs.Prelude.{◌≡◌, Option, Some, None, cond, List, ℕ, ◌+◌, ◌-◌, ◌*◌, ◌≤◌, ◌<◌, eqb}
use Rattle.duality.specs.Lists.{cells}
use Rattle.duality.specs.Steps.{utility}
use Rattle.board.specs.declared.units.Pence.{Pence}
use Rattle.board.specs.declared.units.Scaled.{Scaled}
use Rattle.board.specs.Limits.{max_q, word_limit}
use Rattle.board.specs.Cells.{scaled}
use Rattle.bidding.specs.declared.rule.Best.{Best}
use Rattle.bidding.specs.Rule.{best_edge}

-- The second utility that a bar stands for
abbrev pub second_in : ℕ → ℕ
second_in bar = cond (eqb bar 0) 0 (bar + 1)

-- The edge that it is: none while there is no weight
abbrev pub edge_of : ℕ → Pence → Scaled → ℕ → Option Best
edge_of k w u bar = cond (eqb w.0 0) None (Some (best_edge k w u (scaled (second_in bar))))

-- While there is no weight the utility is 1 and the bar 0; afterwards the utility is 2 or more. The bar is below the utility, and all fits
pub record LeaderFits (w u bar : ℕ) : Type 0 where
  pub low : w ≡ 0 → (u ≡ 1) × (bar ≡ 0)
  pub led : 0 < w → 1 < u
  pub under : bar < u
  pub fits : u ≤ max_q * word_limit

-- The leader's own utility in pence, rounded up, and that of the second, 1 while there is none: what rounds up to less than `least` is not above the bar
pub record Rounds (q u bar own least : ℕ) : Type 0 where
  pub leads : q * (own - 1) < u
  pub behind : q * (least - 1) ≤ bar
  pub some : 0 < own
  pub more : 0 < least

-- What step 1 leaves of an edge: no weight, or a utility of 2 or more, since an open edge has more than p × w
abbrev pub Offered : ℕ → ℕ → ℕ → Type 0
Offered q w y = 0 < w → y + 1 < q * w

-- Step 1 leaves it as a rate t beside the weight: 0 where the edge is not open, else its utility in pence, rounded up
pub record Rated (q t w y : ℕ) : Type 0 where
  pub offered : y + 1 < q * w
  pub above : q * (t - 1) < utility q w y
  pub within : utility q w y ≤ q * t

-- So it is where it is not 0, and it is what is left of the weight over x, the price in whole pence
abbrev pub Rates : ℕ → ℕ → ℕ → ℕ → ℕ → Type 0
Rates q t w y x = 0 < t → Rated q t w y × (t ≡ w - x)

-- The weight that the rate stands for
abbrev pub rated_weight : ℕ → ℕ → ℕ
rated_weight t w = cond (eqb t 0) 0 w

-- So of a row and its rates
abbrev pub rated_in : List ℕ → List ℕ → ℕ → ℕ
rated_in rates row k = rated_weight (cells rates k) (cells row k)
