-- How the code reads a board in the soundness test comes to the same as the test.
use mathlib.Core.Path.{◌≡◌, refl, sym, ap, ◌∙◌}
use mathlib.Core.Bool.{Bool, true, false, cond}
use mathlib.Core.Logic.{by_cases}
use mathlib.Core.List.{List}
use Prim.Native.Nat.{ℕ, zero, suc, ◌+◌, ◌-◌, ◌*◌, ◌/◌, ◌%◌, ◌≤◌, ◌<◌}
use native.Mathlib.Nat.{mul-le-mul, mul-zero}
use native.Mathlib.Decide.{dec_lt}
use native.Mathlib.Omega.{arith}
use lib.ListN.{get_or}
use lib.Dec.{eqb, ltb}
use borrow.Author.Tests.{ne_eqb}
use Rattle.board.proofs.Filed.{row-cell}
use Rattle.duality.specs.Decide.{Decides}
use Rattle.duality.proofs.Decide.{le-decides, eq-decides, true-decides, and-decides, all-decides, from-decides, reword, clash}
use Rattle.board.specs.declared.record.Auction.{Auction}
use Rattle.board.specs.declared.units.Scaled.{Scaled}
use Rattle.board.specs.Limits.{max_items, max_bidders, max_weight, max_q}
use Rattle.board.specs.Cells.{scaled_at, flag_at, price_at, gain_at, withdrawn_at, weight_at}
use Rattle.board.specs.Live.{matching_of}
use Rattle.board.specs.SoundTest.{limit_at, used_by, row_test, pair_test, place_test}
use Rattle.board.specs.SoundPass.{max_need, lack_of, room_of, LimitsOf, LacksOf, Bounded, need_test, needs_test, empty_test, rows_test}
use Rattle.board.proofs.SoundTests.{limit-past, used-arrived, used-absent, EdgeHolds, EdgeAt, row-decides}

-- An edge as the code tests it
pub record CellHolds (c limit lack room w : ℕ) : Type 0 where
  pub light : w ≤ limit
  pub covered : c * w + lack ≤ room

pub need-decides : (c limit lack room w : ℕ) → Decides (need_test c limit lack room w) (CellHolds c limit lack room w)
unfolding need_test
need-decides c limit lack room w =
    reword
    (and-decides (le-decides w limit) (le-decides (c * w + lack) room))
    (λ h. record { light = h.0; covered = h.1 })
    (λ h. (h.light, h.covered))

pub needs-decide : (c : ℕ) (weights : List ℕ) (from : ℕ) (limit lack : List ℕ) (room : ℕ) → Decides (needs_test c weights from limit lack room)
    ((k : ℕ) → k < max_items → CellHolds c (get_or limit k 0) (get_or lack k 0) room (get_or weights (from + k) 0))
unfolding needs_test
needs-decide c weights from limit lack room =
    all-decides max_items _ _ (λ k. need-decides c (get_or limit k 0) (get_or lack k 0) room (get_or weights (from + k) 0))

pub empty-decides : (weights : List ℕ) (from : ℕ) → Decides (empty_test weights from) ((k : ℕ) → from ≤ k → k < max_bidders * max_items → get_or weights k 0 ≡ 0)
unfolding empty_test
empty-decides weights from = from-decides from (max_bidders * max_items) _ _ (λ k. eq-decides (get_or weights k 0) 0)

-- The rows, part by part
pub rows-parts : (c : ℕ) (weights limit lack : List ℕ) (gain : List Scaled) (arrived : ℕ) → Decides (rows_test c weights limit lack gain arrived)
    ((empty_test weights (arrived * max_items) ≡ true) ×
    ((i : ℕ) → i < arrived → needs_test c weights (i * max_items) limit lack (room_of (scaled_at gain i)) ≡ true))
unfolding rows_test
rows-parts c weights limit lack gain arrived = and-decides (true-decides _) (all-decides arrived _ _ (λ i. true-decides _))

-- An edge within limits needs no more than the most
pub need-within : (c w : ℕ) → c ≤ max_q → w ≤ max_weight → c * w ≤ max_need
need-within c w hc hw = mul-le-mul {m₂ = max_weight} hc hw

-- A limit and a lack are bounded
pub limit-within : (used k : ℕ) → limit_at used k ≤ max_weight
limit-within used k = go (ltb k used)
  where
    go : (t : Bool) → cond t max_weight 0 ≤ max_weight
    go true = omega arith
    go false = omega arith

pub lack-within : (y : ℕ) (withdrawn : Bool) → lack_of y withdrawn ≤ max_need
lack-within y true = omega arith
lack-within y false = omega arith

-- Need and lack are within the room exactly when the edge is covered
module _ (c limit y g w : ℕ) (factor : c ≤ max_q) (low : limit ≤ max_weight) where
  cell-edge : (withdrawn : Bool) → CellHolds c limit (lack_of y withdrawn) (room_of g) w → EdgeHolds c limit y withdrawn g w
  cell-edge true h = record { light = h.light; covered = λ e. absurd (clash true refl e) }
  cell-edge false h = record { light = h.light; covered = λ e. omega (arith, need-within c w factor (omega (arith, h.light)), h.covered) }

  edge-cell : (withdrawn : Bool) → EdgeHolds c limit y withdrawn g w → CellHolds c limit (lack_of y withdrawn) (room_of g) w
  edge-cell true h = record { light = h.light; covered = omega (arith, need-within c w factor (omega (arith, h.light))) }
  edge-cell false h = record { light = h.light; covered = omega (arith, need-within c w factor (omega (arith, h.light)), h.covered refl) }

pub bounded : (price : List Scaled) (withdrawn : List ℕ) (items : ℕ) (limit lack : List ℕ) → LimitsOf items limit → LacksOf price withdrawn lack →
    Bounded limit lack
bounded price withdrawn items limit lack most lacks =
    record {
      limits = λ k l. rw (most k l) (limit-within items k);
      lacks = λ k l. rw (lacks k l) (lack-within (scaled_at price k) (flag_at withdrawn k));
    }

-- A board's rows, read with the limits and the lacks of its items
module _ (b : Auction) (limit lack : List ℕ) (most : LimitsOf b.market.items limit) (lacks : LacksOf b.state.price b.market.withdrawn lack)
    (high : b.market.slack.q ≤ max_q) (few : b.market.arrived ≤ max_bidders) where
  abbrev CellAt : ℕ → ℕ → Type 0
  CellAt i k =
      CellHolds (b.market.slack.q - b.market.slack.p) (get_or limit k 0) (get_or lack k 0) (room_of (gain_at b i)) (get_or b.weights (i * max_items + k) 0)

  cell_at : (i : ℕ) → i < b.market.arrived → (k : ℕ) → k < max_items → EdgeAt b i k → CellAt i k
  cell_at i n k l h =
      rw
      (most k l, lacks k l, ← row-cell b.weights i k l)
      (edge-cell _ _ _ _ _ (omega arith) (limit-within b.market.items k) (withdrawn_at b k) (rw (used-arrived b i n) at h))

  edge_at : (i : ℕ) → i < b.market.arrived → (k : ℕ) → k < max_items → CellAt i k → EdgeAt b i k
  edge_at i n k l h =
      rw
      (used-arrived b i n)
      (cell-edge _ _ _ _ _ (omega arith) (limit-within b.market.items k) (withdrawn_at b k) (rw (most k l, lacks k l, ← row-cell b.weights i k l) at h))

  -- A row with no edge, and the edge that it has not
  none-at : (i k : ℕ) → weight_at b i k ≡ 0 → EdgeAt b i k
  none-at i k z = record { light = omega arith; covered = λ e. rw (z, mul-zero) (omega arith) }

  absent-at : (i k : ℕ) → b.market.arrived ≤ i → EdgeAt b i k → weight_at b i k ≡ 0
  absent-at i k n h = omega (arith, h.light, limit-past (used_by b i) k (rw (used-absent b i n) (omega arith)))

  abbrev Tests : Type 0
  Tests = (i : ℕ) → i < max_bidders → row_test b i ≡ true

  -- Every cell from the last row on is a cell of some later row
  spare : Tests → (j : ℕ) → b.market.arrived * max_items ≤ j → j < max_bidders * max_items → get_or b.weights j 0 ≡ 0
  spare h j low top =
      let i = j / max_items in
      let k = j % max_items in
      let l : k < max_items = omega arith in
      let e : i * max_items + k ≡ j = omega arith in
      rw e at (sym (row-cell b.weights i k l) ∙ absent-at i k (omega arith) ((row-decides b i).sound (h i (omega arith)) k l))

  pub rows-decide : Decides (rows_test (b.market.slack.q - b.market.slack.p) b.weights limit lack b.state.gain b.market.arrived) Tests
  unfolding rows_test
  rows-decide =
      reword
      (and-decides
      (empty-decides b.weights (b.market.arrived * max_items))
      (all-decides b.market.arrived _ _ (λ i. needs-decide _ b.weights (i * max_items) limit lack (room_of (gain_at b i)))))
      (λ h i n. (row-decides b i).complete (λ k l. by_cases
      (dec_lt i b.market.arrived)
      (λ a. edge_at i a k l (h.1 i a k l))
      (λ a. none-at i k (row-cell b.weights i k l ∙ h.0 (i * max_items + k) (omega arith) (omega arith)))))
      (λ h. (
        λ j low top. spare h j low top,
        λ i a k l. cell_at i a k l ((row-decides b i).sound (h i (omega arith)) k l),
      ))

-- A bidder's place, by the cell that the code has for it
module _ (b : Auction) (i k w : ℕ) where
  place-cell : (c : ℕ) → k ≡ c - 1 → w ≡ weight_at b i k →
      cond (eqb c 0) (eqb (gain_at b i) 0) (pair_test (b.market.slack.q + b.market.slack.p) w (price_at b k) (withdrawn_at b k) (gain_at b i)) ≡ place_test b i c
  unfolding place_test
  place-cell zero below weight = refl
  place-cell (suc j) below weight = let e : k ≡ j = omega arith in rw (ne_eqb (suc j) 0 (λ z. omega arith), weight, e)

  pub place_read : (c : ℕ) → c ≡ matching_of b i → k ≡ c - 1 → w ≡ weight_at b i k →
      cond (eqb c 0) (eqb (gain_at b i) 0) (pair_test (b.market.slack.q + b.market.slack.p) w (price_at b k) (withdrawn_at b k) (gain_at b i))
      ≡ place_test b i (matching_of b i)
  place_read c e below weight = place-cell c below weight ∙ ap (place_test b i) e
