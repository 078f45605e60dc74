-- An accepted list is the new bidder's edges, and chains of bids leave every bidder's edges as they were.
use mathlib.Core.Path.{◌≡◌, refl, ap, ◌∙◌}
use mathlib.Core.Bool.{Bool}
use mathlib.Core.List.{List, [], ◌∷◌, ◌++◌, append-nil}
use Prim.Native.Nat.{ℕ, zero, suc, ◌+◌, ◌-◌, ◌≤◌, ◌<◌}
use native.Mathlib.Nat.{le_refl}
use native.Mathlib.Omega.{arith}
use lib.ListN.{length, get_or, set, take}
use lib.Seq.{get_or-set_same, get_or-set_other, take-suc, take_all}
use borrow.Author.Tests.{eq-eqb, ne_eqb}
use Rattle.board.specs.declared.record.Auction.{Auction}
use Rattle.board.specs.declared.record.Edge.{Edge}
use Rattle.board.specs.Limits.{max_items, max_bidders}
use Rattle.board.specs.Cells.{edge, row_in}
use Rattle.board.specs.Live.{edges_in}
use Rattle.board.proofs.Filling.{blank}
use Rattle.board.proofs.Filed.{other_row}
use Rattle.supply.specs.declared.record.Board.{Board}
use Rattle.supply.specs.declared.record.Items.{Items}
use Rattle.supply.specs.Board.{on_items, start_in}
use Rattle.supply.specs.ByItem.{edges_to, edges_of}
use Rattle.supply.specs.Spread.{spread_row}
use Rattle.supply.specs.Sound.{Sound}
use Rattle.supply.proofs.Spreading.{row-length as spread-length}
use Rattle.bidding.specs.Moves.{entered}
use Rattle.auction.specs.Edges.{item_in, weight_in, row_to}
use Rattle.auction.proofs.EdgesLaw.{EdgesAccepted, edges-items, row-all, row-length, fewer}
use Rattle.auction.proofs.ItemsLaw.{rises}
use Rattle.auction.proofs.Lasting.{first_below, first-owner, joined_on, new-weight}

-- ---- The edges of a row

-- They hang on its cells below m
edges-as : (ws vs : List ℕ) (m : ℕ) → ((k : ℕ) → k < m → get_or ws k 0 ≡ get_or vs k 0) → edges_in ws m ≡ edges_in vs m
unfolding edges_in
edges-as ws vs zero e = refl
edges-as ws vs (suc m) e = rw (edges-as ws vs m (λ k l. e k (omega arith)), e m (omega arith))

-- Cells of 0 add none
edges-bare : (ws : List ℕ) (m d : ℕ) → ((k : ℕ) → m ≤ k → get_or ws k 0 ≡ 0) → edges_in ws (m + d) ≡ edges_in ws m
unfolding edges_in
edges-bare ws m zero e = let z : m + 0 ≡ m = omega arith in rw z
edges-bare ws m (suc d) e =
    let z : m + suc d ≡ suc (m + d) = omega arith in
    rw (z, eq-eqb (get_or ws (m + d) 0) 0 (e (m + d) (omega arith)), append-nil) (edges-bare ws m d e)

-- A weight stored adds its edge, after those below it
edges-stored : (ws : List ℕ) (j w : ℕ) → j < length ws → 1 ≤ w → edges_in (set ws j w) (suc j) ≡ edges_in ws j ++ (edge (suc j) w ∷ [])
unfolding edges_in
edges-stored ws j w l h =
    rw (
      get_or-set_same ws j w 0 l,
      ne_eqb w 0 (λ q. omega arith),
      edges-as (set ws j w) ws j (λ k m. get_or-set_other ws j k w 0 (λ q. omega arith)),
    )

-- ---- The row that accepted edges make has these edges

-- The first n edges
abbrev first_edges : (ℕ → ℕ) → (ℕ → ℕ) → ℕ → List Edge
first_edges item weight zero = []
first_edges item weight (suc n) = first_edges item weight n ++ (edge (item n) (weight n) ∷ [])

module _ {items : ℕ} {withdrawn : ℕ → Bool} {item weight : ℕ → ℕ} (fit : items ≤ max_items) where
  row-edges : (n : ℕ) → EdgesAccepted items withdrawn item weight n → (m : ℕ) → ((i : ℕ) → i < n → item i ≤ m) → edges_in (row_to item weight n) m ≡ first_edges item weight n
  unfolding row_to edges_in
  row-edges zero a m l = let z : 0 + m ≡ m = omega arith in rw (← z) (edges-bare (row_to item weight 0) 0 m (λ k h. blank {A = ℕ} max_items k 0))
  row-edges (suc n) a m l =
      let r = row_to item weight n in
      let j = item n - 1 in
      let known = a.known n (omega arith) in
      let next : suc j ≡ item n = omega (arith, known.low) in
      let d : m ≡ suc j + (m - suc j) = omega (arith, l n (omega arith), known.low) in
      let size : j < length r = omega (arith, row-length item weight n, known.high, known.low) in
      let bare : (k : ℕ) → j ≤ k → get_or r k 0 ≡ 0 = λ k h. row-all item weight (λ k v. j ≤ k → v ≡ 0) n (λ k h. refl)
      (λ i q h. absurd (omega (arith, rises (edges-items a) n (omega arith) i q, (a.known i (omega arith)).low))) k h in
      ap (edges_in (set r j (weight n))) d
      ∙ edges-bare (set r j (weight n)) (suc j) (m - suc j) (λ k h. get_or-set_other r j k (weight n) 0 (λ q. omega arith) ∙ bare k (omega arith))
      ∙ edges-stored r j (weight n) size (a.weighed n (omega arith)).low
      ∙ rw (next, row-edges n (fewer a) j (λ i q. omega (arith, rises (edges-items a) n (omega arith) i q, known.low)))

first-edges : (edges : List Edge) (n : ℕ) → n ≤ length edges → first_edges (item_in edges) (weight_in edges) n ≡ take n edges
first-edges edges zero l = refl
first-edges edges (suc n) l = rw (take-suc edges n (edge 0 0) (omega arith), first-edges edges n (omega arith))

pub accepted-edges : {items : ℕ} {withdrawn : ℕ → Bool} (edges : List Edge) → items ≤ max_items →
    EdgesAccepted items withdrawn (item_in edges) (weight_in edges) (length edges) →
    edges_in (row_to (item_in edges) (weight_in edges) (length edges)) items ≡ edges
accepted-edges {items} edges fit a =
    row-edges fit (length edges) a items (λ i l. (a.known i l).high)
    ∙ first-edges edges (length edges) (le_refl _)
    ∙ take_all (length edges) edges (le_refl _)

-- ---- The board's edges, after each move. They are read by item, at the first place of each

edges-same : (w v : ℕ → ℕ) (m : ℕ) → ((k : ℕ) → k < m → w k ≡ v k) → edges_to w m ≡ edges_to v m
unfolding edges_to
edges-same w v zero e = refl
edges-same w v (suc m) e = rw (edges-same w v m (λ k l. e k (omega arith)), e m (omega arith))

edges-in : (ws : List ℕ) (m : ℕ) → edges_to (λ k. get_or ws k 0) m ≡ edges_in ws m
unfolding edges_to edges_in
edges-in ws zero = refl
edges-in ws (suc m) = rw (edges-in ws m)

-- The new bidder's are those of its row by item
pub entered-edges : (b : Board) → Sound b → (row : List ℕ) → b.market.arrived < max_bidders →
    edges_of (joined_on b row) b.market.arrived ≡ edges_in row b.items.count
entered-edges b h row l =
    edges-same _ _ b.items.count
    (λ k m. new-weight b h row l (start_in b.items k) (first_below b h k m) ∙ ap (λ j. get_or row j 0) (first-owner b h k m))
    ∙ edges-in row b.items.count

pub entered-others : (b : Board) (row : List ℕ) (i : ℕ) → i < b.market.arrived → edges_of (joined_on b row) i ≡ edges_of b i
unfolding entered
entered-others b row i l =
    ap (λ (r : List ℕ). edges_to (λ k. get_or r (start_in b.items k) 0) b.items.count)
    (other_row b.weights (spread_row b.items row) b.market.arrived i (spread-length b.items row) (λ q. omega arith))

-- They hang on the weights alone
pub same_edges : (items : Items) (a c : Auction) → c.weights ≡ a.weights → (h : ℕ) → edges_of (on_items items c) h ≡ edges_of (on_items items a) h
same_edges items a c e h = ap (λ (w : List ℕ). edges_to (λ k. get_or (row_in w h) (start_in items k) 0) items.count) e
