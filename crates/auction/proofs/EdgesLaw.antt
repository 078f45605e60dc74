-- What it says that an arrival's edges, or a withdrawal's items, are served; and the row that the edges make.
use Rattle.std.specs.Prelude.{Ok}
use mathlib.Core.Path.{◌≡◌, refl, ap, ◌∙◌}
use mathlib.Core.Bool.{Bool, false}
use mathlib.Core.List.{List, [], ◌∷◌}
use Prim.Native.Nat.{ℕ, zero, suc, ◌-◌, ◌*◌, ◌≤◌, ◌<◌}
use native.Mathlib.Nat.{le_refl, mul-zero, mul-one}
use native.Mathlib.Omega.{arith}
use lib.ListN.{length, get_or, set, length-set}
use lib.Seq.{get_or-set_same, get_or-set_other}
use borrow.Author.Tests.{leb-false, not-false}
use Rattle.duality.specs.Sums.{sum_to, upd}
use Rattle.duality.proofs.Sums.{sum_to-eq, sum_to-zero, sum_to-upd, upd-all}
use Rattle.duality.specs.Lists.{cells}
use Rattle.supply.specs.declared.record.Board.{Board}
use Rattle.board.specs.declared.record.Edge.{Edge}
use Rattle.board.specs.Limits.{max_items, max_bidders, max_weight}
use Rattle.supply.specs.ByItem.{withdrawn_at}
use Rattle.bidding.specs.Potential.{one}
use Rattle.refusals.specs.Demand1.{first_of}
use Rattle.board.specs.Ranges.{Within}
use Rattle.auction.specs.Edges.{item_in, weight_in, edge_checks, edges_checks, row_to}
use Rattle.auction.specs.Arrive.{arrive_rest}
use Rattle.auction.specs.Withdraw.{withdraw_rest}
use Rattle.bidding.specs.Waiting.{RowFits}
use Rattle.board.proofs.Filling.{blank}
use Rattle.board.proofs.Tests.{within-decides}
use Rattle.refusals.proofs.Verdicts.{served-next}
use Rattle.refusals.proofs.Each.{each-served}
use Rattle.auction.proofs.ItemsLaw.{ItemsAccepted, ItemServed, accepted, rises, served-items}

-- ---- Served checks

-- Edges that are served: each at an item of the board that is not withdrawn, its weight within limits, and items rising
pub record EdgesAccepted (items : ℕ) (withdrawn : ℕ → Bool) (item weight : ℕ → ℕ) (n : ℕ) : Type 0 where
  pub known : (i : ℕ) → i < n → Within 1 items (item i)
  pub here : (i : ℕ) → i < n → withdrawn (item i - 1) ≡ false
  pub weighed : (i : ℕ) → i < n → Within 1 max_weight (weight i)
  pub rising : (i : ℕ) → suc i < n → item i < item (suc i)

-- Their items
pub edges-items : {items : ℕ} {withdrawn : ℕ → Bool} {item weight : ℕ → ℕ} {n : ℕ} → EdgesAccepted items withdrawn item weight n → ItemsAccepted items withdrawn item n
edges-items a = record { known = a.known; here = a.here; rising = a.rising }

module _ (items : ℕ) (withdrawn : ℕ → Bool) (item weight : ℕ → ℕ) where
  -- What is served of one edge
  served-edge : (i : ℕ) → first_of (edge_checks items withdrawn item weight i) ≡ Ok tt → ItemServed items withdrawn item i × Within 1 max_weight (weight i)
  unfolding edge_checks
  served-edge i e =
      let a = served-next _ _ e in
      let b = served-next _ _ a.1 in
      let c = served-next _ _ b.1 in
      let d = served-next _ _ c.1 in (
        record { known = (within-decides items (item i)).sound (not-false _ a.0); here = b.0; ordered = d.0 },
        (within-decides max_weight (weight i)).sound (not-false _ c.0),
      )

  pub served-edges : (n : ℕ) → first_of (edges_checks items withdrawn item weight 0 n) ≡ Ok tt → EdgesAccepted items withdrawn item weight n
  served-edges n e =
      let each : (i : ℕ) → i < n → ItemServed items withdrawn item i × Within 1 max_weight (weight i) =
      λ i l. served-edge i (each-served _ 0 n e i (omega arith) (omega arith)) in
      let a = accepted items withdrawn item n (λ i l. (each i l).0) in
      record { known = a.known; here = a.here; weighed = λ i l. (each i l).1; rising = a.rising }

pub served-arrival : (b : Board) (edges : List Edge) → first_of (arrive_rest b edges) ≡ Ok tt →
    (b.market.arrived < max_bidders) × EdgesAccepted b.items.count (withdrawn_at b) (item_in edges) (weight_in edges) (length edges)
unfolding arrive_rest
served-arrival b edges e = let u = served-next _ _ e in (leb-false _ _ u.0, served-edges b.items.count (withdrawn_at b) _ _ _ u.1)

pub served-withdrawal : (b : Board) (items : List ℕ) → first_of (withdraw_rest b items) ≡ Ok tt →
    ItemsAccepted b.items.count (withdrawn_at b) (cells items) (length items)
unfolding withdraw_rest
served-withdrawal b items e = served-items b.items.count (withdrawn_at b) (cells items) (length items) e

-- ---- The row that the edges make

-- What holds of a number at its place, and of every cell before it is stored, holds of each cell after
set_all : (P : ℕ → ℕ → Type 0) (l : List ℕ) (i v : ℕ) → P i v → ((j : ℕ) → P j (get_or l j 0)) → (j : ℕ) → P j (get_or (set l i v) j 0)
set_all P [] i v p h j = h j
set_all P (x ∷ l) zero v p h zero = p
set_all P (x ∷ l) zero v p h (suc j) = h (suc j)
set_all P (x ∷ l) (suc i) v p h zero = h zero
set_all P (x ∷ l) (suc i) v p h (suc j) = set_all (λ j. P (suc j)) l i v p (λ j. h (suc j)) j

one-is : (w : ℕ) → 1 ≤ w → one w ≡ 1
one-is zero h = absurd (omega arith)
one-is (suc w) h = refl

module _ (item weight : ℕ → ℕ) where
  -- Each cell is 0, or an edge's weight
  pub row-all : (P : ℕ → ℕ → Type 0) (n : ℕ) → ((k : ℕ) → P k 0) → ((i : ℕ) → i < n → P (item i - 1) (weight i)) → (k : ℕ) → P k (get_or (row_to item weight n) k 0)
  unfolding row_to
  row-all P zero z f k = rw (blank {A = ℕ} max_items k 0) (z k)
  row-all P (suc n) z f k = set_all P (row_to item weight n) (item n - 1) (weight n) (f n (omega arith)) (row-all P n z (λ i l. f i (omega arith))) k

  pub row-length : (n : ℕ) → length (row_to item weight n) ≡ max_items
  unfolding row_to
  row-length zero = refl
  row-length (suc n) = simp length-set (row-length n)

module _ {items : ℕ} {withdrawn : ℕ → Bool} {item weight : ℕ → ℕ} where
  pub row_fits_lem : {n : ℕ} → EdgesAccepted items withdrawn item weight n → RowFits items (row_to item weight n)
  row_fits_lem {n} a =
      record {
        sized = row-length item weight n;
        limit = λ k l. row-all item weight (λ k v. v ≤ max_weight) n (λ k. omega arith) (λ i h. (a.weighed i h).high) k;
        bare = λ k l m. row-all item weight (λ k v. items ≤ k → v ≡ 0) n (λ k l. refl) (λ i h l. absurd (omega (arith, (a.known i h).low, (a.known i h).high))) k l;
      }

  -- The edges before the last
  pub fewer : {n : ℕ} → EdgesAccepted items withdrawn item weight (suc n) → EdgesAccepted items withdrawn item weight n
  fewer a = record { known = λ i l. a.known i (omega arith); here = λ i l. a.here i (omega arith); weighed = λ i l. a.weighed i (omega arith); rising = λ i l. a.rising i (omega arith) }

  -- It has an edge for each: what f says of items, added up over its edges
  pub row-weighted : (f : ℕ → ℕ) → items ≤ max_items → (n : ℕ) → EdgesAccepted items withdrawn item weight n →
      sum_to items (λ k. f k * one (get_or (row_to item weight n) k 0)) ≡ sum_to n (λ i. f (item i - 1))
  unfolding row_to
  row-weighted f h zero a = sum_to-zero items _ (λ k l. rw (blank {A = ℕ} max_items k 0) (mul-zero (f k)))
  row-weighted f h (suc n) a =
      let r = row_to item weight n in
      let k = item n - 1 in
      let known = a.known n (omega arith) in
      let count : ℕ → ℕ = λ j. f j * one (get_or r j 0) in
      let bare : count k ≡ 0 = ap (λ v. f k * v) (ap one (row-all item weight (λ j v. k ≤ j → v ≡ 0) n (λ j l. refl)
      (λ i l m. absurd (omega (arith, rises (edges-items a) n (omega arith) i l, (a.known i (omega arith)).low))) k (le_refl k))) ∙ mul-zero (f k) in
      let new : f k * one (weight n) ≡ f k = ap (λ v. f k * v) (one-is (weight n) (a.weighed n (omega arith)).low) ∙ mul-one (f k) in
      omega (
        arith,
        sum_to-eq items (λ j. f j * one (get_or (set r k (weight n)) j 0)) (upd k (f k * one (weight n)) count)
            (λ j l. upd-all (λ j v. f j * one (get_or (set r k (weight n)) j 0) ≡ v) k (f k * one (weight n)) count
            (ap (λ v. f k * one v) (get_or-set_same r k (weight n) 0 (omega (arith, row-length item weight n))))
            (λ j ne. ap (λ v. f j * one v) (get_or-set_other r k j (weight n) 0 ne))
            j),
        sum_to-upd items k (f k * one (weight n)) count (omega arith),
        new,
        bare,
        row-weighted f h n (fewer a),
      )
