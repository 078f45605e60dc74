-- The potential: within its limit, raised by a bid, and lowered by no call.
use mathlib.Core.Path.{◌≡◌, refl, sym, ap, subst, ◌∙◌}
use mathlib.Core.Logic.{by_cases}
use mathlib.Core.Bool.{Bool, true, false}
use mathlib.Core.List.{List}
use Prim.Native.Nat.{ℕ, zero, suc, ◌+◌, ◌*◌, ◌≤◌, ◌<◌}
use native.Mathlib.Nat.{lt_irrefl, le_refl}
use native.Mathlib.Numerals.{add-one}
use native.Mathlib.Decide.{ℕ_discrete}
use native.Mathlib.Omega.{arith}
use lib.ListN.{get_or, length}
use lib.Seq.{get_or-set_same, get_or-set_other}
use Rattle.duality.specs.Sums.{sum_to, upd}
use Rattle.duality.specs.Steps.{Open, most}
use Rattle.duality.proofs.Sums.{sum_to-le, sum_to-eq, sum_to-mul, sum_to-lt, upd_same, upd-ge}
use Rattle.duality.proofs.PriceSteps.{price-steps}
use Rattle.board.specs.declared.record.Auction.{Auction}
use Rattle.board.specs.Limits.{max_bidders, max_items}
use Rattle.board.specs.Cells.{price_at, withdrawn_at, row_at, weight_at}
use Rattle.board.specs.Live.{live}
use Rattle.board.specs.Sound.{Formed}
use Rattle.bidding.specs.Potential.{one, edge_count, part_of, potential, bid_limit}
use Rattle.bidding.specs.Rule.{placed_at, displaced}
use Rattle.bidding.specs.Moves.{entered, released}
use Rattle.bidding.specs.RuleLaws.{BidRaises, PotentialWithin}
use Rattle.bidding.proofs.Frame.{Framed, framed, scaled-other, row_kept, row_new, open-edge, live-is}
use Rattle.bidding.proofs.Placed.{price-placed}

-- The parts of all edges, added: weights w, flags t, prices y
abbrev parts : ℕ → ℕ → ℕ → ℕ → (ℕ → ℕ → ℕ) → (ℕ → Bool) → (ℕ → ℕ) → ℕ
parts p q n m w t y = sum_to n (λ i. sum_to m (λ k. part_of p q (w i k) (t k) (y k)))

part-within : (p q w : ℕ) (t : Bool) (y : ℕ) → part_of p q w t y ≤ most p q * one w
part-within p q zero t y = omega arith
part-within p q (suc w) true y = omega arith
part-within p q (suc w) false y = omega arith

parts_within : (p q n m : ℕ) (w : ℕ → ℕ → ℕ) (t : ℕ → Bool) (y : ℕ → ℕ) → parts p q n m w t y ≤ most p q * sum_to n (λ i. sum_to m (λ k. one (w i k)))
parts_within p q n m w t y =
    omega (
      arith,
      sum_to-le n (λ i. sum_to m (λ k. part_of p q (w i k) (t k) (y k))) (λ i. most p q * sum_to m (λ k. one (w i k))) (λ i _. omega (
        arith,
        sum_to-le m (λ k. part_of p q (w i k) (t k) (y k)) (λ k. most p q * one (w i k)) (λ k _. part-within p q (w i k) (t k) (y k)),
        sum_to-mul m (most p q) (λ k. one (w i k)),
      )),
      sum_to-mul n (most p q) (λ i. sum_to m (λ k. one (w i k))),
    )

pub potential-within : PotentialWithin
unfolding potential edge_count
potential-within b = omega (arith, parts_within b.market.slack.p b.market.slack.q b.market.arrived b.market.items (weight_at b) (withdrawn_at b) (price_at b))

-- ---- A bid
part-rises : (p q w : ℕ) (t : Bool) (y z : ℕ) → 0 < p → y ≤ z → part_of p q w t y ≤ part_of p q w t z
part-rises p q zero t y z hp l = omega arith
part-rises p q (suc w) true y z hp l = omega arith
part-rises p q (suc w) false y z hp l = (price-steps p q (suc w) hp (omega arith)).rising y z l

part-bid : (p q w y z : ℕ) → 0 < p → Open p q w y → y + p * w ≤ z → part_of p q w false y < part_of p q w false z
part-bid p q zero y z hp o l = absurd (lt_irrefl 0 (open-edge p q 0 y o))
part-bid p q (suc w) y z hp o l = omega (arith, (price-steps p q (suc w) hp (omega arith)).counted y z o l)

parts-rise : (p q n m : ℕ) (w : ℕ → ℕ → ℕ) (t : ℕ → Bool) (y : ℕ → ℕ) (i k z : ℕ) → 0 < p → i < n → k < m → t k ≡ false → Open p q (w i k) (y k) →
    y k + p * w i k ≤ z → parts p q n m w t y < parts p q n m w t (upd k z y)
parts-rise p q n m w t y i k z hp li lk live o l =
    sum_to-lt n i _ _ (λ h _. sum_to-le m _ _ (λ j _. grows h j)) li (sum_to-lt m k _ _ (λ j _. grows i j) lk
    (rw (live, upd_same) (part-bid p q (w i k) (y k) z hp o l)))
  where
    grows : (h j : ℕ) → part_of p q (w h j) (t j) (y j) ≤ part_of p q (w h j) (t j) (upd k z y j)
    grows h j = part-rises p q (w h j) (t j) (y j) (upd k z y j) hp (upd-ge k z y (omega arith) j)

pub bid-raises : BidRaises
unfolding potential placed_at
bid-raises waits b i k g y s li a =
    let u = live-is (withdrawn_at b k) (weight_at b i k) (open-edge _ _ _ _ a.«open») in
    subst (λ z. potential b + 1 ≤ parts b.market.slack.p b.market.slack.q b.market.arrived b.market.items (weight_at b) (withdrawn_at b) z)
    (sym (price-placed (framed s) li a.item g y))
    (omega (
      arith,
      parts-rise b.market.slack.p b.market.slack.q b.market.arrived b.market.items (weight_at b) (withdrawn_at b) (price_at b) i k y s.slack.low li a.item
          u.0 (rw u.1 at a.«open») (rw u.1 at a.rises),
    ))

-- ---- What a bid and a displacement keep
pub limit-placed : (b : Auction) (i k g y : ℕ) → bid_limit (placed_at b i k g y) ≡ bid_limit b
unfolding edge_count placed_at
limit-placed b i k g y = refl

pub limit-displaced : (b : Auction) (x : ℕ) → bid_limit (displaced b x) ≡ bid_limit b
unfolding edge_count displaced
limit-displaced b x = refl

pub potential-displaced : (b : Auction) (x : ℕ) → potential (displaced b x) ≡ potential b
unfolding potential displaced
potential-displaced b x = refl

-- ---- A new bidder

-- The edges of a row at the first m items
abbrev pub row_count : ℕ → List ℕ → ℕ
row_count m row = sum_to m (λ k. one (get_or row k 0))

-- A sum over the rows has one term more
sum-entered : (f : List ℕ → ℕ) (b : Auction) (row : List ℕ) → length row ≡ max_items →
    sum_to (b.market.arrived + 1) (λ i. f (row_at (entered b row) i)) ≡ sum_to b.market.arrived (λ i. f (row_at b i)) + f (row_at (entered b row) b.market.arrived)
sum-entered f b row n = rw add-one (ap (λ z. z + f (row_at (entered b row) b.market.arrived)) (sum_to-eq b.market.arrived _ _ (λ i l. ap f (row_kept b row i n (omega arith)))))

pub potential-entered : (b : Auction) (row : List ℕ) → length row ≡ max_items → potential b ≤ potential (entered b row)
unfolding potential entered
potential-entered b row n = omega (arith, sum-entered (λ r. sum_to b.market.items (λ k. part_of b.market.slack.p b.market.slack.q (get_or r k 0) (withdrawn_at b k) (price_at b k))) b row n)

pub count-entered : (b : Auction) (row : List ℕ) → length row ≡ max_items → Formed b → b.market.arrived < max_bidders → edge_count (entered b row) ≡ edge_count b + row_count b.market.items row
unfolding edge_count entered
count-entered b row n f l = sum-entered (row_count b.market.items) b row n ∙ ap (λ r. edge_count b + row_count b.market.items r) (row_new b row n f l)

-- ---- A withdrawal
part-gone : (p q w : ℕ) (t : Bool) (y z : ℕ) → part_of p q w t y ≤ part_of p q w true z
part-gone p q zero t y z = omega arith
part-gone p q (suc w) true y z = omega arith
part-gone p q (suc w) false y z = omega arith

pub potential-released : {b : Auction} → Framed b → {k : ℕ} → k < b.market.items → potential b ≤ potential (released b k)
unfolding potential released
potential-released {b} f {k} lk =
    sum_to-le b.market.arrived _ _ (λ i _. sum_to-le b.market.items _ _ (λ j _. by_cases (ℕ_discrete j k)
    (λ (e : j ≡ k). rw (e, get_or-set_same b.market.withdrawn k 1 0 (omega arith)) (part-gone _ _ (weight_at b i k) (withdrawn_at b k) (price_at b k) _))
    (λ ne. rw (get_or-set_other b.market.withdrawn k j 1 0 ne, scaled-other b.state.price k 0 j ne) (le_refl _))))
