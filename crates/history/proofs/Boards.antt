-- Laws of the figures of a sound board: how large they are, and how the weight follows from the sum.
use Rattle.std.specs.Prelude.{Ok, Err}
use mathlib.Core.Path.{◌≡◌, refl, sym, ◌∙◌, ap, ap₂}
use mathlib.Core.Bool.{Bool, true, false, cond}
use mathlib.Core.List.{◌++◌, append_assoc}
use Prim.Native.Nat.{ℕ, zero, suc, ◌+◌, ◌*◌, ◌/◌, ◌^◌, ◌≤◌, ◌<◌}
use native.Mathlib.Nat.{mul-le-mul, mul_comm, mul-div_cancel, le_trans}
use native.Mathlib.Omega.{arith}
use lib.ListN.{get_or, replicate, length-replicate}
use Rattle.duality.specs.Lists.{cells}
use Rattle.duality.specs.Sums.{sum_to}
use Rattle.duality.specs.Matching.{at_cell, weight_of}
use Rattle.places.specs.Places.{item_of}
use Rattle.places.specs.Plan.{IsPlan}
use Rattle.places.specs.Total.{least_price}
use Rattle.places.proofs.PlaceLaws.{place-below}
use Rattle.duality.proofs.Sums.{sum_to-eq, sum_to-most}
use Rattle.supply.specs.declared.record.Board.{Board}
use Rattle.board.specs.declared.units.Pence.{Pence}
use Rattle.board.specs.declared.lent.Columns.{Columns}
use Rattle.refusals.specs.declared.Refusal.{Refusal}
use Rattle.hungarian.specs.Exact.{Greatest, greatest_on, ExactOutcome}
use Rattle.hungarian.proofs.Exacts.{exact-is-best, exact-gives-demand-3, exact-told-weight}
use Rattle.board.specs.Limits.{max_items, max_bidders, max_q, max_weight}
use Rattle.board.specs.Cells.{pence, row_at}
use Rattle.board.specs.Cells as place
use Rattle.board.specs.Lent.{lists, Lists, ColumnsOf}
use Rattle.board.proofs.LiveLaws.{weighed-edges}
use Rattle.supply.specs.Board.{auction_of, places_at, start_in}
use Rattle.supply.specs.ByItem.{withdrawn_at, gain_at, price_at, live, matching_of, matching_weight}
use Rattle.supply.specs.Columns.{ReadByItem}
use Rattle.supply.specs.Sound.{Sound}
use Rattle.supply.proofs.ByItem.{places-as-item, first-place}
use Rattle.supply.proofs.Reading.{least-price-as}
use Rattle.auction.proofs.Demand2.{sound-demand-2}
use Rattle.history.specs.Output.{bidder_lines, column_lines, last_lines, sum_of, output_of}
use Rattle.history.proofs.Outputs.{bidders-same, items-same}

cond-most : (w : Bool) (x c : ℕ) → x ≤ c → cond w 0 x ≤ c
cond-most true x c l = omega arith
cond-most false x c l = l

module _ (b : Board) (s : Sound b) where
  -- no plan on the live edges weighs more
  pub weight-any : (plan : ℕ → ℕ) → IsPlan b.market.arrived b.items.count (places_at b) (live b) plan → weight_of b.market.arrived (live b) plan ≤ max_bidders * max_weight
  weight-any plan plans =
      le_trans (sum_to-most b.market.arrived max_weight (λ i. at_cell (live b i) (plan i)) (λ i l. go i l (plan i) refl))
      (mul-le-mul {m₂ = max_weight} s.auction.arrived (omega arith))
    where
      go : (i : ℕ) → i < b.market.arrived → (c : ℕ) → plan i ≡ c → at_cell (live b i) c ≤ max_weight
      go i l zero e = omega arith
      go i l (suc k) e =
          let m = (plans.along i k l e).0 in
          let first = (places-as-item b k (start_in b.items k) s m (first-place b k s m)).below in
          cond-most (withdrawn_at b k) (get_or (row_at (auction_of b) i) (start_in b.items k) 0) max_weight (weighed-edges (row_at (auction_of b) i) b.market.items (s.auction.weights i l) (start_in b.items k) first)

  pub weight-most : matching_weight b ≤ max_bidders * max_weight
  weight-most = weight-any (matching_of b) (sound-demand-2 b s).plan

  pub sum_is : sum_of b ≡ (b.market.slack.q + b.market.slack.p) * matching_weight b
  sum_is = (sound-demand-2 b s).sum

  pub sum-most-is : sum_of b ≤ 2 * max_q * (max_bidders * max_weight)
  sum-most-is =
      let g : b.market.slack.q + b.market.slack.p ≤ 2 * max_q = omega (arith, s.auction.slack.below, s.auction.slack.high) in
      rw sum_is (mul-le-mul {m₂ = max_bidders * max_weight} g weight-most)

  pub slack-some : 0 < b.market.slack.q + b.market.slack.p
  slack-some = omega (arith, s.auction.slack.low)

  -- the weight from the sum
  pub weight-from : sum_of b / (b.market.slack.q + b.market.slack.p) ≡ matching_weight b
  weight-from =
      ap (λ (x : ℕ). x / (b.market.slack.q + b.market.slack.p)) (sum_is ∙ mul_comm (b.market.slack.q + b.market.slack.p) (matching_weight b))
      ∙ mul-div_cancel (matching_weight b) slack-some

  -- ---- Its state as plain numbers

  module _ (c : Columns) (h : ColumnsOf b.state b.market.items c) where
    price-is : (p : ℕ) → p < b.market.items → cells c.prices p ≡ place.price_at (auction_of b) p
    price-is p l = h.prices p (omega (arith, s.auction.items.1))

    gain-is : (i : ℕ) → i < b.market.arrived → cells c.gains i ≡ gain_at b i
    gain-is i l = h.gains i (omega (arith, s.auction.arrived))

    pub sum-read : sum_to b.market.items (cells c.prices) + sum_to b.market.arrived (cells c.gains) ≡ sum_of b
    sum-read = ap₂ ◌+◌ (sum_to-eq b.market.items (cells c.prices) (place.price_at (auction_of b)) price-is) (sum_to-eq b.market.arrived (cells c.gains) (gain_at b) gain-is)

    pub sum_fits : sum_to b.market.items (cells c.prices) + sum_to b.market.arrived (cells c.gains) < 2 ^ 64
    sum_fits = omega (arith, sum-read, sum-most-is)

    least-is : (k : ℕ) → k < b.items.count → least_price (places_at b) (cells c.prices) k ≡ price_at b k
    least-is k m =
        least-price-as (places_at b) (cells c.prices) _ k (omega (arith, (s.laid.each k m).low))
        (λ p at. price-is p (omega (arith, place-below (places_at b) b.items.count k p m at, s.laid.all)))

    -- the lines of these numbers, read by item, are the board's output
    pub output-read : (d : Columns) → ReadByItem b.items b.market.arrived c d →
        (weight sum bids greatest : ℕ) → weight ≡ matching_weight b → sum ≡ sum_of b → greatest ≡ greatest_on b →
        column_lines d b.items b.market ++ last_lines weight sum bids greatest ≡ output_of b bids
    unfolding output_of
    output-read d r weight sum bids greatest e f g =
        let bidders =
        bidders-same b.market.arrived (cells d.plan) (cells d.gains) (matching_of b) (gain_at b)
        (λ i l. r.plan i l ∙ ap (at_cell (λ p. suc (item_of (places_at b) b.items.count p))) (h.plan i))
        (λ i l. ap (λ gains. cells gains i) r.gains ∙ gain-is i l) in
        let items = items-same b.items.count (withdrawn_at b) (cells d.prices) (price_at b) (λ k l. r.prices k l ∙ least-is k l) in
        rw (e, f, g, bidders, items) (append_assoc (bidder_lines (matching_of b) (gain_at b) b.market.arrived) _ _)

  -- ---- The exact level, into lists as long as there can be bidders and items

  module _ (after : Lists) (a : Greatest) (o : ExactOutcome b (lists (replicate max_bidders 0) (replicate max_items 0) (replicate max_bidders 0)) a after) where
    exact-answer : a ≡ Ok (pence (greatest_on b))
    exact-answer =
        let shown = (exact-gives-demand-3 b _ after a o).exact s
        (record { plan = rw length-replicate s.auction.arrived; prices = rw length-replicate s.laid.count.high; gains = rw length-replicate s.auction.arrived }) in
        exact-told-weight a _ (exact-is-best b _ after a shown).answers

    pub exact-weight : (w : Pence) → a ≡ Ok w → w.0 ≡ greatest_on b
    exact-weight w e =
        let f : ◌≡◌ {A = Greatest} (Ok w) (Ok (pence (greatest_on b))) = sym e ∙ exact-answer in
        let g : w ≡ pence (greatest_on b) = cc in
        ap (λ (p : Pence). p.0) g

    pub exact-serves : (r : Refusal) → a ≡ Err r → ⊥
    exact-serves r e =
        let f : ◌≡◌ {A = Greatest} (Err r) (Ok (pence (greatest_on b))) = sym e ∙ exact-answer in
        let z : ◌≡◌ {A = ℕ} 0 1 = cc in
        absurd (omega arith)
