-- The rows of a sound board are within the limits of a page.
use mathlib.Core.Path.{◌≡◌, refl, sym, ◌∙◌, ap}
use mathlib.Core.Bool.{true}
use mathlib.Core.List.{List}
use Prim.Native.Nat.{ℕ, zero, suc, ◌+◌, ◌-◌, ◌*◌, ◌≤◌, ◌<◌}
use native.Mathlib.Nat.{mul-le-mul}
use native.Mathlib.Omega.{arith}
use lib.ListN.{get_or}
use borrow.Author.Tests.{le-leb}
use Rattle.duality.specs.Lists.{cells}
use Rattle.duality.specs.Matching.{at_cell}
use Rattle.places.proofs.PlaceLaws.{every-place-has-its-item}
use Rattle.board.specs.declared.lent.Columns.{Columns}
use Rattle.board.specs.Limits.{max_items, max_weight, max_q}
use Rattle.board.specs.Cells.{row_in}
use Rattle.board.specs.Cells as place
use Rattle.board.specs.Live as placed
use Rattle.board.specs.Lent.{ColumnsOf}
use Rattle.board.proofs.Filed.{row-cell}
use Rattle.board.proofs.LiveLaws.{weighed-edges}
use Rattle.board.proofs.SoundLaw.{live_on, live-not}
use Rattle.supply.specs.declared.record.Board.{Board}
use Rattle.supply.specs.Board.{auction_of, places_at, item_at}
use Rattle.supply.specs.ByItem.{live, gain_at, matching_of}
use Rattle.supply.specs.Sound.{Sound}
use Rattle.supply.specs.Columns.{ReadByItem}
use Rattle.supply.proofs.ByItem.{places-as-item, held-weight}
use Rattle.layout.specs.Limits.{max_gain, page_bytes}
use Rattle.layout.specs.Row.{row_fits, RowsFit}
use Rattle.layout.specs.Written.{row_among}
use Rattle.layout.proofs.Scans.{fit-placed}
use Rattle.layout.proofs.Written.{length-rows, rows_fit}
use Rattle.layout.proofs.Bytes.{page-bytes, page-most}
use Rattle.page.specs.Rows.{weight_held, board_row, board_rows, board_page}
use Rattle.page.specs.Laws.{BoardIsPage, BoardsFit, WeightsAdd}

-- the weight that the rows of all bidders have at the place that a matching gives bidder i + 1
abbrev pub held_weight : List ℕ → List ℕ → ℕ → ℕ
held_weight weights plan i = at_cell (λ k. get_or (row_in weights i) k 0) (cells plan i)

module _ {b : Board} (s : Sound b) (i : ℕ) (l : i < b.market.arrived) where
  -- the edge of a placed bidder is live, and has the weight that the board keeps
  placed-weight : (k : ℕ) → placed.matching_of (auction_of b) i ≡ suc k → placed.live (auction_of b) i k ≡ place.weight_at (auction_of b) i k
  placed-weight k e =
      live_on (place.withdrawn_at (auction_of b) k) (place.weight_at (auction_of b) i k)
      (live-not (place.withdrawn_at (auction_of b) k) (place.weight_at (auction_of b) i k) (s.auction.matches.along i k l e).1)

  placed-light : (k : ℕ) → placed.matching_of (auction_of b) i ≡ suc k → placed.live (auction_of b) i k ≤ max_weight
  placed-light k e =
      omega (
        arith,
        placed-weight k e,
        weighed-edges (place.row_at (auction_of b) i) b.market.items (s.auction.weights i l) k (s.auction.matches.along i k l e).0,
      )

  -- the row of a bidder that has place k + 1 names the item of that place
  placed-fits : (k : ℕ) → placed.matching_of (auction_of b) i ≡ suc k → row_fits (board_row b i) ≡ true
  placed-fits k e =
      let (lk, lw) = s.auction.matches.along i k l e in
      let item = item_at b.items k in
      let (low, at) = every-place-has-its-item (places_at b) b.items.count k (rw s.laid.all at lk) in
      let named : matching_of b i ≡ suc item = ap (at_cell (λ s. suc (item_at b.items s))) e in
      let same : placed.live (auction_of b) i k ≡ live b i item = (places-as-item b item k s low at).live i l in
      let light = placed-light k e in
      let high : b.market.slack.q + b.market.slack.p ≤ max_q + max_q = omega (arith, s.auction.slack.high, s.auction.slack.below) in
      let top : (b.market.slack.q + b.market.slack.p) * placed.live (auction_of b) i k ≤ (max_q + max_q) * max_weight = mul-le-mul {m₂ = max_weight} high light in
      let small : gain_at b i ≤ max_gain = omega (arith, s.auction.placed i k l e, top) in
      let few : suc item ≤ max_items = omega (arith, low, s.laid.count.high) in
      let fits = fit-placed (suc item) (live b i item) (gain_at b i) (λ z. omega arith) few (λ z. omega (arith, lw, same)) (omega (arith, light, same)) in
      rw named (sym fits ∙ le-leb (gain_at b i) max_gain small)

  pub row_fits_lem : row_fits (board_row b i) ≡ true
  row_fits_lem = go (placed.matching_of (auction_of b) i) refl
    where
      go : (c : ℕ) → placed.matching_of (auction_of b) i ≡ c → row_fits (board_row b i) ≡ true
      go zero e =
          let none : matching_of b i ≡ 0 = ap (at_cell (λ s. suc (item_at b.items s))) e in
          let g : gain_at b i ≡ 0 = s.auction.unplaced i l e in
          rw (none, g)
      go (suc k) e = placed-fits k e

  -- what code reads off the rows of all bidders, by place
  pub held-as : (c : ℕ) → placed.matching_of (auction_of b) i ≡ c → at_cell (λ k. get_or (row_in b.weights i) k 0) c ≡ at_cell (placed.live (auction_of b) i) c
  held-as zero e = refl
  held-as (suc k) e = sym (placed-weight k e)

pub board-fits : {b : Board} → Sound b → RowsFit (board_rows b)
board-fits {b} s = rows_fit (board_row b) b.market.arrived (record { few = s.auction.arrived; each = λ i l. row_fits_lem s i l })

pub board-is-page : BoardIsPage
unfolding board_page
board-is-page b s = record { fit = board-fits s; is = refl }

pub boards-fit : BoardsFit
unfolding board_page
boards-fit b s =
    let e = page-bytes (board_rows b) (board-fits s) ∙ ap page_bytes (length-rows (board_row b) b.market.arrived) in
    record { bytes = e; most = page-most (board_rows b) (board-fits s) }

pub weights-add : WeightsAdd
weights-add b = refl

-- ---- As the code comes to it
pub held_none : (weights : List ℕ) (i item : ℕ) → item ≡ 0 → 0 ≡ at_cell (λ k. get_or (row_in weights i) k 0) item
held_none weights i item e = rw e

pub held-some : (weights : List ℕ) (i item : ℕ) → (item ≡ 0 → ⊥) → item ≤ max_items → get_or weights (i * max_items + (item - 1)) 0 ≡ at_cell (λ k. get_or (row_in weights i) k 0) item
held-some weights i zero f h = absurd (f refl)
held-some weights i (suc k) f h =
    let e : i * max_items + (suc k - 1) ≡ i * max_items + k = omega arith in
    ap (λ (j : ℕ). get_or weights j 0) e ∙ sym (row-cell weights i k (omega arith))

pub columns-row : {b : Board} (c d : Columns) (held : List ℕ) →
    Sound b → ColumnsOf b.state b.market.items c → ReadByItem b.items b.market.arrived c d →
    ((i : ℕ) → i < b.market.arrived → cells held i ≡ held_weight b.weights c.plan i) →
    (i : ℕ) → i < b.market.arrived → row_among d.plan held d.gains i ≡ board_row b i
columns-row {b} c d held s h r e i l =
    let p : cells d.plan i ≡ matching_of b i = r.plan i l ∙ ap (at_cell (λ s. suc (item_at b.items s))) (h.plan i) in
    let g : cells d.gains i ≡ gain_at b i = ap (λ gains. cells gains i) r.gains ∙ h.gains i (omega (arith, s.auction.arrived)) in
    let w : cells held i ≡ weight_held b i =
    e i l
    ∙ (ap (at_cell (λ k. get_or (row_in b.weights i) k 0)) (h.plan i)
    ∙ (held-as s i l (placed.matching_of (auction_of b) i) refl ∙ held-weight b s i l)) in
    rw (w, p, g)
