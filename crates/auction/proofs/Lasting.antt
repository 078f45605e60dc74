-- What calls keep of a board's items: every place stays as the first place of its item, so that the board after a call is sound.
use mathlib.Core.Path.{◌≡◌, refl, sym, ap, ◌∙◌}
use mathlib.Core.Bool.{Bool, true, false}
use mathlib.Core.List.{List}
use mathlib.Core.Logic.{⊎_elim}
use Prim.Native.Nat.{ℕ, suc, ◌+◌, ◌≤◌, ◌<◌}
use native.Mathlib.Nat.{le_refl, mul-le-mul, eq-or-lt_of_le}
use native.Mathlib.Omega.{arith}
use lib.ListN.{get_or}
use lib.Dec.{eqb}
use borrow.Author.Tests.{eqb-true, eqb-false}
use Rattle.duality.proofs.Decide.{clash}
use Rattle.places.proofs.PlaceLaws.{no-other-item, every-place-has-its-item}
use Rattle.board.specs.declared.record.Auction.{Auction}
use Rattle.board.specs.Limits.{max_items, max_bidders}
use Rattle.board.specs.Cells.{flag_at, weight_at}
use Rattle.board.proofs.Filed.{other_row, new_row}
use Rattle.supply.specs.declared.record.Board.{Board}
use Rattle.supply.specs.declared.record.Items.{Items}
use Rattle.supply.specs.Board.{auction_of, on_items, places_in, all_places, start_in, item_at}
use Rattle.supply.specs.Spread.{spread_row}
use Rattle.supply.specs.Sound.{Alike, Sound}
use Rattle.supply.proofs.Shaping.{starts-in, sound-fits}
use Rattle.supply.proofs.Spreading.{row-length, row-cell}
use Rattle.bidding.specs.Rule.{Chain, stays, takes, displaces, placed_at, displaced}
use Rattle.bidding.specs.Moves.{entered}
use Rattle.bidding.specs.Withdrawals.{Chains, ended, next}

-- ---- Chains keep market and weights

pub chain-market : {a c : Auction} {i n : ℕ} → Chain a i c n → c.market ≡ a.market
unfolding placed_at displaced
chain-market (stays e) = refl
chain-market (takes e s f) = refl
chain-market (displaces e s f r) = chain-market r

pub chain-weights : {a c : Auction} {i n : ℕ} → Chain a i c n → c.weights ≡ a.weights
unfolding placed_at displaced
chain-weights (stays e) = refl
chain-weights (takes e s f) = refl
chain-weights (displaces e s f r) = chain-weights r

pub chains-market : {a c : Auction} {xs : List ℕ} {n : ℕ} → Chains a xs c n → c.market ≡ a.market
chains-market ended = refl
chains-market (next r t) = chains-market t ∙ chain-market r

pub chains-weights : {a c : Auction} {xs : List ℕ} {n : ℕ} → Chains a xs c n → c.weights ≡ a.weights
chains-weights ended = refl
chains-weights (next r t) = chains-weights t ∙ chain-weights r

-- ---- The first place of a place's item is a place of that item

module _ (b : Board) (h : Sound b) where
  pub place-below : (s : ℕ) → s < b.market.items → s < all_places b.items
  place-below s l = omega (arith, h.laid.all)

  -- The item of a place, and of that item's first place
  pub owner-below : (s : ℕ) → s < b.market.items → item_at b.items s < b.items.count
  owner-below s l = (every-place-has-its-item (places_in b.items) b.items.count s (place-below s l)).0

  pub first_below : (k : ℕ) → k < b.items.count → start_in b.items k < b.market.items
  first_below k l = omega (arith, h.laid.all, starts-in b.items k l, (h.laid.each k l).low)

  pub first-owner : (k : ℕ) → k < b.items.count → item_at b.items (start_in b.items k) ≡ k
  first-owner k l = no-other-item (places_in b.items) b.items.count k (start_in b.items k) l (le_refl _, omega (arith, (h.laid.each k l).low))

-- ---- A new bidder's row, spread

-- The board with the new bidder, before it bids
abbrev pub joined_on : Board → List ℕ → Board
joined_on b row = on_items b.items (entered (auction_of b) (spread_row b.items row))

module _ (b : Board) (h : Sound b) (row : List ℕ) (room : b.market.arrived < max_bidders) where
  -- The rows of the others, and the new one
  old-weight : (i s : ℕ) → i < b.market.arrived → weight_at (entered (auction_of b) (spread_row b.items row)) i s ≡ weight_at (auction_of b) i s
  unfolding entered
  old-weight i s l = ap (λ (r : List ℕ). get_or r s 0) (other_row b.weights (spread_row b.items row) b.market.arrived i (row-length b.items row) (λ q. omega arith))

  pub new-weight : (s : ℕ) → s < b.market.items → weight_at (entered (auction_of b) (spread_row b.items row)) b.market.arrived s ≡ get_or row (item_at b.items s) 0
  unfolding entered
  new-weight s l =
      ap (λ (r : List ℕ). get_or r s 0)
      (new_row b.weights (spread_row b.items row) b.market.arrived (row-length b.items row)
      (omega (arith, h.auction.formed.rows, mul-le-mul room (le_refl max_items))))
      ∙ row-cell b.items row (sound-fits b h) s (place-below b h s l)

  pub joined-alike : (s : ℕ) → s < b.market.items → Alike (joined_on b row) s
  unfolding entered
  joined-alike s l =
      let k = item_at b.items s in
      let lk = owner-below b h s l in
      record {
        flag = (h.alike s l).flag;
        edges = λ i m. ⊎_elim
            (λ (e : suc i ≡ b.market.arrived + 1). let z : i ≡ b.market.arrived = omega arith in
            rw z (new-weight s l ∙ ap (λ j. get_or row j 0) (sym (first-owner b h k lk)) ∙ sym (new-weight (start_in b.items k) (first_below b h k lk))))
            (λ m. old-weight i s (omega arith) ∙ (h.alike s l).edges i (omega arith) ∙ sym (old-weight i (start_in b.items k) (omega arith)))
            (eq-or-lt_of_le m);
      }

-- ---- The same items over an auction with the same market and weights

pub kept-alike : (items : Items) (a c : Auction) → c.market ≡ a.market → c.weights ≡ a.weights → (s : ℕ) → Alike (on_items items a) s → Alike (on_items items c) s
kept-alike items a c e f s h = record { flag = rw e h.flag; edges = λ i l. rw f (h.edges i (rw e at l)) }

-- A flag is told by its byte
pub same_flag : (l m : List ℕ) (s t : ℕ) → get_or l s 0 ≤ 1 → get_or m t 0 ≤ 1 → flag_at l s ≡ flag_at m t → get_or l s 0 ≡ get_or m t 0
same_flag l m s t h g e = go (eqb (get_or l s 0) 0) refl (eqb (get_or m t 0) 0) refl
  where
    go : (x : Bool) → eqb (get_or l s 0) 0 ≡ x → (y : Bool) → eqb (get_or m t 0) 0 ≡ y → get_or l s 0 ≡ get_or m t 0
    go true p true q = eqb-true (get_or l s 0) 0 p ∙ sym (eqb-true (get_or m t 0) 0 q)
    go false p false q = let x = eqb-false (get_or l s 0) 0 p in let y = eqb-false (get_or m t 0) 0 q in omega arith
    go true p false q = let z : false ≡ true = rw (p, q) at e in absurd (clash false z refl)
    go false p true q = let z : false ≡ true = rw (p, q) at (sym e) in absurd (clash false z refl)
