-- The places that a list of items names: which they are, and what goes with them.
use mathlib.Core.Path.{◌≡◌, refl, sym, ◌∙◌}
use mathlib.Core.Bool.{Bool, true, false, ◌||◌}
use mathlib.Core.List.{List}
use Prim.Native.Nat.{ℕ, zero, suc, ◌-◌, ◌<◌}
use native.Mathlib.Nat.{suc_inj, not-suc-le-zero}
use native.Mathlib.Omega.{arith}
use lib.ListN.{length}
use lib.Dec.{eqb}
use borrow.Author.Tests.{eqb-true, eq-eqb}
use Rattle.duality.proofs.Below.{one_more}
use Rattle.duality.proofs.Decide.{clash}
use Rattle.duality.specs.Lists.{cells}
use Rattle.places.specs.Places.{AtItem}
use Rattle.places.proofs.PlaceLaws.{no-other-item, every-place-has-its-item}
use Rattle.board.specs.declared.record.Auction.{Auction}
use Rattle.board.specs.Cells.{withdrawn_at}
use Rattle.supply.specs.declared.record.Board.{Board}
use Rattle.supply.specs.declared.record.Items.{Items}
use Rattle.supply.specs.Board.{auction_of, places_in, places_at, all_places, item_at}
use Rattle.supply.specs.Shape.{Fits}
use Rattle.supply.specs.Spread.{places_named, Listable}
use Rattle.supply.specs.Sound.{Sound}
use Rattle.supply.proofs.Spreading.{named-cell, named-within, named-place}
use Rattle.bidding.specs.Withdrawals.{named_in}
use Rattle.bidding.specs.WithdrawalLaws.{Listed, AllGone}
use Rattle.auction.specs.Withdraw.{places_on}
use Rattle.auction.proofs.Lasting.{place-below}

-- A place belongs to its item
pub belongs : (b : Board) → Sound b → (s : ℕ) → s < b.market.items → AtItem (places_at b) (item_at b.items s) s
belongs b h s l = (every-place-has-its-item (places_at b) b.items.count s (place-below b h s l)).1

-- ---- Whether a number is one of a list

either : (x y : Bool) → (x || y) ≡ true → (x ≡ false → y ≡ true)
either true y e f = absurd (clash true refl f)
either false y e f = e

-- It is one exactly where a cell holds it
pub named-at : (item : ℕ → ℕ) (n v : ℕ) → named_in item n v ≡ true → (i : ℕ) × (i < n) × (item i ≡ v)
unfolding named_in
named-at item zero v e = absurd (clash false e refl)
named-at item (suc n) v e = go (named_in item n v) refl (named-at item n v)
  where
    go : (t : Bool) → named_in item n v ≡ t → (named_in item n v ≡ true → (i : ℕ) × (i < n) × (item i ≡ v)) → (i : ℕ) × (i < suc n) × (item i ≡ v)
    go true q before = let (i, l, h) = before q in (i, omega arith, h)
    go false q before = (n, omega arith, eqb-true (item n) v (either (named_in item n v) (eqb (item n) v) e q))

or_left : (x y : Bool) → x ≡ true → (x || y) ≡ true
or_left true y e = refl
or_left false y e = absurd (clash false e refl)

or_right : (x y : Bool) → y ≡ true → (x || y) ≡ true
or_right true y e = refl
or_right false y e = e

pub at_named : (item : ℕ → ℕ) (n v i : ℕ) → i < n → item i ≡ v → named_in item n v ≡ true
unfolding named_in
at_named item zero v i l e = absurd (not-suc-le-zero l)
at_named item (suc n) v i l e =
    one_more n (λ i. item i ≡ v → named_in item (suc n) v ≡ true)
    (λ i l e. or_left (named_in item n v) (eqb (item n) v) (at_named item n v i l e))
    (λ e. or_right (named_in item n v) (eqb (item n) v) (eq-eqb (item n) v e))
    i l e

-- Two tests that are true together are one
both : (x y : Bool) → (x ≡ true → y ≡ true) → (y ≡ true → x ≡ true) → x ≡ y
both true true f g = refl
both true false f g = sym (f refl)
both false true f g = g refl
both false false f g = refl

-- "A withdrawal removes all places": a place is named where its item is
pub places-named : (items : Items) (item : ℕ → ℕ) (n : ℕ) → Fits items → Listable items item n → (s : ℕ) → s < all_places items →
    named_in (cells (places_named items item n)) (length (places_named items item n)) (suc s) ≡ named_in item n (suc (item_at items s))
places-named items item n f can s l =
    both _ _
    (λ e. let (j, lj, q) = named-at _ _ (suc s) e in let w = named-cell items item n j lj in
    let same : w.place ≡ s = suc_inj (sym w.cell ∙ q) in
    let here : AtItem (places_in items) (item w.index - 1) s = rw same at w.at in
    at_named item n (suc (item_at items s)) w.index w.below
    (omega (arith, no-other-item (places_in items) items.count (item w.index - 1) s (known w.index w.below) here, (can.within w.index w.below).low)))
    (λ e. let (i, li, q) = named-at item n _ e in
    let k : item i - 1 ≡ item_at items s = omega arith in
    let (j, lj, c) = named-place items item n i s li (rw k (every-place-has-its-item (places_in items) items.count s l).1) in
    at_named _ _ (suc s) j lj c)
  where
    known : (i : ℕ) → i < n → item i - 1 < items.count
    known i li = omega (arith, (can.within i li).low, (can.within i li).high)

-- The places of a list of items are places of the auction
pub places-listed : (b : Board) (items : List ℕ) → Sound b → Listable b.items (cells items) (length items) →
    Listed (auction_of b) (cells (places_on b.items items)) (length (places_on b.items items))
places-listed b items h can j lj = rw h.laid.all (named-within b.items (cells items) (length items) can j lj)

-- ---- What goes

-- Two places that are named alike, and were withdrawn alike, are so after the places of a list have gone
pub gone-alike : {a c : Auction} {item : ℕ → ℕ} {n : ℕ} → AllGone a item n c → (s t : ℕ) → s < a.market.items → t < a.market.items →
    named_in item n (suc s) ≡ named_in item n (suc t) → withdrawn_at a s ≡ withdrawn_at a t → withdrawn_at c s ≡ withdrawn_at c t
gone-alike {a} {c} {item} {n} g s t ls lt e f = go (named_in item n (suc s)) refl
  where
    go : (x : Bool) → named_in item n (suc s) ≡ x → withdrawn_at c s ≡ withdrawn_at c t
    go true q = (g.gone s ls q).0 ∙ sym (g.gone t lt (sym e ∙ q)).0
    go false q = (g.others s q).0 ∙ f ∙ sym (g.others t (sym e ∙ q)).0
