-- What is decided of the lists that a caller lends, and what is written to them.
use Rattle.std.specs.Prelude.{Ok}
use mathlib.Core.Path.{◌≡◌, refl, ap, ◌∙◌}
use Prim.Native.Nat.{ℕ, zero, suc, ◌≤◌, ◌<◌}
use native.Mathlib.Omega.{arith}
use lib.ListN.{length}
use borrow.Author.Tests.{not-false}
use Rattle.duality.specs.Lists.{cells}
use Rattle.duality.specs.Matching.{at_cell}
use Rattle.duality.specs.Decide.{Decides}
use Rattle.duality.proofs.Decide.{reword}
use Rattle.places.specs.Places.{item_of}
use Rattle.places.specs.Total.{least_price}
use Rattle.places.proofs.PlaceLaws.{place-below}
use Rattle.refusals.specs.declared.Refusal.TheVariants.{Short, Spoilt}
use Rattle.refusals.specs.Demand1.{first_of}
use Rattle.refusals.proofs.Verdicts.{Decided, ends, next, served-next}
use Rattle.board.specs.declared.lent.Columns.{Columns}
use Rattle.board.specs.Live as placed
use Rattle.board.specs.Lent.{written, Lists, lists, room_test, ColumnsOf, written_lists}
use Rattle.board.proofs.Written.{written_as, lists-as}
use Rattle.board.proofs.Tests.{no-decides, room-decides}
use Rattle.supply.specs.declared.record.Board.{Board}
use Rattle.supply.specs.Board.{auction_of, places_at, all_places}
use Rattle.supply.specs.ByItem.{price_at, gain_at, matching_of}
use Rattle.supply.specs.Sound.{Sound}
use Rattle.supply.specs.Lent.{Roomy, ReadOutMet, read_out_checks}
use Rattle.supply.specs.Columns.{ReadByItem}
use Rattle.supply.proofs.Reading.{least-price-as}
use Rattle.supply.proofs.SoundLaw.{sound-decides}

module _ (b : Board) (l : Lists) where
  read-unsound : ReadOutMet b l Spoilt → Sound b → ⊥
  read-unsound (ReadOutMet.spoilt f) = f

  short-met : ReadOutMet b l Short → Roomy b l → ⊥
  short-met (ReadOutMet.short f) = f

  pub roomy-decides : Decides (room_test b.market.arrived b.items.count (length l.plan) (length l.prices) (length l.gains)) (Roomy b l)
  roomy-decides =
      reword (room-decides _ _ _ _ _)
      (λ h. record { plan = h.0; prices = h.1.0; gains = h.1.1 })
      (λ h. (h.plan, (h.prices, h.gains)))

  pub read-out-decided : Decided (ReadOutMet b l) (read_out_checks b l)
  read-out-decided =
      next (reword (no-decides (sound-decides b)) (λ f. ReadOutMet.spoilt f) read-unsound)
      (next (reword (no-decides roomy-decides) (λ f. ReadOutMet.short f) short-met) ends)

-- What is served is a sound board and lists with room
pub lent-open : (b : Board) (l : Lists) → first_of (read_out_checks b l) ≡ Ok tt → Sound b × Roomy b l
lent-open b l e =
    let u = served-next _ _ e in
    ((sound-decides b).sound (not-false _ u.0), (roomy-decides b l).sound (not-false _ (served-next _ _ u.1).0))

-- ---- A board's state by place, and by item

module _ {b : Board} {c : Columns} (s : Sound b) (h : ColumnsOf b.state b.market.items c) where
  -- A bidder's cell names one of all places, or none
  pub plan-few : (i : ℕ) → i < b.market.arrived → cells c.plan i ≤ all_places b.items
  plan-few i l = go (placed.matching_of (auction_of b) i) refl
    where
      go : (m : ℕ) → placed.matching_of (auction_of b) i ≡ m → cells c.plan i ≤ all_places b.items
      go zero e = omega (arith, h.plan i, e)
      go (suc k) e = omega (arith, h.plan i, e, (s.auction.matches.along i k l e).0, s.laid.all)

  -- What is written of it, read by item, is the matching, the least prices and the gains
  pub columns-written : {d : Columns} (l : Lists) → ReadByItem b.items b.market.arrived c d →
      written_lists b.market.arrived b.items.count d l ≡
      lists
      (written b.market.arrived (matching_of b) l.plan)
      (written b.items.count (price_at b) l.prices)
      (written b.market.arrived (gain_at b) l.gains)
  columns-written {d} l r =
      lists-as
      (written_as b.market.arrived _ _ _ (λ i m. r.plan i m ∙ ap (at_cell (λ p. suc (item_of (places_at b) b.items.count p))) (h.plan i)))
      (written_as b.items.count _ _ _ (λ k m. r.prices k m ∙ least k m))
      (written_as b.market.arrived _ _ _ (λ i m. ap (λ gains. cells gains i) r.gains ∙ h.gains i (omega (arith, s.auction.arrived))))
    where
      least : (k : ℕ) → k < b.items.count → least_price (places_at b) (cells c.prices) k ≡ price_at b k
      least k m =
          least-price-as (places_at b) (cells c.prices) _ k (omega (arith, (s.laid.each k m).low))
          (λ p at. h.prices p (omega (arith, place-below (places_at b) b.items.count k p m at, s.laid.all, s.auction.items.1)))
