-- What a read-out writes.
use mathlib.Core.Path.{◌≡◌, refl, sym, ap, subst, ◌∙◌}
use Prim.Native.Nat.{ℕ, ◌+◌, ◌*◌, ◌≤◌}
use native.Mathlib.Omega.{arith}
use lib.ListN.{length}
use borrow.Author.Tests.{not-false}
use Rattle.duality.specs.Cover.{total}
use Rattle.duality.proofs.Agree.{weight-as, total-as}
use Rattle.places.proofs.TightnessWith.{tightness-with}
use Rattle.places.proofs.EqualExactlyWhenBestWith.{total-with-as}
use Rattle.board.specs.Cells as place
use Rattle.board.specs.Live as placed
use Rattle.supply.specs.Board.{auction_of, places_at}
use Rattle.supply.specs.declared.record.Board.{Board}
use Rattle.std.specs.Prelude.{Ok, Err}
use Rattle.supply.specs.ByItem.{live, gain_at, price_at, matching_of}
use Rattle.supply.specs.Sound.{Sound}
use Rattle.refusals.specs.Demand1.{first_of, Verdict}
use Rattle.supply.specs.Lent.{read_out_checks}
use Rattle.board.specs.Lent.{written, Lists, lists}
use Rattle.auction.specs.ReadOut.{read_out_by, read_out_of}
use Rattle.auction.specs.Demand2.{Reads, ReadOutDemand2}
use Rattle.supply.proofs.SoundLaw.{sound-decides}
use Rattle.supply.proofs.ByItem.{sound-over-places, ones-as-auction}
use Rattle.board.proofs.Tests.{room-decides}
use Rattle.board.proofs.Written.{written-length, written_in, written-past}
use Rattle.refusals.proofs.Verdicts.{served-next}
use Rattle.auction.proofs.Demand2.{sound-demand-2}
use Rattle.auction.proofs.Told.{read-written}

-- Lists with room for it, of a sound board
reads : (b : Board) (l : Lists) → Sound b → b.market.arrived ≤ length l.plan → b.items.count ≤ length l.prices → b.market.arrived ≤ length l.gains →
    Reads b l (lists (written b.market.arrived (matching_of b) l.plan) (written b.items.count (price_at b) l.prices) (written b.market.arrived (gain_at b) l.gains))
reads b l sound room₁ room₂ room₃ =
    let plan = written_in b.market.arrived (matching_of b) l.plan room₁ in
    let prices = written_in b.items.count (price_at b) l.prices room₂ in
    let gains = written_in b.market.arrived (gain_at b) l.gains room₃ in
    record {
      plan = plan;
      prices = prices;
      gains = gains;
      plan_kept = written-past b.market.arrived (matching_of b) l.plan;
      prices_kept = written-past b.items.count (price_at b) l.prices;
      gains_kept = written-past b.market.arrived (gain_at b) l.gains;
      plan_length = written-length b.market.arrived (matching_of b) l.plan;
      prices_length = written-length b.items.count (price_at b) l.prices;
      gains_length = written-length b.market.arrived (gain_at b) l.gains;
      sum = omega (
        arith,
        total-with-as b.market.arrived b.items.count (places_at b) (price_at b) _ (gain_at b) _ prices gains,
        tightness-with b.market.arrived b.items.count (places_at b) (live b) _ (placed.matching_of (auction_of b)) (place.price_at (auction_of b)) (gain_at b)
            (sound-over-places b sound).matches (sound-over-places b sound).tight,
        ap (λ v. (b.market.slack.q + b.market.slack.p) * v) (weight-as b.market.arrived (live b) (matching_of b) _ plan),
      );
      whole = λ ones.
          let o = ones-as-auction b sound ones in
          total-as b.market.arrived b.items.count (place.price_at (auction_of b)) _ (gain_at b) _ (λ k m. prices k m ∙ o.price k m) gains
          ∙ ap (λ m. total b.market.arrived m (place.price_at (auction_of b)) (gain_at b)) (sym o.items)
          ∙ (sound-demand-2 b sound).sum
          ∙ ap (λ v. (b.market.slack.q + b.market.slack.p) * v) (sym (weight-as b.market.arrived (live b) (matching_of b) _ plan));
    }

pub read-out-demand-2 : ReadOutDemand2
unfolding read_out_of read_out_by
read-out-demand-2 b l after a = subst (Reads b l) a.lists (go (first_of (read_out_checks b l)) refl (read-written _ a.tells))
  where
    go : (v : Verdict) → first_of (read_out_checks b l) ≡ v → (read_out_by b l v).answer ≡ Ok tt → Reads b l (read_out_by b l v).lists
    go (Err r) e h = let z : ◌≡◌ {A = ℕ} 0 1 = cc in absurd (omega arith)
    go (Ok tt) e h =
        let u = served-next _ _ e in
        let sound = (sound-decides b).sound (not-false _ u.0) in
        let room = (room-decides _ _ _ _ _).sound (not-false _ (served-next _ _ u.1).0) in
        reads b l sound room.0 room.1.0 room.1.1
