-- A list of one acts as the withdrawal of one item did; an empty list changes nothing.
use mathlib.Core.Path.{◌≡◌, refl, sym}
use mathlib.Core.Bool.{Bool, true, false}
use mathlib.Core.List.{[], ◌∷◌}
use Prim.Native.Nat.{ℕ, suc, ◌-◌, ◌<◌}
use native.Mathlib.Omega.{arith}
use Rattle.duality.specs.Lists.{cells}
use Rattle.supply.specs.declared.record.Board.{Board}
use Rattle.refusals.specs.declared.Refusal.TheVariants.{Unknown, Gone, Spoilt}
use Rattle.std.specs.Prelude.{Ok, Err}
use Rattle.auction.specs.Withdraw.{Withdrawal, withdrawal, places_on, withdraw_rest, withdrawal_of, withdraw_by, withdraw_of}
use Rattle.refusals.specs.Each.{each_checks}
use Rattle.refusals.specs.Demand1.{first_of}
use Rattle.supply.specs.ByItem.{withdrawn_at}
use Rattle.board.specs.Ranges.{Within, within_test}
use Rattle.supply.specs.Board.{auction_of, on_items, places_at, start_in}
use Rattle.supply.specs.SoundTest.{sound_test}
use Rattle.supply.proofs.SoundLaw.{sound-decides}
use Rattle.supply.proofs.Spreading.{named_none, named-one}
use Rattle.auction.proofs.Lasting.{first_below}
use Rattle.board.proofs.Tests.{within-decides}
use Rattle.bidding.specs.Rule.{done}
use Rattle.bidding.specs.Moves.{withdrawn_one_of}
use Rattle.bidding.specs.Withdrawals.{withdrawn_of}
use Rattle.bidding.proofs.Withdrawing.{empty-list, list-of-one, withdrawn-is-chains}
use Rattle.auction.specs.Edges.{order_test}
use Rattle.auction.specs.Items.{item_checks}
use Rattle.auction.specs.OneItem.{withdraw_one_checks, withdraw_one_by, withdraw_one_of, SameButPlace, OneAsBefore, NoneChanged}

abbrev Alike : Board → ℕ → Type 0
Alike b item = (r : Withdrawal) × (s : Withdrawal) × (withdraw_of b (item ∷ []) ≡ done r) × (withdraw_one_of b item ≡ done s) × SameButPlace r s

module _ (b : Board) (item : ℕ) (single : Within 1 b.items.count item → places_at b (item - 1) ≡ 1) where
  spoilt : sound_test b ≡ false → Alike b item
  unfolding withdraw_of withdraw_by first_of withdraw_one_checks withdraw_one_by
  spoilt e =
      (withdrawal b (Err Spoilt), withdrawal b (Err Spoilt), rw e refl, rw e refl, record { board = refl; number = refl; value = refl })

  module _ (s : sound_test b ≡ true) where
    unknown : within_test b.items.count item ≡ false → Alike b item
    unfolding withdraw_of withdraw_by withdraw_rest item_checks each_checks first_of withdraw_one_checks withdraw_one_by
    unknown e =
        (withdrawal b (Err (Unknown 1)), withdrawal b (Err (Unknown 0)), rw (s, e) refl, rw (s, e) refl, record { board = refl; number = refl; value = refl })

    module _ (e : within_test b.items.count item ≡ true) where
      gone : withdrawn_at b (item - 1) ≡ true → Alike b item
      unfolding withdraw_of withdraw_by withdraw_rest item_checks each_checks first_of withdraw_one_checks withdraw_one_by
      gone f =
          (withdrawal b (Err (Gone 1)), withdrawal b (Err (Gone 0)), rw (s, e, f) refl, rw (s, e, f) refl, record { board = refl; number = refl; value = refl })

      leaves : withdrawn_at b (item - 1) ≡ false → Alike b item
      unfolding withdraw_of withdraw_by withdraw_rest item_checks each_checks order_test first_of withdraw_one_checks withdraw_one_by withdrawal_of
      leaves f =
          let sound = (sound-decides b).sound s in
          let k = (within-decides b.items.count item).sound e in
          let first = start_in b.items (item - 1) in
          let here : first < b.market.items = first_below b sound (item - 1) (omega (arith, k.low, k.high)) in
          let places : places_on b.items (item ∷ []) ≡ suc first ∷ [] = named-one b.items (cells (item ∷ [])) (single k) in
          let w = withdrawn-is-chains (auction_of b) (cells (suc first ∷ [])) 1 sound.auction (λ i l. let z : i ≡ 0 = omega arith in rw z (record { low = omega arith; high = here })) in
          let old : withdrawn_one_of (auction_of b) first ≡ withdrawn_of (auction_of b) (cells (suc first ∷ [])) 1 =
          sym (list-of-one (auction_of b) (cells (suc first ∷ [])) first sound.auction here refl) in
          let after = withdrawal (on_items b.items w.board) (Ok w.bids) in
          (after, after, rw (s, e, f, places, w.computed) refl, rw (s, e, f, old, w.computed) refl, record { board = refl; number = refl; value = refl })

      by_flag : (t : Bool) → withdrawn_at b (item - 1) ≡ t → Alike b item
      by_flag true f = gone f
      by_flag false f = leaves f

    by-range : (t : Bool) → within_test b.items.count item ≡ t → Alike b item
    by-range true e = by_flag e (withdrawn_at b (item - 1)) refl
    by-range false e = unknown e

  by-soundness : (t : Bool) → sound_test b ≡ t → Alike b item
  by-soundness true s = by-range s (within_test b.items.count item) refl
  by-soundness false e = spoilt e

pub one-as-before : OneAsBefore
one-as-before b item single = by-soundness b item single (sound_test b) refl

pub none-changed : NoneChanged
unfolding withdraw_of withdraw_by withdraw_rest each_checks first_of withdrawal_of
none-changed b s = let e = (sound-decides b).complete s in rw (e, named_none b.items (cells []), empty-list (auction_of b) (cells [])) refl
