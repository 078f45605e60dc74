-- The soundness test on a full board.
use mathlib.Core.Path.{◌≡◌, refl, ap, ◌∙◌}
use mathlib.Core.Bool.{true}
use Prim.Native.Nat.{ℕ, ◌<◌}
use native.Mathlib.Omega.{arith}
use lib.ListN.{get_or, replicate, get_or-replicate}
use Rattle.duality.specs.Decide.{all_below}
use Rattle.places.specs.Places.{Ones}
use Rattle.places.proofs.PlaceLaws.{places-of-ones}
use Rattle.board.specs.Limits.{max_items}
use Rattle.board.specs.Live.{held_by}
use Rattle.board.specs.Ranges.{within_test, slack_test}
use Rattle.board.specs.SoundTest.{formed_test, limits_test, holder_test, holders_test, item_test, items_test, edge_test, row_test, pair_test, place_test, bidder_test}
use Rattle.board.specs.SoundTest as placed
use Rattle.board.proofs.SoundLaw as law
use Rattle.supply.specs.declared.record.Board.{Board}
use Rattle.supply.specs.Board.{auction_of, places_at, start_in, item_at}
use Rattle.supply.specs.SoundTest.{count_test, counts_test, laid_test, sound_test}
use Rattle.supply.proofs.SoundLaw.{laid-decides, sound-decides}
use Rattle.cases.specs.FullBoard.{count, full, FullSound, FullUnsound}

-- One place for each of 64 items
pub ones-64 : Ones max_items (λ k. get_or (replicate max_items 1) k 0)
ones-64 k l = get_or-replicate max_items k 1 0 l

-- Where every item has one place, each place is its item's first, so that the auction decides
pub ones_sound : (b : Board) → laid_test b.items b.market.items ≡ true → Ones b.items.count (places_at b) → placed.sound_test (auction_of b) ≡ true →
    sound_test b ≡ true
ones_sound b laid ones auction =
    let h = (laid-decides b.items b.market.items).sound laid in
    (sound-decides b).complete
    (record {
      laid = h;
      auction = (law.sound-decides (auction_of b)).sound auction;
      alike = λ s l.
          let e = itself s (omega (arith, h.all, (places-of-ones (places_at b) b.items.count ones).0)) in
          record {
            flag = rw e;
            edges = λ i m. rw e;
          };
    })
  where
    itself : (s : ℕ) → s < b.items.count → start_in b.items (item_at b.items s) ≡ s
    itself s l =
        ap (start_in b.items) ((places-of-ones (places_at b) b.items.count ones).1 s l)
        ∙ (places-of-ones (places_at b) s (λ k m. ones k (omega arith))).0

full-laid : laid_test (full 3).items (full 3).market.items ≡ true
unfolding laid_test counts_test count_test within_test all_below full
full-laid = refl

full-auction : placed.sound_test (auction_of (full 3)) ≡ true
unfolding
    placed.sound_test formed_test limits_test within_test slack_test holders_test holder_test items_test item_test bidder_test row_test edge_test place_test pair_test
    all_below held_by full count
full-auction = refl

full-ones : Ones (full 3).items.count (places_at (full 3))
unfolding full
full-ones = ones-64

pub full-sound : FullSound
full-sound = ones_sound (full 3) full-laid full-ones full-auction

pub full-unsound : FullUnsound
unfolding
    sound_test laid_test counts_test count_test
    placed.sound_test formed_test limits_test within_test slack_test holders_test holder_test items_test item_test bidder_test row_test edge_test place_test pair_test
    all_below held_by full count
full-unsound = refl
