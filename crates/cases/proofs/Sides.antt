-- The worked comparisons hold, by computation.
use mathlib.Core.Path.{◌≡◌, refl, sym, ap, ◌∙◌}
use mathlib.Core.Bool.{true}
use mathlib.Core.List.{List, map}
use Prim.Native.Nat.{ℕ}
use lib.IntN.{pos, negsuc}
use Rattle.duality.specs.Decide.{all_below}
use Rattle.places.specs.PlanTest.{cell_test_with}
use Rattle.refusals.specs.Demand1.{first_of}
use Rattle.refusals.specs.Each.{each_checks}
use Rattle.board.specs.Live.{held_by}
use Rattle.board.specs.Ranges.{within_test, slack_test}
use Rattle.board.specs.Opening as place
use Rattle.supply.specs.Opening.{items_of, opened, open_checks, open_by, open_of}
use Rattle.supply.specs.Spread.{spread_row, numbers_from, places_named}
use Rattle.board.specs.Lent.{written}
use Rattle.board.specs.SoundTest.{formed_test, limits_test, holder_test, holders_test, item_test, items_test, edge_test, row_test, pair_test, place_test, bidder_test}
use Rattle.board.specs.SoundTest as placed
use Rattle.places.specs.Places.{Ones}
use Rattle.supply.specs.Board.{auction_of, places_at}
use Rattle.supply.specs.SoundTest.{count_test, counts_test, laid_test, sound_test}
use Rattle.bidding.specs.Rule.{offer_of, best_of, placed_at, displaced, hand_over, bid_of, settle_of}
use Rattle.bidding.specs.Potential.{edge_count}
use Rattle.bidding.specs.Moves.{entered, arrived_of, released}
use Rattle.bidding.specs.Withdrawals.{displaced_if, vacated, vacated_to, named_in, roll_of, more_bids, next_chain, chains_from, withdrawn_of}
use Rattle.auction.specs.Edges.{order_test, edge_checks, row_to}
use Rattle.auction.specs.Items.{item_checks}
use Rattle.auction.specs.Arrive.{arrive_rest, arrival_of, arrive_by}
use Rattle.auction.specs.Withdraw.{withdraw_rest, withdrawal_of, withdraw_by}
use Rattle.comparison.specs.Compare.{plans_checks, smaller_first, cells_order, compare_by, compare_of, compared_told}
use Rattle.comparison.proofs.Outcomes.{plans_on}
use Rattle.cases.proofs.Outcomes.{compare-spoilt, compare-plans}
use Rattle.cases.specs.FullBoard.{count, full}
use Rattle.cases.specs.Play.{after_compare, after_arrive, after_withdraw, played, withdrew}
use Rattle.cases.specs.Sides.{side_rows, heavy, every_item, no_item, told_as, Sides}
use Rattle.cases.proofs.FullBoard.{ones-64, ones_sound, full-unsound}
use Rattle.cases.proofs.Skips.{skip_all, skip_opening, skip}
use Rattle.cases.proofs.Table.{all-played}

computed : map (λ r. skip r.case) side_rows ≡ map (λ r. r.seen) side_rows
unfolding
    side_rows skip after_compare plans_checks smaller_first cells_order compare_by cell_test_with all_below
    skip_opening skip_all after_arrive after_withdraw played withdrew held_by edge_count
    offer_of best_of placed_at displaced hand_over bid_of settle_of first_of within_test order_test edge_checks item_checks each_checks row_to
    items_of place.opened opened slack_test open_checks open_by open_of written spread_row numbers_from places_named
    arrive_rest entered arrival_of arrived_of arrive_by withdraw_rest released withdrawal_of withdraw_by
    displaced_if vacated vacated_to named_in roll_of more_bids next_chain chains_from withdrawn_of
computed = refl

heavy-laid : laid_test heavy.items heavy.market.items ≡ true
unfolding laid_test counts_test count_test within_test all_below heavy
heavy-laid = refl

heavy-auction : placed.sound_test (auction_of heavy) ≡ true
unfolding
    placed.sound_test formed_test limits_test within_test slack_test holders_test holder_test items_test item_test bidder_test row_test edge_test place_test pair_test
    all_below held_by heavy count
heavy-auction = refl

heavy-ones : Ones heavy.items.count (places_at heavy)
unfolding heavy
heavy-ones = ones-64

heavy-sound : sound_test heavy ≡ true
heavy-sound = ones_sound heavy heavy-laid heavy-ones heavy-auction

module _ (first second : List ℕ) where
  -- The board is sound, so the plans decide
  on-heavy : compared_told (compare_by heavy first second (first_of (plans_on heavy first second))) ≡ compared_told (compare_of heavy first second)
  on-heavy = ap compared_told (compare-plans heavy first second heavy-sound)

high : compared_told (compare_by heavy every_item no_item (first_of (plans_on heavy every_item no_item))) ≡ told_as 0 0 (pos 64000000) 1
unfolding heavy every_item no_item count plans_checks smaller_first cells_order compare_by cell_test_with all_below first_of each_checks
high = refl

low : compared_told (compare_by heavy no_item every_item (first_of (plans_on heavy no_item every_item))) ≡ told_as 0 0 (negsuc 63999999) 3
unfolding heavy every_item no_item count plans_checks smaller_first cells_order compare_by cell_test_with all_below first_of each_checks
low = refl

zero : compared_told (compare_by heavy every_item every_item (first_of (plans_on heavy every_item every_item))) ≡ told_as 0 0 (pos 0) 2
unfolding heavy every_item count plans_checks smaller_first cells_order compare_by cell_test_with all_below first_of each_checks
zero = refl

pub side_by_side : Sides
side_by_side =
    record {
      rows = all-played side_rows ∙ computed;
      high = sym (on-heavy every_item no_item) ∙ high;
      low = sym (on-heavy no_item every_item) ∙ low;
      zero = sym (on-heavy every_item every_item) ∙ zero;
      spoilt = λ first second. sym (ap compared_told (compare-spoilt (full 4) first second full-unsound));
      earlier = refl;
      same = refl;
      later = refl;
      refusal = refl;
    }
