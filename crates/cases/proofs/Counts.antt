-- The worked counts hold, by computation.
use mathlib.Core.Path.{◌≡◌, refl, sym, ap, ◌∙◌}
use mathlib.Core.Bool.{true}
use mathlib.Core.List.{map}
use Rattle.refusals.specs.Demand1.{first_of}
use Rattle.refusals.specs.Each.{each_checks}
use Rattle.board.specs.Live.{held_by}
use Rattle.board.specs.Ranges.{within_test, slack_test}
use Rattle.board.specs.Opening as place
use Rattle.supply.specs.Opening.{items_of, opened, open_checks, open_by, open_of}
use Rattle.supply.specs.Spread.{spread_row, numbers_from, places_named}
use Rattle.board.specs.Lent.{written}
use Rattle.bidding.specs.Rule.{offer_of, best_of, placed_at, displaced, hand_over, bid_of, settle_of}
use Rattle.bidding.specs.Potential.{edge_count}
use Rattle.bidding.specs.Moves.{entered, arrived_of, released}
use Rattle.bidding.specs.Withdrawals.{displaced_if, vacated, vacated_to, named_in, roll_of, more_bids, next_chain, chains_from, withdrawn_of}
use Rattle.auction.specs.Edges.{order_test, edge_checks, row_to}
use Rattle.auction.specs.Items.{item_checks}
use Rattle.auction.specs.Arrive.{arrive_rest, arrival_of, arrive_by}
use Rattle.auction.specs.Withdraw.{withdraw_rest, withdrawal_of, withdraw_by}
use Rattle.counting.specs.Call.{large_test, count_by, counted_told}
use Rattle.cases.proofs.Outcomes.{count-spoilt, count-large}
use Rattle.cases.specs.FullBoard.{full}
use Rattle.cases.specs.Play.{after_count, after_arrive, after_withdraw, played, withdrew}
use Rattle.cases.specs.Counts.{count_rows, WorkedCounts}
use Rattle.cases.proofs.FullBoard.{full-sound, full-unsound}
use Rattle.cases.proofs.Skips.{skip_all, skip_opening, skip}
use Rattle.cases.proofs.Table.{all-played}

computed : map (λ r. skip r.case) count_rows ≡ map (λ r. r.seen) count_rows
unfolding
    count_rows skip after_count large_test count_by
    skip_opening skip_all after_arrive after_withdraw played withdrew held_by edge_count
    offer_of best_of placed_at displaced hand_over bid_of settle_of first_of within_test order_test edge_checks item_checks each_checks row_to
    items_of place.opened opened slack_test open_checks open_by open_of written spread_row numbers_from places_named
    arrive_rest entered arrival_of arrived_of arrive_by withdraw_rest released withdrawal_of withdraw_by
    displaced_if vacated vacated_to named_in roll_of more_bids next_chain chains_from withdrawn_of
computed = refl

full-large : large_test (full 3).market.arrived (full 3).market.items ≡ true
unfolding large_test full
full-large = refl

pub worked-counts : WorkedCounts
worked-counts =
    record {
      rows = all-played count_rows ∙ computed;
      spoilt = sym (ap counted_told (count-spoilt (full 4) full-unsound));
      large = sym (ap counted_told (count-large (full 3) full-sound full-large));
      weight = refl;
      refusal = refl;
    }
