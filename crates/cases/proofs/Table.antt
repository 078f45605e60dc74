-- The starred cases hold, by computation.
use mathlib.Core.Path.{◌≡◌, refl, ◌∙◌}
use mathlib.Core.List.{List, [], ◌∷◌, map}
use Rattle.board.specs.Live.{held_by}
use Rattle.bidding.specs.Potential.{edge_count}
use Rattle.bidding.specs.Rule.{offer_of, best_of, placed_at, displaced, hand_over, bid_of, settle_of}
use Rattle.refusals.specs.Demand1.{first_of}
use Rattle.board.specs.Ranges.{within_test, slack_test}
use Rattle.refusals.specs.Each.{each_checks}
use Rattle.auction.specs.Edges.{order_test, edge_checks, row_to}
use Rattle.auction.specs.Items.{item_checks}
use Rattle.board.specs.Opening as place
use Rattle.supply.specs.Opening.{items_of, opened, open_checks, open_by, open_of}
use Rattle.supply.specs.Spread.{spread_row, numbers_from, places_named}
use Rattle.auction.specs.Arrive.{arrive_rest, arrival_of, arrive_by}
use Rattle.bidding.specs.Moves.{entered, arrived_of, released}
use Rattle.bidding.specs.Withdrawals.{displaced_if, vacated, vacated_to, named_in, roll_of, more_bids, next_chain, chains_from, withdrawn_of}
use Rattle.auction.specs.Withdraw.{withdraw_rest, withdrawal_of, withdraw_by}
use Rattle.duality.specs.Decide.{all_below}
use Rattle.places.specs.PlanTest.{cell_test_with}
use Rattle.certificate.specs.Check.{even_test, price_test, covered_test, check_by, list_checks, check_rest}
use Rattle.cases.specs.Play.{after_check, after_read_out, after_arrive, after_withdraw, played, withdrew, play}
use Rattle.board.specs.Lent.{written, room_test}
use Rattle.auction.specs.ReadOut.{read_out_by}
use Rattle.cases.specs.Table.{Row, table, Cases}
use Rattle.cases.specs.Refused.{refusals}
use Rattle.cases.proofs.Skips.{skip_all, skip_opening, skip, play-skips}

pub all-played : (rows : List Row) → map (λ r. play r.case) rows ≡ map (λ r. skip r.case) rows
all-played [] = refl
all-played (r ∷ rows) = rw (play-skips r.case, all-played rows)

computed : map (λ r. skip r.case) table ≡ map (λ r. r.seen) table
unfolding
    table skip check_rest after_check list_checks price_test covered_test even_test check_by cell_test_with all_below
    skip_opening skip_all after_arrive after_withdraw played withdrew held_by edge_count
    offer_of best_of placed_at displaced hand_over bid_of settle_of first_of within_test order_test edge_checks item_checks each_checks row_to
    items_of place.opened opened slack_test open_checks open_by open_of written spread_row numbers_from places_named
    arrive_rest entered arrival_of arrived_of arrive_by withdraw_rest released withdrawal_of withdraw_by
    displaced_if vacated vacated_to named_in roll_of more_bids next_chain chains_from withdrawn_of
computed = refl

pub computed-refusals : map (λ r. skip r.case) refusals ≡ map (λ r. r.seen) refusals
unfolding
    refusals skip check_rest after_check list_checks price_test covered_test even_test check_by cell_test_with all_below
    skip_opening skip_all after_arrive after_withdraw after_read_out played withdrew held_by edge_count room_test read_out_by
    offer_of best_of placed_at displaced hand_over bid_of settle_of first_of within_test order_test edge_checks item_checks each_checks row_to
    items_of place.opened opened slack_test open_checks open_by open_of written spread_row numbers_from places_named
    arrive_rest entered arrival_of arrived_of arrive_by withdraw_rest released withdrawal_of withdraw_by
    displaced_if vacated vacated_to named_in roll_of more_bids next_chain chains_from withdrawn_of
computed-refusals = refl

pub cases : Cases
cases = all-played table ∙ computed
