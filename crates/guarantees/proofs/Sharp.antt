-- A sheet at equality that does not come out exact, by computation: its text is replayed, the test of soundness and all.
use Rattle.std.specs.Prelude.{Ok}
use mathlib.Core.Path.{◌≡◌, refl, ◌∙◌}
use Prim.Native.Nat.{◌+◌, ◌*◌}
use native.Mathlib.Omega.{arith}
use Rattle.duality.specs.Decide.{all_below}
use Rattle.text.specs.Number.{field_at}
use Rattle.text.specs.Line.{fields_at, line_at}
use Rattle.text.specs.Print.{decimal}
use Rattle.refusals.specs.Each.{each_checks}
use Rattle.refusals.specs.Demand1.{first_of}
use Rattle.board.specs.Live.{held_by}
use Rattle.board.specs.Lent.{written}
use Rattle.board.specs.Opening as place
use Rattle.board.specs.Ranges.{within_test, slack_test}
use Rattle.board.specs.SoundTest.{formed_test, limits_test, holder_test, holders_test, item_test, items_test, edge_test, row_test, pair_test, place_test, bidder_test}
use Rattle.board.specs.SoundTest as placed
use Rattle.supply.specs.Opening.{items_of, opened, open_checks, open_by, open_of}
use Rattle.supply.specs.Spread.{spread_row}
use Rattle.supply.specs.ByItem.{matching_weight}
use Rattle.supply.specs.Sound.{Sound}
use Rattle.supply.specs.SoundTest.{count_test, counts_test, laid_test, column_test, alike_test, sound_test}
use Rattle.bidding.specs.Potential.{edge_count}
use Rattle.bidding.specs.Rule.{offer_of, best_of, placed_at, displaced, hand_over, bid_of, settle_of}
use Rattle.bidding.specs.Moves.{entered, arrived_of}
use Rattle.auction.specs.Edges.{order_test, edge_checks, row_to}
use Rattle.auction.specs.Arrive.{arrival_of, arrive_rest, arrive_by, arrive_of}
use Rattle.auction.proofs.Histories.{history-demand-2}
use Rattle.replay.specs.Replay.{pairs_of, command_of, finished, after_arrived, after_arrival, carry_out, lines_from, place_line, place_lines, after_opened, first_line, replay_of}
use Rattle.replay.specs.ReplayLaws.{TextReached}
use Rattle.hungarian.specs.Exact.{greatest_on}
use Rattle.history.specs.Output.{bidder_lines, item_lines, output_of}
use Rattle.history.proofs.Demand1.{sheets-demand-1}
use Rattle.history.proofs.Plans.{text-reached}
use Rattle.guarantees.specs.Small.{sharp, sharp_text, sharp_printed, SmallIsSharp}

replayed : replay_of sharp_text ≡ finished sharp 1
unfolding
    replay_of first_line after_opened place_lines place_line command_of line_at fields_at field_at open_of open_by open_checks each_checks
    lines_from carry_out pairs_of after_arrival after_arrived
    edge_count offer_of best_of placed_at displaced hand_over bid_of settle_of first_of order_test edge_checks row_to
    items_of place.opened opened written spread_row arrive_rest entered arrival_of arrived_of arrive_by arrive_of
    sound_test laid_test counts_test count_test column_test alike_test
    placed.sound_test formed_test limits_test within_test slack_test holders_test holder_test items_test item_test bidder_test row_test edge_test place_test pair_test
    all_below held_by sharp
replayed = refl

-- Both weights, and that the two are equal
weighs : (matching_weight sharp ≡ 1) × (greatest_on sharp ≡ 2) × (2 * sharp.market.slack.p * greatest_on sharp ≡ sharp.market.slack.q + sharp.market.slack.p)
unfolding sharp held_by
weighs = (refl, refl, refl)

prints : output_of sharp 1 ≡ sharp_printed
unfolding output_of bidder_lines item_lines decimal sharp held_by
prints = refl

pub small-is-sharp : SmallIsSharp
small-is-sharp =
    record {
      sound = sound;
      equal = weighs.2;
      less = omega (arith, weighs.0, weighs.1);
      false = λ h. omega (arith, (h sharp sound (omega (arith, weighs.2))).greatest, weighs.0, weighs.1);
      text = reached;
      printed = (sheets-demand-1 sharp_text).plans sharp reached.entries 1 reached.lines ∙ prints;
    }
  where
    reached : TextReached sharp_text sharp 1
    reached = text-reached sharp_text (record { board = sharp; answer = Ok tt; bids = 1 }) replayed refl

    sound : Sound sharp
    sound = (history-demand-2 sharp reached.entries 1 reached.reached).sound
