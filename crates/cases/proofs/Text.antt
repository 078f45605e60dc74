-- The texts, by computation. The boards on the way are sound, so the test of soundness need not be computed.
use Rattle.refusals.specs.declared.Refusal.{Refusal}
use Rattle.std.specs.Prelude.{Err, Ok, Result}
use mathlib.Core.Path.{◌≡◌, refl, ap, ap₂, ◌∙◌}
use mathlib.Core.Bool.{cond}
use mathlib.Core.List.{List, [], ◌∷◌, ◌++◌}
use Prim.Native.Nat.{ℕ, zero, suc, ◌+◌}
use lib.ListN.{length}
use lib.Dec.{ltb}
use Rattle.text.specs.Number.{field_at}
use Rattle.text.specs.Line.{fields_at, line_at}
use Rattle.text.specs.Print.{decimal}
use Rattle.supply.specs.declared.record.Board.{Board}
use Rattle.board.specs.declared.record.Edge.{Edge}
use Rattle.auction.specs.Arrive.{Arrival, arrival_of, arrive_rest, arrive_by, arrive_of}
use Rattle.auction.specs.Withdraw.{Withdrawal, withdraw_rest, withdrawal_of, withdraw_by, withdraw_of}
use Rattle.replay.specs.declared.Replayed.{Replayed}
use Rattle.supply.specs.Sound.{Sound}
use Rattle.board.specs.Live.{held_by}
use Rattle.bidding.specs.Potential.{edge_count}
use Rattle.bidding.specs.Rule.{Outcome, done, spent, offer_of, best_of, placed_at, displaced, hand_over, bid_of, settle_of}
use Rattle.board.specs.Ranges.{within_test, slack_test}
use Rattle.refusals.specs.Each.{each_checks}
use Rattle.auction.specs.Edges.{order_test, edge_checks, row_to}
use Rattle.auction.specs.Items.{item_checks}
use Rattle.refusals.specs.Demand1.{first_of}
use Rattle.board.specs.Opening as place
use Rattle.supply.specs.Opening.{items_of, opened, open_checks, open_by, open_of}
use Rattle.supply.specs.Spread.{spread_row, numbers_from, places_named}
use Rattle.board.specs.Lent.{written}
use Rattle.bidding.specs.Moves.{entered, arrived_of, released}
use Rattle.bidding.specs.Withdrawals.{displaced_if, vacated, vacated_to, named_in, roll_of, more_bids, next_chain, chains_from, withdrawn_of}
use Rattle.replay.specs.Replay.{pairs_of, Command, opens, places, arrives, withdraws, malformed, command_of, finished, after_arrived, after_arrival, after_withdrawn, after_withdrawal, carry_out, lines_from, place_checks, after_places, place_line, place_lines, after_opened, first_line, replay_of}
use Rattle.supply.proofs.Openings.{opened-sound}
use Rattle.auction.proofs.Demand2.{arrive-demand-2, withdraw-demand-2}
use Rattle.history.specs.Output.{bidder_lines, item_lines, output_of}
use Rattle.history.specs.Plan.{sheet_of, printed_by, printed}
use Rattle.layout.specs.Page.{padded, heading, row_line, breaks}
use Rattle.page.specs.Rows.{board_page}
use Rattle.history.specs.Wall.{wall_by, wall_from, wall_of}
use Rattle.cases.specs.Pages.{head, line1, line2, line2_unplaced, tied1, tied2}
use Rattle.cases.specs.Text.{text1, printed1, text2, printed2, text_tied, printed_tied, printed_bare, text_double, printed_double, first_line1, texts, Texts, Starred}
use Rattle.cases.proofs.Skips.{arrive-skips, withdraw-skips}
use Rattle.cases.proofs.Table.{cases}
use Rattle.cases.proofs.Ties.{ties}

-- The lines without the test
unfoldable skip_out : (Board → ℕ → Outcome Replayed) → ℕ → Board → ℕ → Command → Outcome Replayed
skip_out next n b bids (opens k p q) = carry_out next n b bids (opens k p q)
skip_out next n b bids (places k c) = carry_out next n b bids (places k c)
skip_out next n b bids (arrives edges) = after_arrival next n bids (arrive_by b edges (first_of (arrive_rest b edges)))
skip_out next n b bids (withdraws items) = after_withdrawal next n bids (withdraw_by b items (first_of (withdraw_rest b items)))
skip_out next n b bids malformed = carry_out next n b bids malformed

unfoldable skip_lines : ℕ → List ℕ → ℕ → ℕ → Board → ℕ → Outcome Replayed
skip_lines zero s at n b bids = spent
skip_lines (suc fuel) s at n b bids =
    cond (ltb at (length s))
    (skip_out (λ c more. skip_lines fuel s (line_at s at).next (n + 1) c more) n b bids (command_of (line_at s at)))
    (finished b bids)

module _ (next skip : Board → ℕ → Outcome Replayed) (ih : (b : Board) (bids : ℕ) → Sound b → next b bids ≡ skip b bids) where
  arrivals : (n : ℕ) (b : Board) (bids : ℕ) (edges : List Edge) (o : Outcome Arrival) → arrive_of b edges ≡ o → after_arrival next n bids o ≡ after_arrival skip n bids o
  unfolding after_arrival after_arrived
  arrivals n b bids edges spent e = refl
  arrivals n b bids edges (done a) e = go a.answer refl
    where
      go : (x : Result ℕ Refusal) → a.answer ≡ x → after_arrived next n a.board bids x ≡ after_arrived skip n a.board bids x
      go (Ok k) h =
          let f : arrive_of b edges ≡ done (record { board = a.board; answer = Ok k }) = rw (← h) e in
          ih a.board (bids + k) (arrive-demand-2 b a.board edges k (record { answer = Ok k; outcome = f; tells = refl })).after
      go (Err r) h = refl

  withdrawals : (n : ℕ) (b : Board) (bids : ℕ) (items : List ℕ) (o : Outcome Withdrawal) → withdraw_of b items ≡ o → after_withdrawal next n bids o ≡ after_withdrawal skip n bids o
  unfolding after_withdrawal after_withdrawn
  withdrawals n b bids items spent e = refl
  withdrawals n b bids items (done a) e = go a.answer refl
    where
      go : (x : Result ℕ Refusal) → a.answer ≡ x → after_withdrawn next n a.board bids x ≡ after_withdrawn skip n a.board bids x
      go (Ok k) h =
          let f : withdraw_of b items ≡ done (record { board = a.board; answer = Ok k }) = rw (← h) e in
          ih a.board (bids + k) (withdraw-demand-2 b a.board items k (record { answer = Ok k; outcome = f; tells = refl })).after
      go (Err r) h = refl

  line-skips : (n : ℕ) (b : Board) (bids : ℕ) → Sound b → (x : Command) → carry_out next n b bids x ≡ skip_out skip n b bids x
  unfolding carry_out skip_out
  line-skips n b bids s (opens k p q) = refl
  line-skips n b bids s (places k c) = refl
  line-skips n b bids s (arrives edges) = arrivals n b bids edges _ refl ∙ ap (after_arrival skip n bids) (arrive-skips b edges s)
  line-skips n b bids s (withdraws items) = withdrawals n b bids items _ refl ∙ ap (after_withdrawal skip n bids) (withdraw-skips b items s)
  line-skips n b bids s malformed = refl

lines-skip : (fuel : ℕ) (s : List ℕ) (at n : ℕ) (b : Board) (bids : ℕ) → Sound b → lines_from fuel s at n b bids ≡ skip_lines fuel s at n b bids
unfolding lines_from skip_lines
lines-skip zero s at n b bids sound = refl
lines-skip (suc fuel) s at n b bids sound =
    ap (λ x. cond (ltb at (length s)) x (finished b bids))
    (line-skips (λ c more. lines_from fuel s (line_at s at).next (n + 1) c more) (λ c more. skip_lines fuel s (line_at s at).next (n + 1) c more)
    (λ c more. lines-skip fuel s (line_at s at).next (n + 1) c more) n b bids sound (command_of (line_at s at)))

-- The boards that the texts open: two items of one place each at 1/10, three of these, and one of two places at 1/2
abbrev plain : Board
plain = opened 1 10 (1 ∷ 1 ∷ [])

abbrev three : Board
three = opened 1 10 (1 ∷ 1 ∷ 1 ∷ [])

abbrev double : Board
double = opened 1 2 (2 ∷ [])

plain-sound : Sound plain
unfolding open_checks each_checks slack_test within_test first_of
plain-sound = opened-sound 2 1 10 (1 ∷ 1 ∷ []) refl

three-sound : Sound three
unfolding open_checks each_checks slack_test within_test first_of
three-sound = opened-sound 3 1 10 (1 ∷ 1 ∷ 1 ∷ []) refl

double-sound : Sound double
unfolding open_checks each_checks slack_test within_test first_of
double-sound = opened-sound 1 1 2 (2 ∷ []) refl

-- The lines before byte `at` are read, and open the board b; line n comes next
abbrev OpensTo : List ℕ → ℕ → ℕ → Board → Type 0
OpensTo s at n b = replay_of s ≡ lines_from (suc (length s)) s at n b 0

-- The further lines, without the test
abbrev Further : List ℕ → ℕ → ℕ → Board → Outcome Replayed
Further s at n b = skip_lines (suc (length s)) s at n b 0

module _ (s : List ℕ) (at n : ℕ) (b : Board) (sound : Sound b) (e : OpensTo s at n b) where
  opens-skip : replay_of s ≡ Further s at n b
  opens-skip = e ∙ lines-skip (suc (length s)) s at n b 0 sound

  -- A text that opens such a board prints what its further lines give
  opens-so : (out : List ℕ) → printed (Further s at n b) ≡ out → sheet_of s ≡ out
  unfolding sheet_of
  opens-so out f = ap printed opens-skip ∙ f

  -- R-2: and on paper
  opens-page : (out : List ℕ) → wall_from (Further s at n b) ≡ out → wall_of s ≡ out
  unfolding wall_of
  opens-page out f = ap wall_from opens-skip ∙ f

-- The first line opens the plain board
abbrev Opens : List ℕ → Type 0
Opens s = OpensTo s 9 2 plain

-- What the further lines print
abbrev Prints : List ℕ → List ℕ → Type 0
Prints s out = printed (Further s 9 2 plain) ≡ out

abbrev PrintsPage : List ℕ → List ℕ → Type 0
PrintsPage s out = wall_from (Further s 9 2 plain) ≡ out

plain-so : (s out : List ℕ) → Opens s → Prints s out → sheet_of s ≡ out
plain-so s out e f = opens-so s 9 2 plain plain-sound e out f

plain-page : (s out : List ℕ) → Opens s → PrintsPage s out → wall_of s ≡ out
plain-page s out e f = opens-page s 9 2 plain plain-sound e out f

-- The texts of the table that open such a board, in its order
all-open : Opens text1 × Opens text2 × OpensTo text_tied 9 2 three × Opens (first_line1 ++ (65 ∷ 9 ∷ 51 ∷ 9 ∷ 53 ∷ 10 ∷ [])) × Opens (first_line1 ++ ((87 ∷ 9 ∷ 49 ∷ 10 ∷ []) ++ (87 ∷ 9 ∷ 49 ∷ 10 ∷ []))) ×
    Opens (text1 ++ (87 ∷ 9 ∷ 49 ∷ 9 ∷ 50 ∷ 10 ∷ [])) × Opens (first_line1 ++ (87 ∷ 10 ∷ [])) ×
    Opens (first_line1 ++ (87 ∷ 9 ∷ 49 ∷ [])) × Opens (first_line1 ++ (65 ∷ 9 ∷ 51 ∷ 10 ∷ [])) ×
    Opens (first_line1 ++ ((65 ∷ 10 ∷ []) ++ (80 ∷ 9 ∷ 49 ∷ 9 ∷ 50 ∷ 10 ∷ [])))
unfolding replay_of first_line after_opened place_lines place_line command_of line_at fields_at field_at open_of open_by open_checks each_checks slack_test within_test first_of
all-open = (refl, refl, refl, refl, refl, refl, refl, refl, refl, refl)

all-print : Prints text1 printed1 × Prints text2 printed2 × (printed (Further text_tied 9 2 three) ≡ printed_tied) ×
    Prints (first_line1 ++ (65 ∷ 9 ∷ 51 ∷ 9 ∷ 53 ∷ 10 ∷ [])) (82 ∷ 9 ∷ 52 ∷ 9 ∷ 50 ∷ 10 ∷ []) ×
    Prints (first_line1 ++ ((87 ∷ 9 ∷ 49 ∷ 10 ∷ []) ++ (87 ∷ 9 ∷ 49 ∷ 10 ∷ []))) (82 ∷ 9 ∷ 53 ∷ 9 ∷ 51 ∷ 10 ∷ []) ×
    Prints (text1 ++ (87 ∷ 9 ∷ 49 ∷ 9 ∷ 50 ∷ 10 ∷ [])) printed_bare ×
    Prints (first_line1 ++ (87 ∷ 10 ∷ [])) (82 ∷ 9 ∷ 49 ∷ 52 ∷ 9 ∷ 50 ∷ 10 ∷ []) ×
    Prints (first_line1 ++ (87 ∷ 9 ∷ 49 ∷ [])) (82 ∷ 9 ∷ 49 ∷ 52 ∷ 9 ∷ 50 ∷ 10 ∷ []) ×
    Prints (first_line1 ++ (65 ∷ 9 ∷ 51 ∷ 10 ∷ [])) (82 ∷ 9 ∷ 49 ∷ 52 ∷ 9 ∷ 50 ∷ 10 ∷ []) ×
    Prints (first_line1 ++ ((65 ∷ 10 ∷ []) ++ (80 ∷ 9 ∷ 49 ∷ 9 ∷ 50 ∷ 10 ∷ []))) (82 ∷ 9 ∷ 49 ∷ 52 ∷ 9 ∷ 51 ∷ 10 ∷ [])
unfolding
    skip_lines skip_out line_at fields_at field_at command_of pairs_of after_arrival after_arrived after_withdrawal after_withdrawn printed printed_by output_of bidder_lines item_lines decimal
    held_by edge_count offer_of best_of placed_at displaced hand_over bid_of settle_of first_of within_test order_test edge_checks item_checks each_checks row_to carry_out
    items_of place.opened opened written spread_row numbers_from places_named
    arrive_rest entered arrival_of arrived_of arrive_by withdraw_rest released withdrawal_of withdraw_by
    displaced_if vacated vacated_to named_in roll_of more_bids next_chain chains_from withdrawn_of
all-print = (refl, refl, refl, refl, refl, refl, refl, refl, refl, refl)

-- R-6: the double kettle, by its `K` and `P` lines
double-opens : OpensTo text_double 14 3 double
unfolding
    replay_of first_line after_opened place_lines place_line after_places place_checks command_of line_at fields_at field_at open_of open_by open_checks each_checks
    slack_test within_test first_of
double-opens = refl

double-prints : printed (Further text_double 14 3 double) ≡ printed_double
unfolding
    skip_lines skip_out line_at fields_at field_at command_of pairs_of after_arrival after_arrived printed printed_by output_of bidder_lines item_lines decimal
    held_by edge_count offer_of best_of placed_at displaced hand_over bid_of settle_of first_of within_test order_test edge_checks each_checks row_to
    items_of place.opened opened written spread_row arrive_rest entered arrival_of arrived_of arrive_by
double-prints = refl

all-paper : PrintsPage text1 (head ++ (line1 ++ line2)) × PrintsPage text2 (head ++ (line1 ++ line2_unplaced)) ×
    (wall_from (Further text_tied 9 2 three) ≡ head ++ (tied1 ++ tied2))
unfolding
    skip_lines skip_out line_at fields_at field_at command_of pairs_of after_arrival after_arrived after_withdrawal after_withdrawn wall_from wall_by board_page decimal padded heading row_line breaks
    held_by edge_count offer_of best_of placed_at displaced hand_over bid_of settle_of first_of within_test order_test edge_checks item_checks each_checks row_to carry_out
    items_of place.opened opened written spread_row numbers_from places_named
    arrive_rest entered arrival_of arrived_of arrive_by withdraw_rest released withdrawal_of withdraw_by
    displaced_if vacated vacated_to named_in roll_of more_bids next_chain chains_from withdrawn_of
all-paper = (refl, refl, refl)

pub walls-print : (wall_of text1 ≡ head ++ (line1 ++ line2)) × (wall_of text2 ≡ head ++ (line1 ++ line2_unplaced)) × (wall_of text_tied ≡ head ++ (tied1 ++ tied2))
walls-print =
    (plain-page _ _ all-open.0 all-paper.0, plain-page _ _ all-open.1 all-paper.1, opens-page _ 9 2 three three-sound all-open.2 _ all-paper.2)

-- Refused at the first line, or without one
slack-refused : sheet_of (75 ∷ 9 ∷ 50 ∷ 9 ∷ 53 ∷ 9 ∷ 53 ∷ 10 ∷ []) ≡ 82 ∷ 9 ∷ 50 ∷ 9 ∷ 49 ∷ 10 ∷ []
unfolding
    sheet_of replay_of first_line after_opened command_of line_at fields_at field_at open_of open_by open_checks each_checks slack_test within_test first_of
    printed printed_by decimal
slack-refused = refl

-- R-6: refused at a `P` line
places-refused : (sheet_of (first_line1 ++ (80 ∷ 9 ∷ 51 ∷ 9 ∷ 57 ∷ 10 ∷ [])) ≡ 82 ∷ 9 ∷ 52 ∷ 9 ∷ 50 ∷ 10 ∷ []) ×
    (sheet_of (first_line1 ++ ((80 ∷ 9 ∷ 49 ∷ 9 ∷ 50 ∷ 10 ∷ []) ++ (80 ∷ 9 ∷ 49 ∷ 9 ∷ 57 ∷ 10 ∷ []))) ≡ 82 ∷ 9 ∷ 55 ∷ 9 ∷ 51 ∷ 10 ∷ []) ×
    (sheet_of (first_line1 ++ (80 ∷ 9 ∷ 49 ∷ 9 ∷ 57 ∷ 10 ∷ [])) ≡ 82 ∷ 9 ∷ 49 ∷ 54 ∷ 9 ∷ 50 ∷ 10 ∷ []) ×
    (sheet_of ((75 ∷ 9 ∷ 54 ∷ 52 ∷ 9 ∷ 49 ∷ 9 ∷ 50 ∷ 10 ∷ []) ++ (80 ∷ 9 ∷ 49 ∷ 9 ∷ 50 ∷ 10 ∷ [])) ≡ 82 ∷ 9 ∷ 49 ∷ 54 ∷ 9 ∷ 49 ∷ 10 ∷ [])
unfolding
    sheet_of replay_of first_line after_opened place_lines place_line after_places place_checks command_of line_at fields_at field_at open_of open_by open_checks each_checks
    slack_test within_test first_of printed printed_by decimal
places-refused = (refl, refl, refl, refl)

empty-refused : sheet_of [] ≡ 82 ∷ 9 ∷ 49 ∷ 52 ∷ 9 ∷ 49 ∷ 10 ∷ []
unfolding sheet_of replay_of first_line command_of line_at printed printed_by decimal
empty-refused = refl

also : {x y : List ℕ} {xs ys : List (List ℕ)} → x ≡ y → xs ≡ ys → x ∷ xs ≡ y ∷ ys
also e f = ap₂ (λ (x : List ℕ) (xs : List (List ℕ)). x ∷ xs) e f

pub texts-print : Texts
unfolding texts
texts-print =
    also (plain-so _ _ all-open.0 all-print.0) (
    also (plain-so _ _ all-open.1 all-print.1) (
    also (opens-so _ 9 2 three three-sound all-open.2 _ all-print.2) (
    also (plain-so _ _ all-open.3 all-print.3) (
    also (plain-so _ _ all-open.4 all-print.4) (
    also (plain-so _ _ all-open.5 all-print.5) (
    also (plain-so _ _ all-open.6 all-print.6) (
    also (plain-so _ _ all-open.7 all-print.7) (
    also (plain-so _ _ all-open.8 all-print.8) (
    also slack-refused (
    also (opens-so _ 14 3 double double-sound double-opens _ double-prints) (
    also places-refused.0 (
    also places-refused.1 (
    also places-refused.2 (
    also places-refused.3 (
    also (plain-so _ _ all-open.9 all-print.9) (
    also empty-refused refl))))))))))))))))

pub starred : Starred
starred = record { calls = cases; texts = texts-print; ties = ties }
