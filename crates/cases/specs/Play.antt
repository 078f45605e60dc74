-- A history of calls, played over the meanings of the calls.
use Rattle.refusals.specs.Demand1.{Verdict}
use Rattle.refusals.specs.declared.Refusal.{Refusal}
use Rattle.std.specs.Prelude.{List, [], ◌∷◌, ℕ, zero, suc, ℤ, replicate, Err, Ok, Result}
use Rattle.duality.specs.Cover.{total}
use Rattle.places.specs.GreatestWeightWith.{greatest_with}
use Rattle.supply.specs.declared.record.Board.{Board}
use Rattle.board.specs.declared.record.Edge.{Edge}
use Rattle.auction.specs.Arrive.{Arrival, arrive_of}
use Rattle.auction.specs.Withdraw.{Withdrawal, withdraw_of}
use Rattle.board.specs.Cells as place
use Rattle.supply.specs.Board.{auction_of, places_at}
use Rattle.supply.specs.ByItem.{live, gain_at, price_at, matching_of, matching_weight}
use Rattle.bidding.specs.Rule.{Outcome, done, spent}
use Rattle.refusals.specs.Codes.{Code, code_of}
use Rattle.board.specs.Lent.{Lists}
use Rattle.supply.specs.Opening.{open_of}
use Rattle.auction.specs.ReadOut.{read_out_of}
use Rattle.certificate.specs.Check.{Checked, check_of}
use Rattle.comparison.specs.Compare.{Compared, compare_of, order_number}
use Rattle.counting.specs.Call.{Counted, count_of}

-- A call after opening
pub data Call : Type 0 where
  arrive : List Edge → Call
  withdraw : List ℕ → Call
  check : Lists → ℕ → ℕ → Call
  read_out : Lists → Call
  compare : List ℕ → List ℕ → Call
  count_slow : Call

-- A case: a board to open, and the calls on it
pub record Case : Type 0 where
  pub items : ℕ
  pub p : ℕ
  pub q : ℕ
  pub counts : List ℕ
  pub calls : List Call

-- With so many places for each item; and with one each
abbrev pub on_places : ℕ → ℕ → ℕ → List ℕ → List Call → Case
on_places items p q counts calls = record { items = items; p = p; q = q; counts = counts; calls = calls }

abbrev pub on : ℕ → ℕ → ℕ → List Call → Case
on items p q calls = on_places items p q (replicate items 1) calls

-- What is seen at the end: the matching, gains and prices, the matching's weight, the sum of prices and gains, the greatest weight, the bids of each
-- call; or a check's two totals; or the lists that were read out; or the difference and the order of two plans; or what was counted; or the refusal
-- that stopped the case, by number and place
pub data Seen : Type 0 where
  board : List ℕ → List ℕ → List ℕ → ℕ → ℕ → ℕ → List ℕ → Seen
  totals : ℕ → ℕ → Seen
  wrote : Lists → Seen
  sides : ℤ → ℕ → Seen
  counted : ℕ → Seen
  refused : ℕ → ℕ → Seen
  unended : Seen

abbrev pub refusal : Code → Seen
refusal c = refused c.number c.place

-- The first n values of a function
abbrev pub first_cells : ℕ → (ℕ → ℕ) → List ℕ
first_cells zero f = []
first_cells (suc n) f = f 0 ∷ first_cells n (λ i. f (suc i))

abbrev pub seen : Board → List ℕ → Seen
seen b bids =
    board (first_cells b.market.arrived (matching_of b)) (first_cells b.market.arrived (gain_at b)) (first_cells b.items.count (price_at b))
    (matching_weight b) (total b.market.arrived b.market.items (place.price_at (auction_of b)) (gain_at b))
    (greatest_with b.market.arrived b.items.count (places_at b) (live b)) bids

unfoldable pub played : (Board → List ℕ → Seen) → List ℕ → Board → Result ℕ Refusal → Seen
played next bids b (Ok n) = next b (n ∷ bids)
played next bids b (Err r) = refusal (code_of r)

unfoldable pub withdrew : (Board → List ℕ → Seen) → List ℕ → Board → Result ℕ Refusal → Seen
withdrew next bids b (Ok n) = next b (n ∷ bids)
withdrew next bids b (Err r) = refusal (code_of r)

unfoldable pub after_arrive : (Board → List ℕ → Seen) → List ℕ → Outcome Arrival → Seen
after_arrive next bids spent = unended
after_arrive next bids (done a) = played next bids a.board a.answer

unfoldable pub after_withdraw : (Board → List ℕ → Seen) → List ℕ → Outcome Withdrawal → Seen
after_withdraw next bids spent = unended
after_withdraw next bids (done a) = withdrew next bids a.board a.answer

-- A check is the last call, and so are a read-out, a comparison and a count
unfoldable pub after_check : Checked → Seen
after_check (Ok (weight, sum)) = totals weight.0 sum.0
after_check (Err r) = refusal (code_of r)

unfoldable pub after_read_out : Lists → Verdict → Seen
after_read_out l (Ok tt) = wrote l
after_read_out l (Err r) = refusal (code_of r)

unfoldable pub after_compare : Compared → Seen
after_compare (Ok (difference, order)) = sides difference (order_number order)
after_compare (Err r) = refusal (code_of r)

unfoldable pub after_count : Counted → Seen
after_count (Ok weight) = counted weight.0
after_count (Err r) = refusal (code_of r)

-- The calls in turn; the bids of the last call first
unfoldable pub play_all : List Call → Board → List ℕ → Seen
play_all [] b bids = seen b bids
play_all (arrive edges ∷ rest) b bids = after_arrive (play_all rest) bids (arrive_of b edges)
play_all (withdraw items ∷ rest) b bids = after_withdraw (play_all rest) bids (withdraw_of b items)
play_all (check l p q ∷ rest) b bids = after_check (check_of b l p q)
play_all (read_out l ∷ rest) b bids = after_read_out (read_out_of b l).lists (read_out_of b l).answer
play_all (compare first second ∷ rest) b bids = after_compare (compare_of b first second)
play_all (count_slow ∷ rest) b bids = after_count (count_of b)

unfoldable pub opening : List Call → Board → Verdict → Seen
opening calls b (Ok tt) = play_all calls b []
opening calls b (Err r) = refusal (code_of r)

unfoldable pub play : Case → Seen
play c = opening c.calls (open_of c.items c.p c.q c.counts).board (open_of c.items c.p c.q c.counts).answer
