-- The replay of a history text: "each line is tested and carried out before the next".
use Rattle.std.specs.Prelude.{cond, not, ◌&&◌, List, [], ◌∷◌, ◌++◌, ℕ, zero, suc, ◌+◌, ◌-◌, ◌*◌, ◌/◌, ◌%◌, min, length, get_or, set, take, replicate, eqb, ltb, leb, Err, Ok, Result}
use Rattle.text.specs.declared.line.Line.{Line}
use Rattle.text.specs.Line.{line_at}
use Rattle.supply.specs.declared.record.Board.{Board}
use Rattle.board.specs.declared.record.Edge.{Edge}
use Rattle.refusals.specs.declared.Refusal.{Refusal}
use Rattle.refusals.specs.declared.AtLine.{AtLine}
use Rattle.refusals.specs.declared.Refusal.TheVariants.{Unknown, Order}
use Rattle.refusals.specs.Codes.{code_of}
use Rattle.refusals.specs.Demand1.{Check, check_for, first_of, Verdict}
use Rattle.auction.specs.Arrive.{Arrival, arrive_of}
use Rattle.auction.specs.Withdraw.{Withdrawal, withdraw_of}
use Rattle.replay.specs.declared.Replayed.{Replayed}
use Rattle.board.specs.Limits.{max_edges, max_text}
use Rattle.board.specs.Cells.{edge}
use Rattle.board.specs.Ranges.{within_test}
use Rattle.bidding.specs.Rule.{Outcome, done, spent}
use Rattle.supply.specs.Opening.{opened, open_checks, open_of}

-- ---- A line's form

-- What a line says: "`K`, kettles, p, q", "`P`, kettle, places" (document 02, R-6), "`A`, kettle, worth, kettle, worth and so on, or `W`, kettle", where
-- "`W` lines may carry several" (R-3); or that it is not of the form
pub data Command : Type 0 where
  opens : ℕ → ℕ → ℕ → Command
  places : ℕ → ℕ → Command
  arrives : List Edge → Command
  withdraws : List ℕ → Command
  malformed : Command

-- The first n pairs of numbers
unfoldable pub pairs_of : List ℕ → ℕ → List Edge
pairs_of numbers zero = []
pairs_of numbers (suc n) = pairs_of numbers n ++ (edge (get_or numbers (2 * n) 0) (get_or numbers (2 * n + 1) 0) ∷ [])

-- A line has a letter (0 where it is no line), a count of numbers, and the first of these. Of an arrival's edges, and of a withdrawal's items, the first
-- 65 decide all (EnoughEdges, EnoughItems), so that it is carried out as with all of them (ReplayLaws says so: LineEdges, LineItems). "an empty list ..
-- is badly formed as a line"
unfoldable pub command_of : Line → Command
command_of l =
    cond (eqb l.letter 75 && eqb l.count 3) (opens (get_or l.numbers 0 0) (get_or l.numbers 1 0) (get_or l.numbers 2 0))
    (cond (eqb l.letter 80 && eqb l.count 2) (places (get_or l.numbers 0 0) (get_or l.numbers 1 0))
    (cond (eqb l.letter 65 && eqb (l.count % 2) 0) (arrives (pairs_of l.numbers (min (l.count / 2) max_edges)))
    (cond (eqb l.letter 87 && ltb 0 l.count) (withdraws (take (min l.count max_edges) l.numbers)) malformed)))

-- ---- Lines carried out. n is the number of the line, bids are those made so far

-- How a replay ends: at the end of the text, or with a refusal at a line
abbrev pub Ending : Type 0
Ending = Result (Unit {0}) AtLine

-- A refusal at a line
abbrev pub halted : {A : Type 0} → Refusal → ℕ → Result A AtLine
halted r n = Err (record { refusal = r; line = n })

-- How far a replay came: the board, the bids in all, and whether the text is finished or where it stopped
abbrev pub finished : Board → ℕ → Outcome Replayed
finished b bids = done (record { board = b; bids = bids; answer = Ok tt })

abbrev pub stopped : Board → ℕ → Refusal → ℕ → Outcome Replayed
stopped b bids r n = done (record { board = b; bids = bids; answer = halted r n })

-- After a call: `next` makes the following lines, unless the call was refused
unfoldable pub after_arrived : (Board → ℕ → Outcome Replayed) → ℕ → Board → ℕ → Result ℕ Refusal → Outcome Replayed
after_arrived next n b bids (Ok k) = next b (bids + k)
after_arrived next n b bids (Err r) = stopped b bids r n

unfoldable pub after_arrival : (Board → ℕ → Outcome Replayed) → ℕ → ℕ → Outcome Arrival → Outcome Replayed
after_arrival next n bids spent = spent
after_arrival next n bids (done a) = after_arrived next n a.board bids a.answer

unfoldable pub after_withdrawn : (Board → ℕ → Outcome Replayed) → ℕ → Board → ℕ → Result ℕ Refusal → Outcome Replayed
after_withdrawn next n b bids (Ok k) = next b (bids + k)
after_withdrawn next n b bids (Err r) = stopped b bids r n

unfoldable pub after_withdrawal : (Board → ℕ → Outcome Replayed) → ℕ → ℕ → Outcome Withdrawal → Outcome Replayed
after_withdrawal next n bids spent = spent
after_withdrawal next n bids (done a) = after_withdrawn next n a.board bids a.answer

-- A line after those that open the board: "A line's form (14) is tested before its meaning"; a further `K`, and a later `P`, is not of the form
unfoldable pub carry_out : (Board → ℕ → Outcome Replayed) → ℕ → Board → ℕ → Command → Outcome Replayed
carry_out next n b bids (opens k p q) = stopped b bids (Refusal.Line n) n
carry_out next n b bids (places k c) = stopped b bids (Refusal.Line n) n
carry_out next n b bids (arrives edges) = after_arrival next n bids (arrive_of b edges)
carry_out next n b bids (withdraws items) = after_withdrawal next n bids (withdraw_of b items)
carry_out next n b bids malformed = stopped b bids (Refusal.Line n) n

-- The lines from a position on, of which the first is line n; fewer than fuel of them
unfoldable pub lines_from : ℕ → List ℕ → ℕ → ℕ → Board → ℕ → Outcome Replayed
lines_from zero s at n b bids = spent
lines_from (suc fuel) s at n b bids =
    cond (ltb at (length s))
    (carry_out (λ c more. lines_from fuel s (line_at s at).next (n + 1) c more) n b bids (command_of (line_at s at)))
    (finished b bids)

-- ---- "After `K`, lines `P`, kettle, places may follow, in rising kettle order; others have one place" (document 02, R-6)

-- Each `P` line opens the board anew with one count more: so many items, the slack p/q, and the counts so far. `low` is the last kettle that was named,
-- 0 at first

-- "A `P` line's kettle can meet 4, then 7, before 16"; what is left are the checks of opening
unfoldable pub place_checks : ℕ → ℕ → ℕ → ℕ → List ℕ → ℕ → ℕ → List Check
place_checks items p q low counts k c =
    check_for (Unknown 0) (not (within_test items k)) ∷ (check_for (Order 0) (leb k low) ∷ open_checks items p q (set counts (k - 1) c))

-- "over 64 in all at place 0 (line 1 of a text, tested after each `P` line ..)"; every other refusal is at its own line
abbrev pub at_line : Refusal → ℕ → ℕ
at_line r n = cond (eqb (code_of r).number 16 && eqb (code_of r).place 0) 1 n

-- After a `P` line: `next` makes the following lines, unless it was refused
unfoldable pub after_places : Outcome Replayed → ℕ → Board → Verdict → Outcome Replayed
after_places next n b (Ok tt) = next
after_places next n b (Err r) = stopped b 0 r (at_line r n)

-- A line after the first, while the board is being opened: a `P` line, or the first of the others, which `rest` makes
unfoldable pub place_line : (ℕ → List ℕ → Outcome Replayed) → Outcome Replayed → ℕ → ℕ → ℕ → ℕ → ℕ → List ℕ → Command → Outcome Replayed
place_line next rest n items p q low counts (opens k u v) = rest
place_line next rest n items p q low counts (places k c) =
    after_places (next k (set counts (k - 1) c)) n (opened p q counts) (first_of (place_checks items p q low counts k c))
place_line next rest n items p q low counts (arrives edges) = rest
place_line next rest n items p q low counts (withdraws list) = rest
place_line next rest n items p q low counts malformed = rest

-- The lines from a position on, of which the first is line n; fewer than fuel of them. A text has fewer lines than bytes and one
unfoldable pub place_lines : ℕ → List ℕ → ℕ → ℕ → ℕ → ℕ → ℕ → ℕ → List ℕ → Outcome Replayed
place_lines zero s at n items p q low counts = spent
place_lines (suc fuel) s at n items p q low counts =
    cond (ltb at (length s))
    (place_line (λ k more. place_lines fuel s (line_at s at).next (n + 1) items p q k more) (lines_from (suc (length s)) s at n (opened p q counts) 0)
    n items p q low counts (command_of (line_at s at)))
    (finished (opened p q counts) 0)

-- "others have one place"
abbrev pub ones : ℕ → List ℕ
ones items = replicate items 1

-- "First line `K`, kettles, p, q"; "an empty text is 14 at line 1"
unfoldable pub after_opened : List ℕ → ℕ → ℕ → ℕ → ℕ → Verdict → Outcome Replayed
after_opened s at items p q (Ok tt) = place_lines (suc (length s)) s at 2 items p q 0 (ones items)
after_opened s at items p q (Err r) = stopped (opened 0 0 []) 0 r 1

unfoldable pub first_line : List ℕ → ℕ → Command → Outcome Replayed
first_line s at (opens k p q) = after_opened s at k p q (open_of k p q (ones k)).answer
first_line s at (places k c) = stopped (opened 0 0 []) 0 (Refusal.Line 1) 1
first_line s at (arrives edges) = stopped (opened 0 0 []) 0 (Refusal.Line 1) 1
first_line s at (withdraws items) = stopped (opened 0 0 []) 0 (Refusal.Line 1) 1
first_line s at malformed = stopped (opened 0 0 []) 0 (Refusal.Line 1) 1

-- "15 comes before all else"
unfoldable pub replay_of : List ℕ → Outcome Replayed
replay_of s = cond (ltb max_text (length s)) (stopped (opened 0 0 []) 0 Refusal.Long 0) (first_line s (line_at s 0).next (command_of (line_at s 0)))
