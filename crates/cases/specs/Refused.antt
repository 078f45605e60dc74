-- Refusals and answers worked out in numbers: each row of document 01's table is met by a call or a text, and is seen with its number and place.
use Rattle.replay.specs.Replay.{halted}
use Rattle.std.specs.Prelude.{◌≡◌, List, [], ◌∷◌, map, ℕ, length, get_or, Err, Ok}
use Rattle.refusals.specs.declared.Refusal.{Refusal}
use Rattle.refusals.specs.declared.Told.{Told}
use Rattle.board.specs.declared.record.Edge.{Edge}
use Rattle.board.specs.Cells.{edge, pence, scaled}
use Rattle.supply.specs.Opening.{opened_told}
use Rattle.board.specs.Lent.{Lists, lists}
use Rattle.auction.specs.Arrive.{arrived_told, ArriveAnswers}
use Rattle.auction.specs.Withdraw.{withdrawn_told, WithdrawAnswers}
use Rattle.auction.specs.ReadOut.{read_out_told, ReadOutAnswers}
use Rattle.certificate.specs.Check.{check_of, checked_told}
use Rattle.replay.specs.TextDemand1.{ending_told}
use Rattle.history.specs.Demand1.{planned_told}
use Rattle.history.specs.Plan.{sheet_of}
use Rattle.cases.specs.FullBoard.{full}
use Rattle.cases.specs.Play.{Call, arrive, withdraw, check, read_out, on_places, on, refused, play}
use Rattle.cases.specs.Table.{Row, row, after1}

-- ---- Calls

-- A call alone, or the last one
abbrev pub one : Call → List Call
one c = c ∷ []

unfoldable pub refusals : List Row
refusals =
    -- 1 "Kettles 0: 1" and "65: 1"; 1 comes before 2
    row (on 0 1 10 []) (refused 1 0) ∷
    (row (on 65 5 5 []) (refused 1 0) ∷
    -- 2 "q 1,000 accepted, 1,001: 2"
    (row (on 64 1 1001 []) (refused 2 0) ∷
    -- R-6: 9 for counts of another length, after 2; 16 at the first kettle whose count is not 1 to 8, also before the total; 16 at 0 for 65 places
    (row (on_places 2 5 5 (1 ∷ []) []) (refused 2 0) ∷
    (row (on_places 2 1 10 (9 ∷ []) []) (refused 9 0) ∷
    (row (on_places 3 1 10 (1 ∷ (0 ∷ (9 ∷ []))) []) (refused 16 2) ∷
    (row (on_places 9 1 10 (8 ∷ (8 ∷ (8 ∷ (8 ∷ (8 ∷ (8 ∷ (8 ∷ (8 ∷ (9 ∷ []))))))))) []) (refused 16 9) ∷
    (row (on_places 9 1 10 (8 ∷ (8 ∷ (8 ∷ (8 ∷ (8 ∷ (8 ∷ (8 ∷ (8 ∷ (1 ∷ []))))))))) []) (refused 16 0) ∷
    -- 4 "kettle not 1 to k", at its entry; it comes before 6
    (row (on 2 1 10 (one (arrive (edge 1 5 ∷ (edge 3 0 ∷ []))))) (refused 4 2) ∷
    (row (on 2 1 10 (one (withdraw (3 ∷ [])))) (refused 4 1) ∷
    -- Where kettle 1 is withdrawn, kettle 0 is 4 and not 5
    (row (on 2 1 10 (withdraw (1 ∷ []) ∷ one (arrive (edge 0 5 ∷ [])))) (refused 4 1) ∷
    (row (on 2 1 10 (withdraw (1 ∷ []) ∷ one (withdraw (0 ∷ [])))) (refused 4 1) ∷
    -- 5 "kettle withdrawn", at its entry; it comes before 6
    (row (on 2 1 10 (withdraw (1 ∷ []) ∷ one (arrive (edge 1 0 ∷ [])))) (refused 5 1) ∷
    -- 6 "Worth 1,000,000 accepted; 0 or 1,000,001: 6"; it comes before 7
    (row (on 2 1 10 (one (arrive (edge 1 1000001 ∷ [])))) (refused 6 1) ∷
    (row (on 2 1 10 (one (arrive (edge 2 5 ∷ (edge 2 0 ∷ []))))) (refused 6 2) ∷
    -- 7 "kettle not above the entry before"; entry by entry, so before a later entry's 4
    (row (on 3 1 10 (one (arrive (edge 2 5 ∷ (edge 2 5 ∷ (edge 4 5 ∷ [])))))) (refused 7 2) ∷
    -- R-3: "a live kettle named twice is 7", at its place in the list; "5 is read from the board handed in", and comes before 7
    (row (on 3 1 10 (one (withdraw (1 ∷ (1 ∷ (4 ∷ [])))))) (refused 7 2) ∷
    (row (on 2 1 10 (withdraw (1 ∷ []) ∷ one (withdraw (2 ∷ (1 ∷ []))))) (refused 5 2) ∷
    -- So does 4
    (row (on 2 1 10 (one (withdraw (2 ∷ (0 ∷ []))))) (refused 4 2) ∷
    -- 8 "a list to be written has too few cells"
    (row (on 2 1 10 (one (read_out (lists [] (0 ∷ []) [])))) (refused 8 0) ∷
    -- 9 "a list to be checked has another length"; 2 comes before it, and it before 10
    (row (on 2 1 10 (after1 (lists (9 ∷ (1 ∷ (0 ∷ []))) (40 ∷ (0 ∷ [])) (60 ∷ (50 ∷ []))))) (refused 9 0) ∷
    (row (on 2 1 10 (one (check (lists [] (0 ∷ []) []) 0 1))) (refused 9 0) ∷
    (row (on 2 1 10 (one (check (lists [] (0 ∷ []) []) 5 5))) (refused 2 0) ∷
    -- 10 "named by an earlier batch", at the later batch; it comes before 11
    (row (on 1 1 10 (arrive (edge 1 5 ∷ []) ∷ (arrive (edge 1 5 ∷ []) ∷ one (check (lists (1 ∷ (1 ∷ [])) (2000000001 ∷ []) (0 ∷ (0 ∷ []))) 0 1)))) (refused 10 2) ∷
    -- 11 "above 2,000,000,000", at the kettle; "or k + batch for a gain"; it comes before 12
    (row (on 2 1 10 (after1 (lists (2 ∷ (1 ∷ [])) (0 ∷ (2000000001 ∷ [])) (0 ∷ (0 ∷ []))))) (refused 11 2) ∷
    (row (on 2 1 10 (after1 (lists (2 ∷ (1 ∷ [])) (0 ∷ (0 ∷ [])) (0 ∷ (2000000001 ∷ []))))) (refused 11 4) ∷
    -- 12 "a live entry not covered", at the batch
    (row (on 2 1 10 (after1 (lists (2 ∷ (1 ∷ [])) (40 ∷ (0 ∷ [])) (60 ∷ (49 ∷ []))))) (refused 12 2) ∷ []))))))))))))))))))))))))))

-- Each is seen so
abbrev pub Refusals : Type 0
Refusals = map (λ r. play r.case) refusals ≡ map (λ r. r.seen) refusals

-- ---- Boards that no case reaches by calls

abbrev pub told : ℕ → ℕ → ℕ → Told
told number place value = record { number = number; place = place; value = value }

-- 3 "The 129th arrival: 3", before any entry is looked at; 13 before all else
pub record FullAnswers : Type 0 where
  pub at_most : (edges : List Edge) → ArriveAnswers (full 3) edges (full 3) (told 3 0 0)
  pub arrives : (edges : List Edge) → ArriveAnswers (full 4) edges (full 4) (told 13 0 0)
  pub withdraws : (items : List ℕ) → WithdrawAnswers (full 4) items (full 4) (told 13 0 0)
  pub reads : (l : Lists) → ReadOutAnswers (full 4) l l (told 13 0 0)
  pub checks : (l : Lists) (p q : ℕ) → checked_told (check_of (full 4) l p q) ≡ record { number = 13; place = 0; weight = 0; total = 0 }

-- ---- Texts at the limit

pub record TextLimit : Type 0 where
  -- 15 "text above 65,536 bytes", and "0 for 15": R, 15, 0
  pub above : (s : List ℕ) → length s ≡ 65537 → sheet_of s ≡ 82 ∷ 9 ∷ 49 ∷ 53 ∷ 9 ∷ 48 ∷ 10 ∷ []
  -- So many are read: one that begins with `A` is R, 14, 1
  pub most : (s : List ℕ) → length s ≡ 65536 → get_or s 0 0 ≡ 65 → sheet_of s ≡ 82 ∷ 9 ∷ 49 ∷ 52 ∷ 9 ∷ 49 ∷ 10 ∷ []

-- ---- Answers: number, place and value

pub record Answers : Type 0 where
  pub opened : opened_told (Ok tt) ≡ told 0 0 0
  pub arrived : arrived_told (Ok 7) ≡ told 0 0 7
  pub arrived_refused : arrived_told (Err (Refusal.Unknown 2)) ≡ told 4 2 0
  pub withdrawn : withdrawn_told (Ok 7) ≡ told 0 0 7
  pub withdrawn_refused : withdrawn_told (Err (Refusal.Gone 1)) ≡ told 5 1 0
  pub read_out_served : read_out_told (Ok tt) ≡ told 0 0 0
  pub ended : ending_told (Ok tt) 7 ≡ told 0 0 7
  pub stopped : ending_told (halted (Refusal.Unknown 1) 2) 7 ≡ told 4 2 7
  pub planned : planned_told (Ok 9) ≡ told 0 0 9
  pub planned_refused : planned_told (halted (Refusal.Unknown 1) 2) ≡ told 4 2 0
  pub checked : checked_told (Ok (pence 150, scaled 151)) ≡ record { number = 0; place = 0; weight = 150; total = 151 }
  pub checked_refused : checked_told (Err (Refusal.Bare 1)) ≡ record { number = 12; place = 1; weight = 0; total = 0 }

-- The worked refusals and answers
pub record Worked : Type 0 where
  pub refusals : Refusals
  pub boards : FullAnswers
  pub texts : TextLimit
  pub answers : Answers
