-- Demand 1 of each call: "If a call meets a condition in the table of refusals, it gives that number by the stated order of checks, and the board and
-- each lent list stay byte for byte as they were; otherwise it is served." Demand1 says it of any call; what a call answers is told in numbers.
use Rattle.std.specs.Prelude.{◌≡◌, List, [], ◌∷◌, ◌++◌, ℕ, zero, suc, length}
use Rattle.supply.specs.declared.record.Board.{Board}
use Rattle.board.specs.declared.record.Edge.{Edge}
use Rattle.refusals.specs.Codes.{Code, code}
use Rattle.refusals.specs.Told.{served, refused}
use Rattle.refusals.specs.Demand1.{codes_of, Demand1}
use Rattle.refusals.specs.Each.{places_of}
use Rattle.supply.specs.Opening.{OpenMet, open_checks, opened, OpenAnswers}
use Rattle.auction.specs.Arrive.{ArriveMet, arrive_checks, ArriveAnswers}
use Rattle.auction.specs.Withdraw.{WithdrawMet, withdraw_checks, WithdrawAnswers}
use Rattle.auction.specs.ReadOut.{ReadOutAnswers}
use Rattle.supply.specs.Lent.{ReadOutMet, read_out_checks}
use Rattle.board.specs.Lent.{Lists}

-- A refused opening has no board to keep
abbrev pub OpenDemand1 : Type 0
OpenDemand1 =
    (items p q : ℕ) (counts : List ℕ) →
    Demand1 (OpenMet items p q counts) (open_checks items p q counts)
    (λ r. OpenAnswers items p q counts (opened 0 0 []) (refused r))
    (OpenAnswers items p q counts (opened p q counts) (served 0))

-- Served, an arrival answers a number of bids
abbrev pub ArriveDemand1 : Type 0
ArriveDemand1 =
    (b : Board) (edges : List Edge) →
    Demand1 (ArriveMet b edges) (arrive_checks b edges)
    (λ r. ArriveAnswers b edges b (refused r))
    ((c : Board) × (n : ℕ) × ArriveAnswers b edges c (served n))

abbrev pub WithdrawDemand1 : Type 0
WithdrawDemand1 =
    (b : Board) (items : List ℕ) →
    Demand1 (WithdrawMet b items) (withdraw_checks b items)
    (λ r. WithdrawAnswers b items b (refused r))
    ((c : Board) × (n : ℕ) × WithdrawAnswers b items c (served n))

-- A read-out only reads the board, so that the caller's is as it was
abbrev pub ReadOutDemand1 : Type 0
ReadOutDemand1 =
    (b : Board) (l : Lists) →
    Demand1 (ReadOutMet b l) (read_out_checks b l)
    (λ r. ReadOutAnswers b l l (refused r))
    ((after : Lists) × ReadOutAnswers b l after (served 0))

-- ---- The order of the checks, in numbers and places

-- "then entry by entry 4, 5, 6, 7": of n entries, the first of which is entry i
abbrev pub entry_codes : ℕ → ℕ → List Code
entry_codes i zero = []
entry_codes i (suc n) = code 4 i ∷ code 5 i ∷ code 6 i ∷ code 7 i ∷ entry_codes (suc i) n

-- "kettle by kettle 4, 5, 7" (document 02, R-3): of n items, the first of which is item i of the list
abbrev pub item_codes : ℕ → ℕ → List Code
item_codes i zero = []
item_codes i (suc n) = code 4 i ∷ code 5 i ∷ code 7 i ∷ item_codes (suc i) n

pub record CallOrders : Type 0 where
  -- "Order: open 1, 2."; "at opening after 2, 9 for counts of another length, then 16 .. at that kettle, else .. at place 0" (document 02, R-6)
  pub opens : (items p q : ℕ) (counts : List ℕ) →
      codes_of (open_checks items p q counts) ≡ code 1 0 ∷ code 2 0 ∷ code 9 0 ∷ (places_of 16 1 (length counts) ++ (code 16 0 ∷ []))
  -- "Arrive 13, 3, then entry by entry 4, 5, 6, 7." "Entries count from 1."
  pub arrives : (b : Board) (edges : List Edge) → codes_of (arrive_checks b edges) ≡ code 13 0 ∷ code 3 0 ∷ entry_codes 1 (length edges)
  -- "Answers: 13, then kettle by kettle 4, 5, 7 .. their place counts kettles in the list, also in a list of one" (document 02, R-3)
  pub withdraws : (b : Board) (items : List ℕ) → codes_of (withdraw_checks b items) ≡ code 13 0 ∷ item_codes 1 (length items)
  -- "Read-out and exact 13, 8."
  pub reads : (b : Board) (l : Lists) → codes_of (read_out_checks b l) ≡ code 13 0 ∷ code 8 0 ∷ []
