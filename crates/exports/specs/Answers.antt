-- What each call's answer is told as beside the board or the lists that it leaves. Number, place and value of an answer are defined beside its call.
use Rattle.std.specs.Prelude.{◌≡◌, List, ℕ}
use Rattle.supply.specs.declared.record.Board.{Board}
use Rattle.refusals.specs.declared.Told.{Told}
use Rattle.replay.specs.declared.Replayed.{Replayed}
use Rattle.bidding.specs.Rule.{Outcome, done, spent}
use Rattle.board.specs.Lent.{Lists}
use Rattle.supply.specs.Opening.{Opening, opened_told}
use Rattle.auction.specs.Arrive.{Arrival, arrived_told}
use Rattle.auction.specs.Withdraw.{Withdrawal, withdrawn_told}
use Rattle.auction.specs.ReadOut.{ReadOutcome, read_out_told}
use Rattle.replay.specs.TextDemand1.{ending_told}
use Rattle.hungarian.specs.Exact.{Greatest, exact_told, ExactOutcome}
use Rattle.history.specs.Plan.{PlanOutcome}
use Rattle.history.specs.Demand1.{planned_told}
use Rattle.layout.specs.Stored.{RowLists}
use Rattle.page.specs.Writing.{WriteOutcome, written_told}
use Rattle.page.specs.Reading.{RowsOutcome, read_told}
use Rattle.exports.specs.declared.answers.Answer.{Answer}

abbrev pub with_board : Board → Told → Answer
with_board b t = record { board = b; number = t.number; place = t.place; value = t.value }

-- An outcome, told
abbrev pub answered : {A B : Type 0} → (A → B) → Outcome A → Outcome B
answered f (done x) = done (f x)
answered f spent = spent

-- ---- The calls that answer a board

abbrev pub open_answer : Opening → Answer
open_answer o = with_board o.board (opened_told o.answer)

abbrev pub arrival_answer : Arrival → Answer
arrival_answer a = with_board a.board (arrived_told a.answer)

abbrev pub withdrawal_answer : Withdrawal → Answer
withdrawal_answer w = with_board w.board (withdrawn_told w.answer)

abbrev pub replay_answer : Replayed → Answer
replay_answer r = with_board r.board (ending_told r.answer r.bids)

-- ---- The calls that write lists of numbers

-- What is told, and the three lists after the call
pub record ToldLists : Type 0 where
  pub told : Told
  pub lists : Lists

abbrev pub told_lists : Told → Lists → ToldLists
told_lists t l = record { told = t; lists = l }

abbrev pub read_out_answer : ReadOutcome → ToldLists
read_out_answer o = told_lists (read_out_told o.answer) o.lists

-- The exact call's outcome, and its answer told
pub record ExactAnswer (b : Board) (before : Lists) (told : Told) (after : Lists) : Type 0 where
  pub answer : Greatest
  pub outcome : ExactOutcome b before answer after
  pub tells : told ≡ exact_told answer

-- ---- The calls that write bytes

-- What is told, and the list after the call
pub record ToldBytes : Type 0 where
  pub told : Told
  pub out : List ℕ

abbrev pub told_bytes : Told → List ℕ → ToldBytes
told_bytes t out = record { told = t; out = out }

abbrev pub plan_answer : PlanOutcome → ToldBytes
plan_answer o = told_bytes (planned_told o.answer) o.out

-- ---- The calls of the page

abbrev pub write_answer : WriteOutcome → ToldBytes
write_answer o = told_bytes (written_told o.answer) o.page

-- What is told, and the lists of rows after the call
pub record ToldRows : Type 0 where
  pub told : Told
  pub lists : RowLists

abbrev pub told_rows : Told → RowLists → ToldRows
told_rows t l = record { told = t; lists = l }

abbrev pub read_answer : RowsOutcome → ToldRows
read_answer o = told_rows (read_told o.answer) o.lists
