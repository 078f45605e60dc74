-- What a text is answered, what is written, and what the program prints.
use Rattle.std.specs.Prelude.{◌≡◌, cond, List, [], ◌++◌, ℕ, ◌≤◌, length, take, drop, ltb, Ok, Err, Result}
use Rattle.supply.specs.declared.record.Board.{Board}
use Rattle.refusals.specs.declared.Refusal.{Refusal}
use Rattle.refusals.specs.declared.AtLine.{AtLine}
use Rattle.replay.specs.declared.Replayed.{Replayed}
use Rattle.bidding.specs.Rule.{Outcome, done, spent}
use Rattle.replay.specs.Replay.{replay_of, Ending, halted}
use Rattle.history.specs.Output.{output_of, refusal_of}

-- What a text is answered: the bytes that were written, or a refusal at its line
abbrev pub Planned : Type 0
Planned = Result ℕ AtLine

-- The answer, and the lent list after the call
pub record PlanOutcome : Type 0 where
  pub answer : Planned
  pub out : List ℕ

abbrev pub planned : Planned → List ℕ → PlanOutcome
planned answer out = record { answer = answer; out = out }

-- "a list to be written has too few cells" (8); otherwise the bytes, and further cells as they were
unfoldable pub fitted : List ℕ → List ℕ → PlanOutcome
fitted bytes out =
    cond (ltb (length out) (length bytes))
    (planned (halted Refusal.Short 0) out)
    (planned (Ok (length bytes)) (bytes ++ drop (length bytes) out))

-- A text that is finished has its output; a refused one leaves the list as it was. 8 comes last
unfoldable pub ended_by : List ℕ → Board → ℕ → Ending → PlanOutcome
ended_by out b bids (Ok tt) = fitted (output_of b bids) out
ended_by out b bids (Err s) = planned (Err s) out

unfoldable pub plan_from : List ℕ → Outcome Replayed → Outcome PlanOutcome
plan_from out spent = spent
plan_from out (done r) = done (ended_by out r.board r.bids r.answer)

-- The text replayed: the answer, and the lent list after the call, on all inputs. No text is spent (PlanEnds)
unfoldable pub plan_of : List ℕ → List ℕ → Outcome PlanOutcome
plan_of s out = plan_from out (replay_of s)

-- ---- What the program prints

unfoldable pub printed_by : Board → ℕ → Ending → List ℕ
printed_by b bids (Ok tt) = output_of b bids
printed_by b bids (Err s) = refusal_of s.refusal s.line

unfoldable pub printed : Outcome Replayed → List ℕ
printed spent = []
printed (done r) = printed_by r.board r.bids r.answer

-- "The sheet program reads this text .. and prints": from the bytes of a text to bytes
unfoldable pub sheet_of : List ℕ → List ℕ
sheet_of s = printed (replay_of s)

-- The first n bytes of a list are these, and the list's further cells are as they were
pub record AtFront (front before after : List ℕ) (n : ℕ) : Type 0 where
  -- These two let a caller take those bytes as a part
  pub fits : n ≤ length after
  pub long : n ≡ length (take n after)
  pub bytes : take n after ≡ front
  pub list : after ≡ front ++ drop n before

-- They are what the program prints of a text
abbrev pub SheetWritten : List ℕ → List ℕ → List ℕ → ℕ → Type 0
SheetWritten s before after n = AtFront (sheet_of s) before after n
