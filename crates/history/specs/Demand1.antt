-- Demand 1 of the calls on a text: the text's own refusals first, and 8 last; and what the program prints of either end.
use Rattle.replay.specs.Replay.{halted}
use Rattle.std.specs.Prelude.{◌≡◌, ◌↔◌, List, ◌++◌, ℕ, ◌<◌, ◌≤◌, length, drop, Ok, Err}
use Rattle.refusals.specs.declared.Refusal.{Refusal}
use Rattle.refusals.specs.declared.Told.{Told}
use Rattle.refusals.specs.Codes.{code_of}
use Rattle.refusals.specs.Told.{told, served, refused_at}
use Rattle.supply.specs.declared.record.Board.{Board}
use Rattle.bidding.specs.Rule.{done}
use Rattle.replay.specs.TextDemand1.{TextRefused, TextFinished}
use Rattle.history.specs.Output.{output_of, refusal_line}
use Rattle.history.specs.Plan.{planned, plan_of, sheet_of, Planned}

-- ---- A text's plan, written to a lent list

-- What is told: the bytes written, or the refusal at its line
abbrev pub planned_told : Planned → Told
planned_told (Ok n) = served n
planned_told (Err s) = refused_at s.refusal s.line 0

-- Refused: as the text is; or the text is finished, and "a list to be written has too few cells"
pub data PlanRefused (s out : List ℕ) : Refusal → ℕ → Type 0 where
  text : {n bids : ℕ} {b : Board} {r : Refusal} → TextRefused s n b bids r → PlanRefused s out r n
  short : {entries bids : ℕ} {b : Board} → TextFinished s b entries bids → length out < length (output_of b bids) → PlanRefused s out Refusal.Short 0

-- Written: the text is finished, and its output stands at the front of the list. "Further cells keep what they held"
pub record PlanWritten (s out : List ℕ) (n : ℕ) (after : List ℕ) : Type 0 where
  pub board : Board
  pub entries : ℕ
  pub bids : ℕ
  pub finished : TextFinished s board entries bids
  pub fits : length (output_of board bids) ≤ length out
  pub bytes : n ≡ length (output_of board bids)
  pub list : after ≡ output_of board bids ++ drop n out

-- The call leaves the list after, and tells t
pub record PlanAnswers (s out after : List ℕ) (t : Told) : Type 0 where
  pub answer : Planned
  pub outcome : plan_of s out ≡ done (planned answer after)
  pub tells : planned_told answer ≡ t

pub record PlanDemand1 (s out : List ℕ) : Type 0 where
  -- Refused exactly when a row of the table is met, and then the list is as it was
  pub refuses : (r : Refusal) (n : ℕ) (after : List ℕ) → (plan_of s out ≡ done (planned (halted r n) after)) ↔ (PlanRefused s out r n × (after ≡ out))
  -- "otherwise it is served"
  pub writes : (n : ℕ) (after : List ℕ) → (plan_of s out ≡ done (planned (Ok n) after)) ↔ PlanWritten s out n after
  -- In numbers
  pub numbered : (number line : ℕ) (after : List ℕ) → 0 < number →
      PlanAnswers s out after (told number line 0) ↔ ((r : Refusal) × ((code_of r).number ≡ number) × PlanRefused s out r line × (after ≡ out))
  pub served : (n : ℕ) (after : List ℕ) → PlanAnswers s out after (served n) ↔ PlanWritten s out n after

abbrev pub PlansDemand1 : Type 0
PlansDemand1 = (s out : List ℕ) → PlanDemand1 s out

-- ---- What the program prints

pub record SheetDemand1 (s : List ℕ) : Type 0 where
  -- A finished text prints the board that its lines reach, and the bids in all
  pub plans : (b : Board) (entries bids : ℕ) → TextFinished s b entries bids → sheet_of s ≡ output_of b bids
  -- "A refused text prints only `R`, number, line (0 for 15)"
  pub refuses : (n : ℕ) (b : Board) (bids : ℕ) (r : Refusal) → TextRefused s n b bids r → sheet_of s ≡ refusal_line (code_of r).number n

abbrev pub SheetsDemand1 : Type 0
SheetsDemand1 = (s : List ℕ) → SheetDemand1 s
