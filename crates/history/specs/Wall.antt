-- The page of the board that a text reaches: what `./plan --page` prints.
use Rattle.std.specs.Prelude.{◌≡◌, List, [], ℕ, Ok, Err}
use Rattle.refusals.specs.declared.Refusal.{Refusal}
use Rattle.refusals.specs.Codes.{code_of}
use Rattle.supply.specs.declared.record.Board.{Board}
use Rattle.replay.specs.declared.Replayed.{Replayed}
use Rattle.bidding.specs.Rule.{Outcome, done, spent}
use Rattle.replay.specs.Replay.{replay_of, Ending}
use Rattle.replay.specs.TextDemand1.{TextRefused, TextFinished}
use Rattle.page.specs.Rows.{board_page}
use Rattle.history.specs.Output.{refusal_line, refusal_of}
use Rattle.history.specs.Plan.{AtFront}

unfoldable pub wall_by : Board → Ending → List ℕ
wall_by b (Ok tt) = board_page b
wall_by b (Err s) = refusal_of s.refusal s.line

unfoldable pub wall_from : Outcome Replayed → List ℕ
wall_from spent = []
wall_from (done r) = wall_by r.board r.answer

-- From the bytes of a text to the bytes of a page, or of the line of a refusal
unfoldable pub wall_of : List ℕ → List ℕ
wall_of s = wall_from (replay_of s)

-- What is printed stands at the front of a list
abbrev pub WallWritten : List ℕ → List ℕ → List ℕ → ℕ → Type 0
WallWritten s before after n = AtFront (wall_of s) before after n

pub record WallDemand1 (s : List ℕ) : Type 0 where
  -- "Cooks want the plan on paper": a finished text prints the page of the board that its lines reach
  pub pages : (b : Board) (entries bids : ℕ) → TextFinished s b entries bids → wall_of s ≡ board_page b
  -- "A refused text prints only `R`, number, line (0 for 15)"
  pub refuses : (n : ℕ) (b : Board) (bids : ℕ) (r : Refusal) → TextRefused s n b bids r → wall_of s ≡ refusal_line (code_of r).number n

abbrev pub WallsDemand1 : Type 0
WallsDemand1 = (s : List ℕ) → WallDemand1 s
