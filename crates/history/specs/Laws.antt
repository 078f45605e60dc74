-- Statements about what is printed: it always ends, it is no longer than a constant, and its figures hold.
use Rattle.std.specs.Prelude.{◌≡◌, List, ◌++◌, ℕ, ◌+◌, ◌-◌, ◌*◌, ◌≤◌, length, drop, Ok}
use Rattle.duality.specs.Steps.{most}
use Rattle.supply.specs.declared.record.Board.{Board}
use Rattle.supply.specs.ByItem.{matching_weight}
use Rattle.replay.specs.declared.Replayed.{Replayed}
use Rattle.bidding.specs.Rule.{done}
use Rattle.replay.specs.Replay.{replay_of}
use Rattle.replay.specs.ReplayLaws.{TextReached}
use Rattle.hungarian.specs.Exact.{greatest_on}
use Rattle.history.specs.Limits.{max_output}
use Rattle.history.specs.Output.{sum_of, output_of}
use Rattle.history.specs.Plan.{PlanOutcome, planned, plan_of}

-- A text is accepted: it was replayed to its end, to a board with so many bids in all
abbrev pub TextAccepted : List ℕ → Replayed → Type 0
TextAccepted s r = (replay_of s ≡ done r) × (r.answer ≡ Ok tt)

-- Every text has an outcome
abbrev pub PlanEnds : Type 0
PlanEnds = (s out : List ℕ) → (o : PlanOutcome) × (plan_of s out ≡ done o)

-- No output is longer than the constant
abbrev pub OutputFits : Type 0
OutputFits = (s : List ℕ) (r : Replayed) → TextAccepted s r → length (output_of r.board r.bids) ≤ max_output

-- So with a list of that length an accepted text is written, and 8 never shows
abbrev pub AcceptedIsWritten : Type 0
AcceptedIsWritten =
    (s out : List ℕ) (r : Replayed) → TextAccepted s r → max_output ≤ length out →
    plan_of s out ≡ done (planned (Ok (length (output_of r.board r.bids))) (output_of r.board r.bids ++ drop (length (output_of r.board r.bids)) out))

-- The printed figures of a text: of the board that its lines reach, and of the bids in all
pub record FiguresHold (s : List ℕ) (b : Board) (bids : ℕ) : Type 0 where
  -- "Prices plus gains total q + p times the plan's worth"
  pub sum : sum_of b ≡ (b.market.slack.q + b.market.slack.p) * matching_weight b
  -- "worth times q + p is at least q - p times the worth of every plan on the live sheet", so of the greatest
  pub share : (b.market.slack.q - b.market.slack.p) * greatest_on b ≤ (b.market.slack.q + b.market.slack.p) * matching_weight b
  -- "the bids number at most the entries ever accepted times the whole part of (q - 1)/p": the entries are the text's own
  pub text : TextReached s b bids
  pub few : bids ≤ text.entries * most b.market.slack.p b.market.slack.q

abbrev pub PrintedFigures : Type 0
PrintedFigures = (s : List ℕ) (r : Replayed) → TextAccepted s r → FiguresHold s r.board r.bids
