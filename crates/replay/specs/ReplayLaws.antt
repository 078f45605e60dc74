-- Statements about the replay: it ends, a text that is finished is a history, and a line's numbers are all its edges or items.
use Rattle.std.specs.Prelude.{Result, Ok, Err, ◌≡◌, List, ℕ, suc, ◌+◌, ◌/◌, ◌%◌, ◌<◌, length, get_or}
use Rattle.text.specs.Line.{line_at}
use Rattle.text.specs.Form.{LineForm}
use Rattle.supply.specs.declared.record.Board.{Board}
use Rattle.replay.specs.declared.Replayed.{Replayed}
use Rattle.refusals.specs.declared.Refusal.{Refusal}
use Rattle.refusals.specs.declared.AtLine.{AtLine}
use Rattle.refusals.specs.Told.{served}
use Rattle.supply.specs.Opening.{OpenAnswers}
use Rattle.bidding.specs.Rule.{Outcome, done}
use Rattle.auction.specs.Histories.{Reached}
use Rattle.replay.specs.Replay.{arrives, withdraws, pairs_of, command_of, carry_out, replay_of, Ending, halted}
use Rattle.replay.specs.TextDemand1.{Stage, beginning, Lines, LineRefused, TextFinished, ReplayAnswers}

-- How far a replay came
abbrev pub replayed : Board → ℕ → Ending → Replayed
replayed b bids answer = record { board = b; bids = bids; answer = answer }

-- After a call at line n: the board that it left, and what it answered
abbrev pub after_call : ℕ → ℕ → Board → Result ℕ Refusal → Replayed
after_call n bids b (Ok k) = replayed b (bids + k) (Ok tt)
after_call n bids b (Err r) = replayed b bids (halted r n)

-- The same with the refusal told at its line
abbrev pub after_line : ℕ → Board → Result ℕ AtLine → Replayed
after_line bids b (Ok k) = replayed b (bids + k) (Ok tt)
after_line bids b (Err s) = replayed b bids (Err s)

-- A history with so many bids reaches the board
abbrev pub ReachedBy : Board → ℕ → Type 0
ReachedBy b bids = (e : ℕ) × Reached b e bids

-- Every text has an outcome: the lines are fewer than bytes and one, and no call is spent
abbrev pub ReplayEnds : Type 0
ReplayEnds = (s : List ℕ) → (r : Replayed) × (replay_of s ≡ done r)

-- Lines carried out are a history, call by call: their entries are the edges accepted, their bids the sum of those that the calls returned
abbrev pub LinesReached : Type 0
LinesReached = (s : List ℕ) (n at : ℕ) (g : Stage) (b : Board) (entries bids : ℕ) → Lines s n at g b entries bids → Reached b entries bids

-- While a text opens its board: it is the one that the call opens with the counts so far
abbrev pub LinesOpen : Type 0
LinesOpen =
    (s : List ℕ) (n at items p q low : ℕ) (counts : List ℕ) (b : Board) (entries bids : ℕ) → Lines s n at (beginning items p q low counts) b entries bids →
    OpenAnswers items p q counts b (served 0)

-- So is a finished text: the history that its lines are, with its own entries and the bids in all. Histories and Demand2 then say of its board that it
-- is sound, the sum, the share, and how many bids there are
pub record TextReached (s : List ℕ) (b : Board) (bids : ℕ) : Type 0 where
  pub entries : ℕ
  pub lines : TextFinished s b entries bids
  pub reached : Reached b entries bids

abbrev pub ReplayReached : Type 0
ReplayReached = (s : List ℕ) (b : Board) (bids : ℕ) → ReplayAnswers s b (served bids) → TextReached s b bids

-- A text that is refused at a line after the first leaves the board of the lines before, and counts their bids
abbrev pub RefusedBefore : Type 0
RefusedBefore =
    (s : List ℕ) (n : ℕ) (b : Board) (bids : ℕ) (r : Refusal) → LineRefused s (suc (suc n)) b bids r →
    (at : ℕ) × (g : Stage) × (entries : ℕ) × Lines s (suc n) at g b entries bids

-- "`A`, kettle, worth, kettle, worth and so on": a line keeps its first numbers only, and is carried out as an arrival with all its pairs
abbrev pub LineEdges : Type 0
LineEdges =
    (s : List ℕ) (at : ℕ) (ns : List ℕ) (next : ℕ) → LineForm s at ns next → get_or s at 0 ≡ 65 → length ns % 2 ≡ 0 →
    (rest : Board → ℕ → Outcome Replayed) (n : ℕ) (b : Board) (bids : ℕ) →
    carry_out rest n b bids (command_of (line_at s at)) ≡ carry_out rest n b bids (arrives (pairs_of ns (length ns / 2)))

-- "`W` lines may carry several": the same of a withdrawal with all its numbers
abbrev pub LineItems : Type 0
LineItems =
    (s : List ℕ) (at : ℕ) (ns : List ℕ) (next : ℕ) → LineForm s at ns next → get_or s at 0 ≡ 87 → 0 < length ns →
    (rest : Board → ℕ → Outcome Replayed) (n : ℕ) (b : Board) (bids : ℕ) →
    carry_out rest n b bids (command_of (line_at s at)) ≡ carry_out rest n b bids (withdraws ns)
