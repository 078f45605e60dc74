-- What a line of a history text says, by the form of its bytes alone, apart from any reader.
use Rattle.std.specs.Prelude.{◌≡◌, ◌↔◌, List, [], ◌∷◌, ℕ, get_or}
use Rattle.text.specs.Line.{line_at}
use Rattle.text.specs.Form.{LineForm}
use Rattle.supply.specs.declared.record.Board.{Board}
use Rattle.board.specs.declared.record.Edge.{Edge}
use Rattle.board.specs.Cells.{edge}
use Rattle.bidding.specs.Rule.{Outcome}
use Rattle.replay.specs.declared.Replayed.{Replayed}
use Rattle.replay.specs.Replay.{place_line, Command, opens, places, arrives, withdraws, malformed, command_of, carry_out, first_line}

-- "kettle, worth, kettle, worth and so on": numbers as pairs, each an edge
pub data Pairs : List ℕ → List Edge → Type 0 where
  none : Pairs [] []
  pair : {k w : ℕ} {ns : List ℕ} {edges : List Edge} → Pairs ns edges → Pairs (k ∷ (w ∷ ns)) (edge k w ∷ edges)

-- What the line at a position says, and where the next line starts. The letters are `K` (75), `P` (80), `A` (65) and `W` (87)
pub data Says (s : List ℕ) (at : ℕ) : Command → ℕ → Type 0 where
  -- "`K`, kettles, p, q"
  opening : {k p q next : ℕ} → get_or s at 0 ≡ 75 → LineForm s at (k ∷ (p ∷ (q ∷ []))) next → Says s at (opens k p q) next
  -- "lines `P`, kettle, places" (document 02, R-6)
  placing : {k c next : ℕ} → get_or s at 0 ≡ 80 → LineForm s at (k ∷ (c ∷ [])) next → Says s at (places k c) next
  -- "`A`, kettle, worth, kettle, worth and so on"; "A lone `A` is an empty arrival"
  arrival : {ns : List ℕ} {edges : List Edge} {next : ℕ} → get_or s at 0 ≡ 65 → LineForm s at ns next → Pairs ns edges → Says s at (arrives edges) next
  -- "`W`, kettle"; "`W` lines may carry several", and one at least
  withdrawal : {k next : ℕ} {ns : List ℕ} → get_or s at 0 ≡ 87 → LineForm s at (k ∷ ns) next → Says s at (withdraws (k ∷ ns)) next

-- It says one thing
abbrev pub SaysOnce : Type 0
SaysOnce = (s : List ℕ) (at : ℕ) (c d : Command) (next end : ℕ) → Says s at c next → Says s at d end → (c ≡ d) × (next ≡ end)

-- A line not of the form says nothing
abbrev pub SaysNothing : List ℕ → ℕ → Type 0
SaysNothing s at = (command : Command) (next : ℕ) → Says s at command next → ⊥

-- The computed line is carried out as what the line says, as the first line, while the board is being opened and later, and the next line starts where
-- this one ends
pub record CarriedAsSaid (s : List ℕ) (at : ℕ) (command : Command) (next : ℕ) : Type 0 where
  pub moves : (line_at s at).next ≡ next
  pub first : first_line s next (command_of (line_at s at)) ≡ first_line s next command
  pub placing : (go : ℕ → List ℕ → Outcome Replayed) (rest : Outcome Replayed) (n items p q low : ℕ) (counts : List ℕ) →
      place_line go rest n items p q low counts (command_of (line_at s at)) ≡ place_line go rest n items p q low counts command
  pub later : (rest : Board → ℕ → Outcome Replayed) (n : ℕ) (b : Board) (bids : ℕ) →
      carry_out rest n b bids (command_of (line_at s at)) ≡ carry_out rest n b bids command

abbrev pub LineSaid : Type 0
LineSaid = (s : List ℕ) (at : ℕ) (command : Command) (next : ℕ) → Says s at command next → CarriedAsSaid s at command next

-- "text not of the form below": the computed line is malformed exactly when the line says nothing
abbrev pub LineMalformed : Type 0
LineMalformed = (s : List ℕ) (at : ℕ) → (command_of (line_at s at) ≡ malformed) ↔ SaysNothing s at
