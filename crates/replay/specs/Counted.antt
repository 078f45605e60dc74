-- Counts that a board is opened with.
use Rattle.std.specs.Prelude.{◌≡◌, List, ℕ, suc, length, Ok}
use Rattle.refusals.specs.Demand1.{first_of}
use Rattle.supply.specs.Opening.{opened, open_checks}
use Rattle.bidding.specs.Rule.{Outcome}
use Rattle.replay.specs.declared.Replayed.{Replayed}
use Rattle.replay.specs.Replay.{ones, lines_from, place_lines}

-- Opening serves
abbrev pub Counted : ℕ → ℕ → ℕ → List ℕ → Type 0
Counted items p q counts = first_of (open_checks items p q counts) ≡ Ok tt

-- What the lines that are not of places make, from a position on, of the board that is opened
abbrev pub others_from : List ℕ → ℕ → ℕ → ℕ → ℕ → List ℕ → Outcome Replayed
others_from s at n p q counts = lines_from (suc (length s)) s at n (opened p q counts) 0

-- What all lines after the first make
abbrev pub placing_from : List ℕ → ℕ → ℕ → ℕ → ℕ → Outcome Replayed
placing_from s start items p q = place_lines (suc (length s)) s start 2 items p q 0 (ones items)
