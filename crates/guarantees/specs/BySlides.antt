-- Texts whose every bid is the four steps of the slides in turn.
use Rattle.std.specs.Prelude.{List, ℕ}
use Rattle.supply.specs.declared.record.Board.{Board}
use Rattle.refusals.specs.Told.{served}
use Rattle.auction.specs.BySlides.{ReachedBySlides}
use Rattle.replay.specs.TextDemand1.{Stage, Lines, ReplayAnswers}

-- Lines carried out, also those before a line that is refused
abbrev pub LinesBySlides : Type 0
LinesBySlides = (s : List ℕ) (n at : ℕ) (g : Stage) (b : Board) (entries bids : ℕ) → Lines s n at g b entries bids → ReachedBySlides b entries bids

-- A text that is finished
abbrev pub ReplayBySlides : Type 0
ReplayBySlides = (s : List ℕ) (b : Board) (bids : ℕ) → ReplayAnswers s b (served bids) → (entries : ℕ) × ReachedBySlides b entries bids
