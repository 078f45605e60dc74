-- How many edges decide an arrival.
use Rattle.std.specs.Prelude.{◌≡◌, List, take}
use Rattle.supply.specs.declared.record.Board.{Board}
use Rattle.board.specs.declared.record.Edge.{Edge}
use Rattle.board.specs.Limits.{max_edges}
use Rattle.auction.specs.Arrive.{arrive_of}

-- "in strictly rising kettle order" at 64 kettles at most: of more edges than that, one of the first 65 is refused, and what comes after is not
-- looked at
abbrev pub EnoughEdges : Type 0
EnoughEdges = (b : Board) (edges : List Edge) → arrive_of b edges ≡ arrive_of b (take max_edges edges)
