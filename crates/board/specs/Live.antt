-- The live edges, the matching and the edges of a board.
use Rattle.std.specs.Prelude.{cond, List, [], ◌∷◌, ◌++◌, ℕ, zero, suc, get_or, eqb}
use Rattle.duality.specs.Matching.{weight_of}
use Rattle.board.specs.declared.record.Auction.{Auction}
use Rattle.board.specs.declared.record.Edge.{Edge}
use Rattle.board.specs.Cells.{edge, flag_at, row_in, row_at}

-- "The live sheet is all entries whose kettle is not withdrawn": the weight of the edge at an item of a row, and 0 where there is none or
-- the item is withdrawn
abbrev pub live_in : List ℕ → List ℕ → ℕ → ℕ
live_in ws withdrawn k = cond (flag_at withdrawn k) 0 (get_or ws k 0)

-- The weight of the live edge between bidder i + 1 and item k + 1, of the withdrawn items and the weights of all rows
abbrev pub live_of : List ℕ → List ℕ → ℕ → ℕ → ℕ
live_of withdrawn weights i k = live_in (row_in weights i) withdrawn k

-- The same of a board, for its arrived bidders and its items
abbrev pub live : Auction → ℕ → ℕ → ℕ
live b = live_of b.market.withdrawn b.weights

-- The number of the item, of the first m, that bidder i + 1 holds, and 0 where it holds none
unfoldable pub held_by : List ℕ → ℕ → ℕ → ℕ
held_by holder zero i = 0
held_by holder (suc k) i = cond (eqb (get_or holder k 0) (suc i)) (suc k) (held_by holder k i)

-- The matching (the plan), a cell for each bidder
abbrev pub matching_of : Auction → ℕ → ℕ
matching_of b i = held_by b.state.holder b.market.items i

-- What the matching weighs
abbrev pub matching_weight : Auction → ℕ
matching_weight b = weight_of b.market.arrived (live b) (matching_of b)

-- The edges of a row at the first m items, as a list (an entry: "a kettle number with its worth")
unfoldable pub edges_in : List ℕ → ℕ → List Edge
edges_in ws zero = []
edges_in ws (suc k) = edges_in ws k ++ cond (eqb (get_or ws k 0) 0) [] (edge (suc k) (get_or ws k 0) ∷ [])

abbrev pub edges_of : Auction → ℕ → List Edge
edges_of b i = edges_in (row_at b i) b.market.items
