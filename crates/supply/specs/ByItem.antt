-- What a board says by item. The auction under it says the same by place; an edge, and a withdrawal, is of all places of an item, so that the first place
-- speaks for it.
use Rattle.std.specs.Prelude.{Bool, cond, List, [], ◌∷◌, ◌++◌, ℕ, zero, suc, eqb}
use Rattle.duality.specs.Matching.{weight_of}
use Rattle.places.specs.Plan.{read_back}
use Rattle.places.specs.Total.{least_price}
use Rattle.board.specs.declared.record.Edge.{Edge}
use Rattle.board.specs.Cells.{edge, flag_at}
use Rattle.board.specs.Live.{live_of}
use Rattle.board.specs.Cells as place
use Rattle.board.specs.Live as placed
use Rattle.supply.specs.declared.record.Board.{Board}
use Rattle.supply.specs.declared.record.Items.{Items}
use Rattle.supply.specs.Board.{auction_of, places_at, start_in}

-- Whether item k + 1 is withdrawn ("A withdrawal removes all places"), of the flags of all places; and of a board
abbrev pub gone_by : Items → List ℕ → ℕ → Bool
gone_by items withdrawn k = flag_at withdrawn (start_in items k)

abbrev pub withdrawn_at : Board → ℕ → Bool
withdrawn_at b = gone_by b.items b.market.withdrawn

-- The weight of the edge between bidder i + 1 and item k + 1, 0 where there is none
abbrev pub weight_at : Board → ℕ → ℕ → ℕ
weight_at b i k = place.weight_at (auction_of b) i (start_in b.items k)

-- "The live sheet is all entries whose kettle is not withdrawn": the weight of the live edge between bidder i + 1 and item k + 1, of the flags and the
-- weights of all places; and of a board
abbrev pub live_by : Items → List ℕ → List ℕ → ℕ → ℕ → ℕ
live_by items withdrawn weights i k = live_of withdrawn weights i (start_in items k)

abbrev pub live : Board → ℕ → ℕ → ℕ
live b = live_by b.items b.market.withdrawn b.weights

abbrev pub gain_at : Board → ℕ → ℕ
gain_at b i = place.gain_at (auction_of b) i

-- "Read-out gives a kettle's least price"
abbrev pub price_at : Board → ℕ → ℕ
price_at b k = least_price (places_at b) (place.price_at (auction_of b)) k

-- The matching (the plan), a cell for each bidder: the item of the place that it holds
abbrev pub matching_of : Board → ℕ → ℕ
matching_of b = read_back (places_at b) b.items.count (placed.matching_of (auction_of b))

-- What the matching weighs
abbrev pub matching_weight : Board → ℕ
matching_weight b = weight_of b.market.arrived (live b) (matching_of b)

-- The edges of weights by item, at the first m items, as a list (an entry: "a kettle number with its worth")
unfoldable pub edges_to : (ℕ → ℕ) → ℕ → List Edge
edges_to w zero = []
edges_to w (suc k) = edges_to w k ++ cond (eqb (w k) 0) [] (edge (suc k) (w k) ∷ [])

abbrev pub edges_of : Board → ℕ → List Edge
edges_of b i = edges_to (weight_at b i) b.items.count
