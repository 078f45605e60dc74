-- The edges that an arrival lends: how each is tested, and the row that they make. Edge i + 1 is cell i.
use Rattle.std.specs.Prelude.{Bool, false, not, List, [], ◌∷◌, ◌++◌, ℕ, zero, suc, ◌-◌, min, get_or, set, replicate, leb}
use Rattle.board.specs.declared.record.Edge.{Edge}
use Rattle.auction.specs.declared.edges.EdgeBuffer.{EdgeBuffer}
use Rattle.refusals.specs.declared.Refusal.TheVariants.{Unknown, Gone, Worth, Order}
use Rattle.board.specs.Limits.{max_items, max_weight, max_edges}
use Rattle.board.specs.Cells.{edge}
use Rattle.refusals.specs.Demand1.{Check, check_for}
use Rattle.refusals.specs.Each.{each_checks}
use Rattle.board.specs.Ranges.{within_test}

-- The item and the weight of the edge in a cell of a list
abbrev pub item_in : List Edge → ℕ → ℕ
item_in edges i = (get_or edges i (edge 0 0)).item

abbrev pub weight_in : List Edge → ℕ → ℕ
weight_in edges i = (get_or edges i (edge 0 0)).weight.0

-- "kettle not above the entry before"
unfoldable pub order_test : (ℕ → ℕ) → ℕ → Bool
order_test item zero = false
order_test item (suc i) = leb (item (suc i)) (item i)

-- "entry by entry 4, 5, 6, 7": the checks of one edge. `gone` says which items are withdrawn; `item` and `weight` read the edges' cells
unfoldable pub edge_checks : ℕ → (ℕ → Bool) → (ℕ → ℕ) → (ℕ → ℕ) → ℕ → List Check
edge_checks items gone item weight i =
    check_for (Unknown (suc i)) (not (within_test items (item i))) ∷
    (check_for (Gone (suc i)) (gone (item i - 1)) ∷
    (check_for (Worth (suc i)) (not (within_test max_weight (weight i))) ∷
    (check_for (Order (suc i)) (order_test item i) ∷ [])))

-- Of n edges from cell i on
abbrev pub edges_checks : ℕ → (ℕ → Bool) → (ℕ → ℕ) → (ℕ → ℕ) → ℕ → ℕ → List Check
edges_checks items gone item weight i n = each_checks (edge_checks items gone item weight) i n

-- The row that the first n edges make, by item: each weight in its item's cell
unfoldable pub row_to : (ℕ → ℕ) → (ℕ → ℕ) → ℕ → List ℕ
row_to item weight zero = replicate max_items 0
row_to item weight (suc i) = set (row_to item weight i) (item i - 1) (weight i)

-- What a buffer means: its first pairs, as many as its count says, and 65 at most
unfoldable pub edges_from : List ℕ → List ℕ → ℕ → List Edge
edges_from items weights zero = []
edges_from items weights (suc n) = edges_from items weights n ++ (edge (get_or items n 0) (get_or weights n 0) ∷ [])

abbrev pub buffer_edges : EdgeBuffer → List Edge
buffer_edges buffer = edges_from buffer.items buffer.weights (min buffer.count max_edges)
