-- The rows of a page, as three lists that a caller lends: items, weights and gains.
use Rattle.std.specs.Prelude.{List, [], ℕ, get_or}
use Rattle.board.specs.Lent.{written}
use Rattle.layout.specs.declared.row.Row.{Row}
use Rattle.layout.specs.Row.{unplaced}
use Rattle.layout.specs.Read.{Read, got, bad}

-- The rows that a text is the page of, and none where it is none
abbrev pub rows_got : Read → List Row
rows_got (got rs) = rs
rows_got (bad j) = []

-- Item, weight and gain of row k, counted from 0
abbrev pub row_item : List Row → ℕ → ℕ
row_item rows k = (get_or rows k unplaced).item

abbrev pub row_weight : List Row → ℕ → ℕ
row_weight rows k = (get_or rows k unplaced).weight

abbrev pub row_gain : List Row → ℕ → ℕ
row_gain rows k = (get_or rows k unplaced).gain

-- The three lists: "the same plan, worths and gains"
pub record RowLists : Type 0 where
  pub plan : List ℕ
  pub weights : List ℕ
  pub gains : List ℕ

abbrev pub row_lists : List ℕ → List ℕ → List ℕ → RowLists
row_lists plan weights gains = record { plan = plan; weights = weights; gains = gains }

-- The first n rows in the first n cells. "further cells keep what they held"
abbrev pub rows_stored : ℕ → List Row → RowLists → RowLists
rows_stored n rows l = row_lists (written n (row_item rows) l.plan) (written n (row_weight rows) l.weights) (written n (row_gain rows) l.gains)

-- The same of what is read
abbrev pub stored_lists : ℕ → Read → RowLists → RowLists
stored_lists n r l = rows_stored n (rows_got r) l
