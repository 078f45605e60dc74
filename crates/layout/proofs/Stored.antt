-- Laws of the rows that are stored one after the other.
use Rattle.std.proofs.Common.{◌≡◌, ℕ, ◌+◌, List, get_or, set, ap}
use Rattle.board.proofs.Written.{written_start, written_next}
use Rattle.layout.specs.declared.row.Row.{Row}
use Rattle.layout.specs.Row.{unplaced}
use Rattle.layout.specs.Stored.{row_item, row_weight, row_gain, RowLists, row_lists, rows_stored}

pub stored_none : (rows : List Row) (l : RowLists) → l ≡ rows_stored 0 rows l
stored_none rows l = rw (← written_start (row_item rows) l.plan, ← written_start (row_weight rows) l.weights, ← written_start (row_gain rows) l.gains)

pub stored_more : (rows : List Row) (i : ℕ) (r : Row) (l m : RowLists) → m ≡ rows_stored i rows l → r ≡ get_or rows i unplaced
    → row_lists (set m.plan i r.item) (set m.weights i r.weight) (set m.gains i r.gain) ≡ rows_stored (i + 1) rows l
stored_more rows i r l m e h =
    let p = written_next i r.item (row_item rows) l.plan m.plan (ap (λ (l : RowLists). l.plan) e) (ap (λ (r : Row). r.item) h) in
    let w = written_next i r.weight (row_weight rows) l.weights m.weights (ap (λ (l : RowLists). l.weights) e) (ap (λ (r : Row). r.weight) h) in
    let g = written_next i r.gain (row_gain rows) l.gains m.gains (ap (λ (l : RowLists). l.gains) e) (ap (λ (r : Row). r.gain) h) in
    rw (p, w, g)
