-- Demand 1 of the two calls, and the order of their checks in numbers.
use Rattle.std.specs.Prelude.{◌≡◌, List, [], ◌∷◌, ℕ, length}
use Rattle.refusals.specs.Codes.{code}
use Rattle.refusals.specs.Told.{served, refused}
use Rattle.refusals.specs.Demand1.{codes_of, Demand1}
use Rattle.supply.specs.declared.record.Board.{Board}
use Rattle.layout.specs.declared.row.Row.{Row}
use Rattle.layout.specs.Page.{IsPageOf}
use Rattle.layout.specs.Read.{read_of}
use Rattle.layout.specs.Seen.{line_in}
use Rattle.layout.specs.Stored.{RowLists, rows_stored}
use Rattle.page.specs.Rows.{board_page}
use Rattle.page.specs.Writing.{WriteMet, write_checks, page_over, WriteAnswers}
use Rattle.page.specs.Reading.{ReadMet, read_checks, ReadAnswers}

-- Refused, every byte of the page stays; served, the board's page stands there
abbrev pub WriteDemand1 : Type 0
WriteDemand1 =
    (b : Board) (page : List ℕ) →
    Demand1 (WriteMet b page) (write_checks b (length page))
    (λ r. WriteAnswers b page page (refused r))
    (WriteAnswers b page (page_over b page) (served (length (board_page b))))

-- Refused, every cell stays; served, the text is the page of rows, which stand in the lists
pub record ReadServes (s : List ℕ) (l : RowLists) : Type 0 where
  pub rows : List Row
  pub page : IsPageOf s rows
  pub answers : ReadAnswers s l (rows_stored (length rows) rows l) (served (length rows))

abbrev pub ReadDemand1 : Type 0
ReadDemand1 =
    (s : List ℕ) (l : RowLists) →
    Demand1 (ReadMet s l) (read_checks s l)
    (λ r. ReadAnswers s l l (refused r))
    (ReadServes s l)

pub record PageOrders : Type 0 where
  -- "Answers when writing: 8 if the lent page is too short, after 13."
  pub writes : (b : Board) (room : ℕ) → codes_of (write_checks b room) ≡ code 13 0 ∷ code 8 0 ∷ []
  -- "14 at its first bad line .., after 15, then 8 for lists too short"
  pub reads : (s : List ℕ) (l : RowLists) → codes_of (read_checks s l) ≡ code 15 0 ∷ code 14 (line_in (read_of s)) ∷ code 8 0 ∷ []
