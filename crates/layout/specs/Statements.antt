-- What is proved of pages and of their reading.
use Rattle.std.specs.Prelude.{◌≡◌, ◌↔◌, ℕ, List}
use Rattle.layout.specs.declared.row.Row.{Row}
use Rattle.layout.specs.Row.{RowsFit}
use Rattle.layout.specs.Page.{page_of, IsPageOf}
use Rattle.layout.specs.Lines.{FirstBadOf}
use Rattle.layout.specs.Read.{got, bad, read_of}

abbrev pub IsPage : List ℕ → Type 0
IsPage bytes = (rows : List Row) × IsPageOf bytes rows

-- "a text not of this form is 14 at its first bad line"
abbrev pub FirstBad : List ℕ → ℕ → Type 0
FirstBad bytes j = FirstBadOf IsPage bytes j

-- "The page must read back to the same plan, worths and gains"
abbrev pub PageReads : Type 0
PageReads = (rows : List Row) → RowsFit rows → read_of (page_of rows) ≡ got rows

-- a text is the page of one list of rows at most
abbrev pub RowsUnique : Type 0
RowsUnique = (bytes : List ℕ) (some other : List Row) → IsPageOf bytes some → IsPageOf bytes other → some ≡ other

abbrev pub FirstBadUnique : Type 0
FirstBadUnique = (bytes : List ℕ) (i j : ℕ) → FirstBad bytes i → FirstBad bytes j → i ≡ j

-- there is a first bad line exactly when the text is no page
abbrev pub FirstBadExists : Type 0
FirstBadExists = (bytes : List ℕ) → ((j : ℕ) × FirstBad bytes j) ↔ (IsPage bytes → ⊥)

-- reading answers the rows exactly when the text is their page, and a line exactly when it is the first bad one
abbrev pub ReadIsPage : Type 0
ReadIsPage = (bytes : List ℕ) (rows : List Row) → (read_of bytes ≡ got rows) ↔ IsPageOf bytes rows

abbrev pub ReadIsFirstBad : Type 0
ReadIsFirstBad = (bytes : List ℕ) (j : ℕ) → (read_of bytes ≡ bad j) ↔ FirstBad bytes j
