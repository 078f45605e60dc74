-- The page of rows, as bytes.
use Rattle.std.specs.Prelude.{◌≡◌, ℕ, zero, suc, ◌-◌, ◌%◌, Bool, true, false, ◌&&◌, not, List, [], ◌∷◌, ◌++◌, length, replicate, eqb}
use Rattle.text.specs.Bytes.{newline}
use Rattle.text.specs.Print.{decimal}
use Rattle.layout.specs.Limits.{rows_to_heading, number_columns, item_columns, weight_columns, gain_columns, blank, dash, feed}
use Rattle.layout.specs.declared.row.Row.{Row}
use Rattle.layout.specs.Row.{RowsFit}

-- "right-justified": after blanks, in so many columns
unfoldable pub padded : ℕ → List ℕ → List ℕ
padded width text = replicate (width - length text) blank ++ text

-- "single blanks between, 25 columns and byte 10"
abbrev pub page_line : List ℕ → List ℕ → List ℕ → List ℕ → List ℕ
page_line number item weight gain =
    padded number_columns number ++ (blank ∷ (padded item_columns item ++ (blank ∷ (padded weight_columns weight ++ (blank ∷ (padded gain_columns gain ++ (newline ∷ [])))))))

-- "The heading `BAT KT   WORTH       GAIN`": each word at the right of its column
unfoldable pub heading : List ℕ
heading = page_line (66 ∷ 65 ∷ 84 ∷ []) (75 ∷ 84 ∷ []) (87 ∷ 79 ∷ 82 ∷ 84 ∷ 72 ∷ []) (71 ∷ 65 ∷ 73 ∷ 78 ∷ [])

-- "kettle (2, or `--`)"
abbrev pub item_text : ℕ → List ℕ
item_text zero = dash ∷ dash ∷ []
item_text (suc k) = decimal (suc k)

-- the line of the bidder of this number
unfoldable pub row_line : ℕ → Row → List ℕ
row_line n r = page_line (decimal n) (item_text r.item) (decimal r.weight) (decimal r.gain)

-- "form feed (byte 12) before each heading but the first"
abbrev pub next_heading : List ℕ
next_heading = feed ∷ heading

-- a heading is due between i rows and the next
unfoldable pub breaks : ℕ → Bool
breaks i = not (eqb i 0) && eqb (i % rows_to_heading) 0

abbrev pub headed : Bool → List ℕ → List ℕ
headed true rest = next_heading ++ rest
headed false rest = rest

-- the rows after the first i
abbrev pub page_from : ℕ → List Row → List ℕ
page_from i [] = []
page_from i (r ∷ rs) = headed (breaks i) (row_line (suc i) r ++ page_from (suc i) rs)

-- "An empty board gives the heading alone"
abbrev pub page_of : List Row → List ℕ
page_of rows = heading ++ page_from 0 rows

-- a text is the page of rows within the limits
pub record IsPageOf (bytes : List ℕ) (rows : List Row) : Type 0 where
  pub fit : RowsFit rows
  pub is : bytes ≡ page_of rows
