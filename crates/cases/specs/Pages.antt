-- The page of the kitchen wall, worked: bytes of pages, and what reading answers.
use Rattle.std.specs.Prelude.{◌≡◌, List, [], ◌∷◌, ◌++◌, ℕ, ◌*◌, length, get_or, replicate}
use Rattle.layout.specs.Row.{row_is, unplaced}
use Rattle.layout.specs.Page.{page_of}
use Rattle.layout.specs.Read.{got, bad, read_of}
use Rattle.history.specs.Wall.{wall_of}
use Rattle.cases.specs.Text.{text1, text2, text_tied}

-- BAT KT   WORTH       GAIN, and byte 10
abbrev pub head : List ℕ
head = 66 ∷ 65 ∷ 84 ∷ 32 ∷ 75 ∷ 84 ∷ 32 ∷ 32 ∷ 32 ∷ 87 ∷ 79 ∷ 82 ∷ 84 ∷ 72 ∷ 32 ∷ 32 ∷ 32 ∷ 32 ∷ 32 ∷ 32 ∷ 32 ∷ 71 ∷ 65 ∷ 73 ∷ 78 ∷ 10 ∷ []

-- "  1  2      60          0", "  2  1      90          0", "  2 --       0          0", and of the tie "  1  3     100        840", "  2  2      60        500",
-- each with its byte 10
abbrev pub line1 : List ℕ
line1 = 32 ∷ 32 ∷ 49 ∷ 32 ∷ 32 ∷ 50 ∷ 32 ∷ 32 ∷ 32 ∷ 32 ∷ 32 ∷ 32 ∷ 54 ∷ 48 ∷ 32 ∷ 32 ∷ 32 ∷ 32 ∷ 32 ∷ 32 ∷ 32 ∷ 32 ∷ 32 ∷ 32 ∷ 48 ∷ 10 ∷ []

abbrev pub line2 : List ℕ
line2 = 32 ∷ 32 ∷ 50 ∷ 32 ∷ 32 ∷ 49 ∷ 32 ∷ 32 ∷ 32 ∷ 32 ∷ 32 ∷ 32 ∷ 57 ∷ 48 ∷ 32 ∷ 32 ∷ 32 ∷ 32 ∷ 32 ∷ 32 ∷ 32 ∷ 32 ∷ 32 ∷ 32 ∷ 48 ∷ 10 ∷ []

abbrev pub tied1 : List ℕ
tied1 = 32 ∷ 32 ∷ 49 ∷ 32 ∷ 32 ∷ 51 ∷ 32 ∷ 32 ∷ 32 ∷ 32 ∷ 32 ∷ 49 ∷ 48 ∷ 48 ∷ 32 ∷ 32 ∷ 32 ∷ 32 ∷ 32 ∷ 32 ∷ 32 ∷ 32 ∷ 56 ∷ 52 ∷ 48 ∷ 10 ∷ []

abbrev pub tied2 : List ℕ
tied2 = 32 ∷ 32 ∷ 50 ∷ 32 ∷ 32 ∷ 50 ∷ 32 ∷ 32 ∷ 32 ∷ 32 ∷ 32 ∷ 32 ∷ 54 ∷ 48 ∷ 32 ∷ 32 ∷ 32 ∷ 32 ∷ 32 ∷ 32 ∷ 32 ∷ 32 ∷ 53 ∷ 48 ∷ 48 ∷ 10 ∷ []

abbrev pub line2_unplaced : List ℕ
line2_unplaced = 32 ∷ 32 ∷ 50 ∷ 32 ∷ 45 ∷ 45 ∷ 32 ∷ 32 ∷ 32 ∷ 32 ∷ 32 ∷ 32 ∷ 32 ∷ 48 ∷ 32 ∷ 32 ∷ 32 ∷ 32 ∷ 32 ∷ 32 ∷ 32 ∷ 32 ∷ 32 ∷ 32 ∷ 48 ∷ 10 ∷ []

-- The line after the heading is none of a page
abbrev pub BadLine : List ℕ → Type 0
BadLine line = read_of (head ++ line) ≡ bad 2

pub record Pages : Type 0 where
  -- "An empty board gives the heading alone"
  pub empty : page_of [] ≡ head
  pub alone : read_of head ≡ got []
  -- Case 1, and case 2 after it, on paper
  pub wall1 : wall_of text1 ≡ head ++ (line1 ++ line2)
  pub wall2 : wall_of text2 ≡ head ++ (line1 ++ line2_unplaced)
  pub read1 : read_of (head ++ (line1 ++ line2)) ≡ got (row_is 2 60 0 ∷ row_is 1 90 0 ∷ [])
  pub read2 : read_of (head ++ (line1 ++ line2_unplaced)) ≡ got (row_is 2 60 0 ∷ unplaced ∷ [])
  -- The tie of R-1, with gains
  pub wall_tied : wall_of text_tied ≡ head ++ (tied1 ++ tied2)
  pub read_tied : read_of (head ++ (tied1 ++ tied2)) ≡ got (row_is 3 100 840 ∷ row_is 2 60 500 ∷ [])
  -- "a page read may name a kettle more than once", and the limits themselves may stand there: "  1 64 1000000 2000000000", "  2 64       1          0"
  pub most : read_of (head ++ (32 ∷ 32 ∷ 49 ∷ 32 ∷ 54 ∷ 52 ∷ 32 ∷ 49 ∷ 48 ∷ 48 ∷ 48 ∷ 48 ∷ 48 ∷ 48 ∷ 32 ∷ 50 ∷ 48 ∷ 48 ∷ 48 ∷ 48 ∷ 48 ∷ 48 ∷ 48 ∷ 48 ∷ 48 ∷ 10 ∷ 32 ∷ 32 ∷ 50 ∷ 32 ∷ 54 ∷ 52 ∷ 32 ∷ 32 ∷ 32 ∷ 32 ∷ 32 ∷ 32 ∷ 32 ∷ 49 ∷ 32 ∷ 32 ∷ 32 ∷ 32 ∷ 32 ∷ 32 ∷ 32 ∷ 32 ∷ 32 ∷ 32 ∷ 48 ∷ 10 ∷ [])) ≡ got (row_is 64 1000000 2000000000 ∷ row_is 64 1 0 ∷ [])
  -- "14 at its first bad line": the empty text, a form feed before the first heading, a heading twice
  pub nothing : read_of [] ≡ bad 1
  pub feed_first : read_of (12 ∷ head) ≡ bad 1
  pub twice : read_of (head ++ head) ≡ bad 2
  -- a leading zero: "  1 02      60        600"
  pub zero : BadLine (32 ∷ 32 ∷ 49 ∷ 32 ∷ 48 ∷ 50 ∷ 32 ∷ 32 ∷ 32 ∷ 32 ∷ 32 ∷ 32 ∷ 54 ∷ 48 ∷ 32 ∷ 32 ∷ 32 ∷ 32 ∷ 32 ∷ 32 ∷ 32 ∷ 32 ∷ 54 ∷ 48 ∷ 48 ∷ 10 ∷ [])
  -- not at the right: "  1 2       60        600"
  pub left : BadLine (32 ∷ 32 ∷ 49 ∷ 32 ∷ 50 ∷ 32 ∷ 32 ∷ 32 ∷ 32 ∷ 32 ∷ 32 ∷ 32 ∷ 54 ∷ 48 ∷ 32 ∷ 32 ∷ 32 ∷ 32 ∷ 32 ∷ 32 ∷ 32 ∷ 32 ∷ 54 ∷ 48 ∷ 48 ∷ 10 ∷ [])
  -- `--` with a gain: "  1 --       0          1"
  pub gained : BadLine (32 ∷ 32 ∷ 49 ∷ 32 ∷ 45 ∷ 45 ∷ 32 ∷ 32 ∷ 32 ∷ 32 ∷ 32 ∷ 32 ∷ 32 ∷ 48 ∷ 32 ∷ 32 ∷ 32 ∷ 32 ∷ 32 ∷ 32 ∷ 32 ∷ 32 ∷ 32 ∷ 32 ∷ 49 ∷ 10 ∷ [])
  -- `--` with a worth: "  1 --       1          0"
  pub weighed : BadLine (32 ∷ 32 ∷ 49 ∷ 32 ∷ 45 ∷ 45 ∷ 32 ∷ 32 ∷ 32 ∷ 32 ∷ 32 ∷ 32 ∷ 32 ∷ 49 ∷ 32 ∷ 32 ∷ 32 ∷ 32 ∷ 32 ∷ 32 ∷ 32 ∷ 32 ∷ 32 ∷ 32 ∷ 48 ∷ 10 ∷ [])
  -- a kettle without a worth: "  1  2       0          0"
  pub worthless : BadLine (32 ∷ 32 ∷ 49 ∷ 32 ∷ 32 ∷ 50 ∷ 32 ∷ 32 ∷ 32 ∷ 32 ∷ 32 ∷ 32 ∷ 32 ∷ 48 ∷ 32 ∷ 32 ∷ 32 ∷ 32 ∷ 32 ∷ 32 ∷ 32 ∷ 32 ∷ 32 ∷ 32 ∷ 48 ∷ 10 ∷ [])
  -- "kettles 1 to 64": "  1 65       1          1"
  pub kettle : BadLine (32 ∷ 32 ∷ 49 ∷ 32 ∷ 54 ∷ 53 ∷ 32 ∷ 32 ∷ 32 ∷ 32 ∷ 32 ∷ 32 ∷ 32 ∷ 49 ∷ 32 ∷ 32 ∷ 32 ∷ 32 ∷ 32 ∷ 32 ∷ 32 ∷ 32 ∷ 32 ∷ 32 ∷ 49 ∷ 10 ∷ [])
  -- "worths within limits": "  1  1 1000001          1"
  pub heavy : BadLine (32 ∷ 32 ∷ 49 ∷ 32 ∷ 32 ∷ 49 ∷ 32 ∷ 49 ∷ 48 ∷ 48 ∷ 48 ∷ 48 ∷ 48 ∷ 49 ∷ 32 ∷ 32 ∷ 32 ∷ 32 ∷ 32 ∷ 32 ∷ 32 ∷ 32 ∷ 32 ∷ 32 ∷ 49 ∷ 10 ∷ [])
  -- "gains at most 2,000,000,000": "  1  1       1 2000000001"
  pub rich : BadLine (32 ∷ 32 ∷ 49 ∷ 32 ∷ 32 ∷ 49 ∷ 32 ∷ 32 ∷ 32 ∷ 32 ∷ 32 ∷ 32 ∷ 32 ∷ 49 ∷ 32 ∷ 50 ∷ 48 ∷ 48 ∷ 48 ∷ 48 ∷ 48 ∷ 48 ∷ 48 ∷ 48 ∷ 49 ∷ 10 ∷ [])
  -- 13 columns for the gain: "  1  2      60           600"
  pub wide : BadLine (32 ∷ 32 ∷ 49 ∷ 32 ∷ 32 ∷ 50 ∷ 32 ∷ 32 ∷ 32 ∷ 32 ∷ 32 ∷ 32 ∷ 54 ∷ 48 ∷ 32 ∷ 32 ∷ 32 ∷ 32 ∷ 32 ∷ 32 ∷ 32 ∷ 32 ∷ 32 ∷ 32 ∷ 32 ∷ 54 ∷ 48 ∷ 48 ∷ 10 ∷ [])
  -- batch 2 first: "  2  1      90        420"
  pub second : BadLine (32 ∷ 32 ∷ 50 ∷ 32 ∷ 32 ∷ 49 ∷ 32 ∷ 32 ∷ 32 ∷ 32 ∷ 32 ∷ 32 ∷ 57 ∷ 48 ∷ 32 ∷ 32 ∷ 32 ∷ 32 ∷ 32 ∷ 32 ∷ 32 ∷ 32 ∷ 52 ∷ 50 ∷ 48 ∷ 10 ∷ [])
  -- byte 13 before byte 10
  pub carriage : BadLine (32 ∷ 32 ∷ 49 ∷ 32 ∷ 32 ∷ 50 ∷ 32 ∷ 32 ∷ 32 ∷ 32 ∷ 32 ∷ 32 ∷ 54 ∷ 48 ∷ 32 ∷ 32 ∷ 32 ∷ 32 ∷ 32 ∷ 32 ∷ 32 ∷ 32 ∷ 54 ∷ 48 ∷ 48 ∷ 13 ∷ 10 ∷ [])
  -- the last byte 10 is missing
  pub unclosed : BadLine (32 ∷ 32 ∷ 49 ∷ 32 ∷ 32 ∷ 50 ∷ 32 ∷ 32 ∷ 32 ∷ 32 ∷ 32 ∷ 32 ∷ 54 ∷ 48 ∷ 32 ∷ 32 ∷ 32 ∷ 32 ∷ 32 ∷ 32 ∷ 32 ∷ 32 ∷ 54 ∷ 48 ∷ 48 ∷ [])
  -- "before each 40 batches, and form feed (byte 12) before each heading but the first": the byte after 40 rows, of 40 rows and of 41
  pub forty : length (page_of (replicate 40 unplaced)) ≡ 41 * 26
  pub forty_one : get_or (page_of (replicate 41 unplaced)) (41 * 26) 0 ≡ 12
  -- "(the one after the last, if it stops short)": 40 rows and a second heading are 42 lines
  pub stops_short : read_of (page_of (replicate 40 unplaced) ++ (12 ∷ head)) ≡ bad 43
  -- a row of batch 41 without the heading that is due
  pub no_heading : read_of (page_of (replicate 40 unplaced) ++ (32 ∷ 52 ∷ 49 ∷ 32 ∷ 45 ∷ 45 ∷ 32 ∷ 32 ∷ 32 ∷ 32 ∷ 32 ∷ 32 ∷ 32 ∷ 48 ∷ 32 ∷ 32 ∷ 32 ∷ 32 ∷ 32 ∷ 32 ∷ 32 ∷ 32 ∷ 32 ∷ 32 ∷ 48 ∷ 10 ∷ [])) ≡ bad 42
