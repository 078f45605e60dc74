-- Cases as texts, refused ones among them, and what the program prints.
use Rattle.std.specs.Prelude.{◌≡◌, List, [], ◌∷◌, ◌++◌, map, ℕ}
use Rattle.history.specs.Plan.{sheet_of}
use Rattle.cases.specs.Table.{Cases}
use Rattle.cases.specs.Ties.{Ties}

-- K, 2, 1, 10; A, 1, 100, 2, 60; A, 1, 90: fields parted by a tab (9), lines closed by byte 10
abbrev pub text1 : List ℕ
text1 =
    (75 ∷ 9 ∷ 50 ∷ 9 ∷ 49 ∷ 9 ∷ 49 ∷ 48 ∷ 10 ∷ []) ++
    ((65 ∷ 9 ∷ 49 ∷ 9 ∷ 49 ∷ 48 ∷ 48 ∷ 9 ∷ 50 ∷ 9 ∷ 54 ∷ 48 ∷ 10 ∷ []) ++ (65 ∷ 9 ∷ 49 ∷ 9 ∷ 57 ∷ 48 ∷ 10 ∷ []))

-- P, 1, 2, 0; P, 2, 1, 0; Y, 1, 990; Y, 2, 660; T, 150, 1650, 3; E, 150
abbrev pub printed1 : List ℕ
printed1 =
    (80 ∷ 9 ∷ 49 ∷ 9 ∷ 50 ∷ 9 ∷ 48 ∷ 10 ∷ []) ++
    ((80 ∷ 9 ∷ 50 ∷ 9 ∷ 49 ∷ 9 ∷ 48 ∷ 10 ∷ []) ++
    ((89 ∷ 9 ∷ 49 ∷ 9 ∷ 57 ∷ 57 ∷ 48 ∷ 10 ∷ []) ++
    ((89 ∷ 9 ∷ 50 ∷ 9 ∷ 54 ∷ 54 ∷ 48 ∷ 10 ∷ []) ++
    ((84 ∷ 9 ∷ 49 ∷ 53 ∷ 48 ∷ 9 ∷ 49 ∷ 54 ∷ 53 ∷ 48 ∷ 9 ∷ 51 ∷ 10 ∷ []) ++ (69 ∷ 9 ∷ 49 ∷ 53 ∷ 48 ∷ 10 ∷ [])))))

-- The same, and W, 1
abbrev pub text2 : List ℕ
text2 = text1 ++ (87 ∷ 9 ∷ 49 ∷ 10 ∷ [])

-- P, 1, 2, 0; P, 2, 0, 0; Y, 2, 660; T, 60, 660, 3; E, 60
abbrev pub printed2 : List ℕ
printed2 =
    (80 ∷ 9 ∷ 49 ∷ 9 ∷ 50 ∷ 9 ∷ 48 ∷ 10 ∷ []) ++
    ((80 ∷ 9 ∷ 50 ∷ 9 ∷ 48 ∷ 9 ∷ 48 ∷ 10 ∷ []) ++
    ((89 ∷ 9 ∷ 50 ∷ 9 ∷ 54 ∷ 54 ∷ 48 ∷ 10 ∷ []) ++
    ((84 ∷ 9 ∷ 54 ∷ 48 ∷ 9 ∷ 54 ∷ 54 ∷ 48 ∷ 9 ∷ 51 ∷ 10 ∷ []) ++ (69 ∷ 9 ∷ 54 ∷ 48 ∷ 10 ∷ []))))

-- K, 3, 1, 10; A, 2, 100, 3, 100; A, 1, 50, 2, 60: the tie of document 02's R-1, as the bids of its R-7 come to it
abbrev pub text_tied : List ℕ
text_tied =
    (75 ∷ 9 ∷ 51 ∷ 9 ∷ 49 ∷ 9 ∷ 49 ∷ 48 ∷ 10 ∷ []) ++
    ((65 ∷ 9 ∷ 50 ∷ 9 ∷ 49 ∷ 48 ∷ 48 ∷ 9 ∷ 51 ∷ 9 ∷ 49 ∷ 48 ∷ 48 ∷ 10 ∷ []) ++ (65 ∷ 9 ∷ 49 ∷ 9 ∷ 53 ∷ 48 ∷ 9 ∷ 50 ∷ 9 ∷ 54 ∷ 48 ∷ 10 ∷ []))

-- P, 1, 3, 840; P, 2, 2, 500; Y, 1, 0; Y, 2, 160; Y, 3, 260; T, 160, 1760, 3; E, 160
abbrev pub printed_tied : List ℕ
printed_tied =
    (80 ∷ 9 ∷ 49 ∷ 9 ∷ 51 ∷ 9 ∷ 56 ∷ 52 ∷ 48 ∷ 10 ∷ []) ++
    ((80 ∷ 9 ∷ 50 ∷ 9 ∷ 50 ∷ 9 ∷ 53 ∷ 48 ∷ 48 ∷ 10 ∷ []) ++
    ((89 ∷ 9 ∷ 49 ∷ 9 ∷ 48 ∷ 10 ∷ []) ++
    ((89 ∷ 9 ∷ 50 ∷ 9 ∷ 49 ∷ 54 ∷ 48 ∷ 10 ∷ []) ++
    ((89 ∷ 9 ∷ 51 ∷ 9 ∷ 50 ∷ 54 ∷ 48 ∷ 10 ∷ []) ++
    ((84 ∷ 9 ∷ 49 ∷ 54 ∷ 48 ∷ 9 ∷ 49 ∷ 55 ∷ 54 ∷ 48 ∷ 9 ∷ 51 ∷ 10 ∷ []) ++ (69 ∷ 9 ∷ 49 ∷ 54 ∷ 48 ∷ 10 ∷ []))))))

-- P, 1, 0, 0; P, 2, 0, 0; T, 0, 0, 3; E, 0
abbrev pub printed_bare : List ℕ
printed_bare =
    (80 ∷ 9 ∷ 49 ∷ 9 ∷ 48 ∷ 9 ∷ 48 ∷ 10 ∷ []) ++
    ((80 ∷ 9 ∷ 50 ∷ 9 ∷ 48 ∷ 9 ∷ 48 ∷ 10 ∷ []) ++ ((84 ∷ 9 ∷ 48 ∷ 9 ∷ 48 ∷ 9 ∷ 51 ∷ 10 ∷ []) ++ (69 ∷ 9 ∷ 48 ∷ 10 ∷ [])))

-- K, 1, 1, 2; P, 1, 2; A, 1, 100; A, 1, 90; A, 1, 80: a double kettle (document 02, R-6)
abbrev pub text_double : List ℕ
text_double =
    (75 ∷ 9 ∷ 49 ∷ 9 ∷ 49 ∷ 9 ∷ 50 ∷ 10 ∷ []) ++
    ((80 ∷ 9 ∷ 49 ∷ 9 ∷ 50 ∷ 10 ∷ []) ++
    ((65 ∷ 9 ∷ 49 ∷ 9 ∷ 49 ∷ 48 ∷ 48 ∷ 10 ∷ []) ++ ((65 ∷ 9 ∷ 49 ∷ 9 ∷ 57 ∷ 48 ∷ 10 ∷ []) ++ (65 ∷ 9 ∷ 49 ∷ 9 ∷ 56 ∷ 48 ∷ 10 ∷ []))))

-- P, 1, 1, 200; P, 2, 1, 0; P, 3, 0, 0; Y, 1, 100; T, 190, 570, 2; E, 190
abbrev pub printed_double : List ℕ
printed_double =
    (80 ∷ 9 ∷ 49 ∷ 9 ∷ 49 ∷ 9 ∷ 50 ∷ 48 ∷ 48 ∷ 10 ∷ []) ++
    ((80 ∷ 9 ∷ 50 ∷ 9 ∷ 49 ∷ 9 ∷ 48 ∷ 10 ∷ []) ++
    ((80 ∷ 9 ∷ 51 ∷ 9 ∷ 48 ∷ 9 ∷ 48 ∷ 10 ∷ []) ++
    ((89 ∷ 9 ∷ 49 ∷ 9 ∷ 49 ∷ 48 ∷ 48 ∷ 10 ∷ []) ++
    ((84 ∷ 9 ∷ 49 ∷ 57 ∷ 48 ∷ 9 ∷ 53 ∷ 55 ∷ 48 ∷ 9 ∷ 50 ∷ 10 ∷ []) ++ (69 ∷ 9 ∷ 49 ∷ 57 ∷ 48 ∷ 10 ∷ [])))))

-- K, 2, 1, 10: the first line of the texts below
abbrev pub first_line1 : List ℕ
first_line1 = 75 ∷ 9 ∷ 50 ∷ 9 ∷ 49 ∷ 9 ∷ 49 ∷ 48 ∷ 10 ∷ []

-- A text, and what the program prints
pub record TextRow : Type 0 where
  pub text : List ℕ
  pub printed : List ℕ

abbrev pub text_row : List ℕ → List ℕ → TextRow
text_row s out = record { text = s; printed = out }

unfoldable pub texts : List TextRow
texts =
    -- 1 "The text above"
    text_row text1 printed1 ∷
    -- 2 "Then kettle 1 withdrawn: batch 2 unplaced, worth 60, sum 660, no bid"
    (text_row text2 printed2 ∷
    -- R-1 "kettle 2 is now taken": batch 2 takes it first, which displaces batch 1
    (text_row text_tied printed_tied ∷
    -- "A refused text prints only `R`, number, line": A, 3, 5 names kettle 3 of 2, so R, 4, 2
    (text_row (first_line1 ++ (65 ∷ 9 ∷ 51 ∷ 9 ∷ 53 ∷ 10 ∷ [])) (82 ∷ 9 ∷ 52 ∷ 9 ∷ 50 ∷ 10 ∷ []) ∷
    -- 14 "Kettle withdrawn twice: 5": W, 1; W, 1: R, 5, 3
    (text_row (first_line1 ++ ((87 ∷ 9 ∷ 49 ∷ 10 ∷ []) ++ (87 ∷ 9 ∷ 49 ∷ 10 ∷ []))) (82 ∷ 9 ∷ 53 ∷ 9 ∷ 51 ∷ 10 ∷ []) ∷
    -- R-3 "`W` lines may carry several": the text above, and W, 1, 2; all go first, so there is no bid more: P, 1, 0, 0; P, 2, 0, 0; T, 0, 0, 3; E, 0
    (text_row (text1 ++ (87 ∷ 9 ∷ 49 ∷ 9 ∷ 50 ∷ 10 ∷ [])) printed_bare ∷
    -- "an empty list .. is badly formed as a line": W alone: R, 14, 2
    (text_row (first_line1 ++ (87 ∷ 10 ∷ [])) (82 ∷ 9 ∷ 49 ∷ 52 ∷ 9 ∷ 50 ∷ 10 ∷ []) ∷
    -- "a last line without byte 10 is 14": W, 1 without it: R, 14, 2
    (text_row (first_line1 ++ (87 ∷ 9 ∷ 49 ∷ [])) (82 ∷ 9 ∷ 49 ∷ 52 ∷ 9 ∷ 50 ∷ 10 ∷ []) ∷
    -- "A line's form (14) is tested before its meaning": A, 3 has a kettle that is unknown, and no worth: R, 14, 2
    (text_row (first_line1 ++ (65 ∷ 9 ∷ 51 ∷ 10 ∷ [])) (82 ∷ 9 ∷ 49 ∷ 52 ∷ 9 ∷ 50 ∷ 10 ∷ []) ∷
    -- 10 "Opening with 5/5: 2": K, 2, 5, 5: R, 2, 1
    (text_row (75 ∷ 9 ∷ 50 ∷ 9 ∷ 53 ∷ 9 ∷ 53 ∷ 10 ∷ []) (82 ∷ 9 ∷ 50 ∷ 9 ∷ 49 ∷ 10 ∷ []) ∷
    -- R-6 a double kettle: what it prints, with its least price in `Y` and every place's price in `T`
    (text_row text_double printed_double ∷
    -- "A `P` line's kettle can meet 4, then 7, before 16": P, 3, 9: R, 4, 2; P, 1, 2; P, 1, 9: R, 7, 3; P, 1, 9: R, 16, 2
    (text_row (first_line1 ++ (80 ∷ 9 ∷ 51 ∷ 9 ∷ 57 ∷ 10 ∷ [])) (82 ∷ 9 ∷ 52 ∷ 9 ∷ 50 ∷ 10 ∷ []) ∷
    (text_row (first_line1 ++ ((80 ∷ 9 ∷ 49 ∷ 9 ∷ 50 ∷ 10 ∷ []) ++ (80 ∷ 9 ∷ 49 ∷ 9 ∷ 57 ∷ 10 ∷ []))) (82 ∷ 9 ∷ 55 ∷ 9 ∷ 51 ∷ 10 ∷ []) ∷
    (text_row (first_line1 ++ (80 ∷ 9 ∷ 49 ∷ 9 ∷ 57 ∷ 10 ∷ [])) (82 ∷ 9 ∷ 49 ∷ 54 ∷ 9 ∷ 50 ∷ 10 ∷ []) ∷
    -- "over 64 in all at place 0 (line 1 of a text ..)": K, 64, 1, 2; P, 1, 2: R, 16, 1
    (text_row ((75 ∷ 9 ∷ 54 ∷ 52 ∷ 9 ∷ 49 ∷ 9 ∷ 50 ∷ 10 ∷ []) ++ (80 ∷ 9 ∷ 49 ∷ 9 ∷ 50 ∷ 10 ∷ [])) (82 ∷ 9 ∷ 49 ∷ 54 ∷ 9 ∷ 49 ∷ 10 ∷ []) ∷
    -- a later `P` is not of the form: A; P, 1, 2: R, 14, 3
    (text_row (first_line1 ++ ((65 ∷ 10 ∷ []) ++ (80 ∷ 9 ∷ 49 ∷ 9 ∷ 50 ∷ 10 ∷ []))) (82 ∷ 9 ∷ 49 ∷ 52 ∷ 9 ∷ 51 ∷ 10 ∷ []) ∷
    -- "an empty text is 14 at line 1"
    (text_row [] (82 ∷ 9 ∷ 49 ∷ 52 ∷ 9 ∷ 49 ∷ 10 ∷ []) ∷ []))))))))))))))))

-- Each text prints what the table has
abbrev pub Texts : Type 0
Texts = map (λ (r : TextRow). sheet_of r.text) texts ≡ map (λ (r : TextRow). r.printed) texts

-- The starred cases: the table of calls, the table of texts, and the choices among ties
pub record Starred : Type 0 where
  pub calls : Cases
  pub texts : Texts
  pub ties : Ties
