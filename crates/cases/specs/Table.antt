-- The table of the starred cases: each case as document 01 gives it, and what is seen; with the worked example of document 02's R-1, lists withdrawn as
-- its R-3 has them, and a double kettle as in its R-6. The figures are those of the bid of its R-7, worked out afresh; document 01's are quoted where they
-- still stand.
use Rattle.std.specs.Prelude.{◌≡◌, List, [], ◌∷◌, map, ℕ}
use Rattle.board.specs.Cells.{edge}
use Rattle.board.specs.Lent.{Lists, lists}
use Rattle.cases.specs.Play.{Call, arrive, withdraw, check, Case, on_places, on, Seen, board, totals, refused, play}

-- 1 "The text above"
abbrev pub case1 : List Call
case1 = arrive (edge 1 100 ∷ (edge 2 60 ∷ [])) ∷ (arrive (edge 1 90 ∷ []) ∷ [])

-- The same, and a check at 0/1
abbrev pub after1 : Lists → List Call
after1 l = arrive (edge 1 100 ∷ (edge 2 60 ∷ [])) ∷ (arrive (edge 1 90 ∷ []) ∷ (check l 0 1 ∷ []))

-- The worked example of R-1, as a history
abbrev pub tied : List Call
tied = arrive (edge 2 100 ∷ []) ∷ (arrive (edge 1 50 ∷ (edge 2 60 ∷ [])) ∷ [])

-- The same tie of R-1, which the bids of R-7 come to where batch 1 has two kettles alike
abbrev pub tied_again : List Call
tied_again = arrive (edge 2 100 ∷ (edge 3 100 ∷ [])) ∷ (arrive (edge 1 50 ∷ (edge 2 60 ∷ [])) ∷ [])

-- Two batches on kettles 2 and 1, with a kettle 3 that is worth 100 to batch 1 and w to batch 2, and a steam line that feeds kettles 1 and 2 fails (R-3)
abbrev pub rivals : ℕ → List Call
rivals w = arrive (edge 2 300 ∷ (edge 3 100 ∷ [])) ∷ (arrive (edge 1 301 ∷ (edge 3 w ∷ [])) ∷ (withdraw (1 ∷ (2 ∷ [])) ∷ []))

-- A double kettle at slack 1/2, worth 100, 90 and 80 to three batches (R-6)
abbrev pub double : List Call → List Call
double rest = arrive (edge 1 100 ∷ []) ∷ (arrive (edge 1 90 ∷ []) ∷ (arrive (edge 1 80 ∷ []) ∷ rest))

pub record Row : Type 0 where
  pub case : Case
  pub seen : Seen

abbrev pub row : Case → Seen → Row
row c s = record { case = c; seen = s }

unfoldable pub table : List Row
table =
    -- 1: batch 1 bids for kettle 1 at utilities 1000 and 600: gain 600, price 400 + 100. Batch 2 finds 900 - 500 and nothing else: gain 0, price 500 + 400 + 90.
    -- Batch 1 finds only kettle 2: gain 0, price 600 + 60. Worth 150, sum 1650, greatest worth 150, three bids in all
    row (on 2 1 10 case1) (board (2 ∷ (1 ∷ [])) (0 ∷ (0 ∷ [])) (990 ∷ (660 ∷ [])) 150 1650 150 (2 ∷ (1 ∷ []))) ∷
    -- 2 "Then kettle 1 withdrawn: batch 2 unplaced, worth 60, sum 660, no bid"
    (row (on 2 1 10 (arrive (edge 1 100 ∷ (edge 2 60 ∷ [])) ∷ (arrive (edge 1 90 ∷ []) ∷ (withdraw (1 ∷ []) ∷ []))))
    (board (2 ∷ (0 ∷ [])) (0 ∷ (0 ∷ [])) (0 ∷ (660 ∷ [])) 60 660 60 (0 ∷ (2 ∷ (1 ∷ [])))) ∷
    -- 3 "One kettle, 9/10; batches worth 100, then 500: the second stays out; sum 1900, greatest worth 500"
    (row (on 1 9 10 (arrive (edge 1 100 ∷ []) ∷ (arrive (edge 1 500 ∷ []) ∷ [])))
    (board (1 ∷ (0 ∷ [])) (0 ∷ (0 ∷ [])) (1900 ∷ []) 100 1900 500 (0 ∷ (1 ∷ []))) ∷
    -- 4 "At slack 1/2, one kettle, worths 100 and 100": the price is 300 now, so the second stays out with room to spare; "sum 300"
    (row (on 1 1 2 (arrive (edge 1 100 ∷ []) ∷ (arrive (edge 1 100 ∷ []) ∷ [])))
    (board (1 ∷ (0 ∷ [])) (0 ∷ (0 ∷ [])) (300 ∷ []) 100 300 100 (0 ∷ (1 ∷ []))) ∷
    -- "equality is not open": a batch worth 300 there finds 600 - 300, just p × w, and stays out; one worth 301 takes the kettle
    (row (on 1 1 2 (arrive (edge 1 100 ∷ []) ∷ (arrive (edge 1 300 ∷ []) ∷ [])))
    (board (1 ∷ (0 ∷ [])) (0 ∷ (0 ∷ [])) (300 ∷ []) 100 300 300 (0 ∷ (1 ∷ []))) ∷
    (row (on 1 1 2 (arrive (edge 1 100 ∷ []) ∷ (arrive (edge 1 301 ∷ []) ∷ [])))
    (board (0 ∷ (1 ∷ [])) (0 ∷ (0 ∷ [])) (903 ∷ []) 301 903 301 (1 ∷ (1 ∷ []))) ∷
    -- 5 "Entries 50 and 50 on kettles 1 and 2: kettle 1"; two equal best, so the lead is 0
    (row (on 2 1 2 (arrive (edge 1 50 ∷ (edge 2 50 ∷ [])) ∷ [])) (board (1 ∷ []) (100 ∷ []) (50 ∷ (0 ∷ [])) 50 150 50 (1 ∷ [])) ∷
    -- Document 02, R-1, whose history was A 2 100, A 1 50 2 60: batch 1, alone at kettle 2, has now brought it to 1100, and batch 2 takes kettle 1 at once
    (row (on 2 1 10 tied) (board (2 ∷ (1 ∷ [])) (0 ∷ (0 ∷ [])) (550 ∷ (1100 ∷ [])) 150 1650 150 (1 ∷ (1 ∷ []))) ∷
    -- R-1: "at 1/10 with kettle 1 priced 0 and worth 50, and kettle 2 priced 100 and worth 60, kettle 2 is now taken": batch 1 has two kettles alike and brings
    -- kettle 2 to 100, batch 2 takes it at equal utilities of 500, and batch 1 goes to kettle 3, its lead 1000 - 840
    (row (on 3 1 10 tied_again) (board (3 ∷ (2 ∷ [])) (840 ∷ (500 ∷ [])) (0 ∷ (160 ∷ (260 ∷ []))) 160 1760 160 (2 ∷ (1 ∷ []))) ∷
    -- At slack 1/2 kettle 2, priced 100, has an equal utility of 100 and the larger worth, but "equality is not open": batch 2 takes kettle 1, and kettle 2 is
    -- no second either: gain 0, price 100 + 50
    (row (on 3 1 2 (arrive (edge 2 100 ∷ (edge 3 100 ∷ [])) ∷ (arrive (edge 1 50 ∷ (edge 2 100 ∷ [])) ∷ [])))
    (board (2 ∷ (1 ∷ [])) (200 ∷ (0 ∷ [])) (150 ∷ (100 ∷ (0 ∷ []))) 150 450 200 (1 ∷ (1 ∷ []))) ∷
    -- 6 "Empty arrival: accepted, no bids"
    (row (on 2 1 2 (arrive [] ∷ [])) (board (0 ∷ []) (0 ∷ []) (0 ∷ (0 ∷ [])) 0 0 0 (0 ∷ [])) ∷
    -- 7 "After case 1, check at 0/1 with the printed plan, prices 40, 0, gains 60, 50: totals 150 and 150"
    (row (on 2 1 10 (after1 (lists (2 ∷ (1 ∷ [])) (40 ∷ (0 ∷ [])) (60 ∷ (50 ∷ []))))) (totals 150 150) ∷
    -- 8 "Price 39 for 40: 12 at batch 1"
    (row (on 2 1 10 (after1 (lists (2 ∷ (1 ∷ [])) (39 ∷ (0 ∷ [])) (60 ∷ (50 ∷ []))))) (refused 12 1) ∷
    -- R-7 "Refusal 11's limit of 1,000,000,000 becomes 2,000,000,000": that itself is taken; Refused has one more
    (row (on 2 1 10 (after1 (lists (2 ∷ (1 ∷ [])) (2000000000 ∷ (0 ∷ [])) (60 ∷ (50 ∷ []))))) (totals 150 2000000110) ∷
    -- 10 "Opening with 5/5: 2"
    (row (on 1 5 5 []) (refused 2 0) ∷
    -- 14 "Kettle withdrawn twice: 5", and document 02, R-3: "their place counts kettles in the list, also in a list of one"
    (row (on 2 1 10 (withdraw (1 ∷ []) ∷ (withdraw (1 ∷ []) ∷ []))) (refused 5 1) ∷
    -- R-3 "All go first; then the displaced batches bid in number order": batch 1 is on kettle 2, batch 2 on kettle 1, and both go. At slack 1/2 whoever
    -- bids first has kettle 3: batch 1, though its kettle stands later in the list
    (row (on 3 1 2 (rivals 100)) (board (3 ∷ (0 ∷ [])) (0 ∷ (0 ∷ [])) (0 ∷ (0 ∷ (300 ∷ []))) 100 300 100 (1 ∷ (1 ∷ (1 ∷ [])))) ∷
    -- "each chain run to its end": where kettle 3 is worth 301 to batch 2, that displaces batch 1, which bids again and stays out
    (row (on 3 1 2 (rivals 301)) (board (0 ∷ (3 ∷ [])) (0 ∷ (0 ∷ [])) (0 ∷ (0 ∷ (903 ∷ []))) 301 903 301 (2 ∷ (1 ∷ (1 ∷ [])))) ∷
    -- "an empty list changes nothing in a call": case 1, and an empty list
    (row (on 2 1 10 (arrive (edge 1 100 ∷ (edge 2 60 ∷ [])) ∷ (arrive (edge 1 90 ∷ []) ∷ (withdraw [] ∷ []))))
    (board (2 ∷ (1 ∷ [])) (0 ∷ (0 ∷ [])) (990 ∷ (660 ∷ [])) 150 1650 150 (0 ∷ (2 ∷ (1 ∷ [])))) ∷
    -- R-6 "each place has its own price; a batch compares places": to batch 1 the second is the other place of the kettle, so its gain is 200, its lead 0 and the
    -- price 100. Batch 2 finds only the other place open, 180: gain 0, price 180 + 90. To batch 3 neither is open. "Read-out gives a kettle's least price", 100;
    -- the sum counts every place's price: 100 + 270 + 200 is 3 × 190
    (row (on_places 1 1 2 (2 ∷ []) (double [])) (board (1 ∷ (1 ∷ (0 ∷ []))) (200 ∷ (0 ∷ (0 ∷ []))) (100 ∷ []) 190 570 190 (0 ∷ (1 ∷ (1 ∷ [])))) ∷
    -- "the check and exact level count a kettle's price once per place": what is read out is accepted at 1/2, and totals 2 × 100 + 200, "less than q + p times the worth"
    (row (on_places 1 1 2 (2 ∷ []) (double (check (lists (1 ∷ (1 ∷ (0 ∷ []))) (100 ∷ []) (200 ∷ (0 ∷ (0 ∷ [])))) 1 2 ∷ []))) (totals 190 400) ∷
    -- A third batch on a double kettle: 10 at batch 3
    (row (on_places 1 1 2 (2 ∷ []) (double (check (lists (1 ∷ (1 ∷ (1 ∷ []))) (100 ∷ []) (200 ∷ (0 ∷ (0 ∷ [])))) 1 2 ∷ []))) (refused 10 3) ∷
    -- "A withdrawal removes all places, with displaced batches in R-3's order"
    (row (on_places 2 1 2 (2 ∷ (1 ∷ [])) (arrive (edge 1 100 ∷ (edge 2 60 ∷ [])) ∷ (arrive (edge 1 100 ∷ (edge 2 60 ∷ [])) ∷ (withdraw (1 ∷ []) ∷ []))))
    (board (2 ∷ (0 ∷ [])) (0 ∷ (0 ∷ [])) (0 ∷ (180 ∷ [])) 60 180 60 (1 ∷ (1 ∷ (1 ∷ [])))) ∷
    -- 15 "At slack 1/2, two kettles; batch 1 has 60 on kettle 1, batch 2 has 61 on kettle 1 and 30 on kettle 2, batch 3 has 121 on kettle 1": batch 1 brings
    -- kettle 1 to 180, batch 2 takes kettle 2, batch 3 stays out: two bids, sum 270, "greatest worth 151"
    (row (on 2 1 2 (arrive (edge 1 60 ∷ []) ∷ (arrive (edge 1 61 ∷ (edge 2 30 ∷ [])) ∷ (arrive (edge 1 121 ∷ []) ∷ []))))
    (board (1 ∷ (2 ∷ (0 ∷ []))) (0 ∷ (0 ∷ (0 ∷ []))) (180 ∷ (90 ∷ [])) 90 270 151 (0 ∷ (1 ∷ (1 ∷ [])))) ∷ [])))))))))))))))))))))))

-- Each case is seen as the table has it
abbrev pub Cases : Type 0
Cases = map (λ r. play r.case) table ≡ map (λ r. r.seen) table
