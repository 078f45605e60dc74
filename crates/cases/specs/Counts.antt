-- The slow count (document 02, R-9), worked out in numbers.
use Rattle.std.specs.Prelude.{Ok, Err, ◌≡◌, List, [], ◌∷◌, map}
use Rattle.refusals.specs.declared.Refusal.{Refusal}
use Rattle.refusals.specs.Told.{told}
use Rattle.board.specs.Cells.{edge, pence}
use Rattle.counting.specs.Call.{count_of, counted_told}
use Rattle.cases.specs.FullBoard.{full}
use Rattle.cases.specs.Play.{Call, arrive, withdraw, count_slow, on_places, on, counted, refused, play}
use Rattle.cases.specs.Table.{Row, row, double}

-- Batch 1 is worth 100 on kettle 1 and 99 on kettle 2, batch 2 is worth 98 on kettle 1
abbrev pub contested : List Call → List Call
contested rest = arrive (edge 1 100 ∷ (edge 2 99 ∷ [])) ∷ (arrive (edge 1 98 ∷ []) ∷ rest)

-- Four batches, of which the double kettle 1 and the single kettle 2 cook three
abbrev pub four : List Call → List Call
four rest =
    arrive (edge 1 100 ∷ (edge 2 90 ∷ [])) ∷ (arrive (edge 1 80 ∷ []) ∷ (arrive (edge 1 70 ∷ (edge 2 10 ∷ [])) ∷ (arrive (edge 1 60 ∷ []) ∷ rest)))

-- Six batches, worth 1 to 6 on kettle 1
abbrev pub six : List Call → List Call
six rest =
    arrive (edge 1 1 ∷ []) ∷
    (arrive (edge 1 2 ∷ []) ∷ (arrive (edge 1 3 ∷ []) ∷ (arrive (edge 1 4 ∷ []) ∷ (arrive (edge 1 5 ∷ []) ∷ (arrive (edge 1 6 ∷ []) ∷ rest)))))

abbrev pub counting : List Call
counting = count_slow ∷ []

unfoldable pub count_rows : List Row
count_rows =
    -- "every free kettle" is tried for the first batch: its better one would leave 100, the other 99 + 98
    row (on 2 1 10 (contested counting)) (counted 197) ∷
    -- "and none": batch 1 goes without
    (row (on 1 1 10 (arrive (edge 1 5 ∷ []) ∷ (arrive (edge 1 9 ∷ []) ∷ counting))) (counted 9) ∷
    -- A kettle is free once per place: two of three batches on a double kettle; batch 1 on kettle 2, and batches 2 and 3 on the double kettle 1
    (row (on_places 1 1 2 (2 ∷ []) (double counting)) (counted 190) ∷
    (row (on_places 2 1 10 (2 ∷ (1 ∷ [])) (four counting)) (counted 240) ∷
    -- A withdrawn kettle is not on the live sheet
    (row (on 2 1 10 (contested (withdraw (1 ∷ []) ∷ counting))) (counted 99) ∷
    (row (on 2 1 10 (contested (withdraw (1 ∷ (2 ∷ [])) ∷ counting))) (counted 0) ∷
    -- No batch; one that fits no kettle
    (row (on 2 1 10 counting) (counted 0) ∷
    (row (on 1 1 10 (arrive [] ∷ counting)) (counted 0) ∷
    -- "For up to 6 batches and 6 places": both at 6, and either at 7, a batch that fits no kettle too
    (row (on_places 1 1 10 (6 ∷ []) (six counting)) (counted 21) ∷
    (row (on 1 1 10 (six counting)) (counted 6) ∷
    (row (on 6 1 10 (arrive (edge 2 5 ∷ (edge 6 7 ∷ [])) ∷ counting)) (counted 7) ∷
    (row (on 1 1 10 (six (arrive [] ∷ counting))) (refused 17 0) ∷
    (row (on 7 1 10 counting) (refused 17 0) ∷
    (row (on_places 1 1 10 (7 ∷ []) counting) (refused 17 0) ∷
    (row (on_places 2 1 10 (3 ∷ (3 ∷ [])) counting) (counted 0) ∷
    (row (on_places 2 1 10 (3 ∷ (4 ∷ [])) counting) (refused 17 0) ∷
    -- "withdrawn kettles' places counted"
    (row (on_places 2 1 10 (6 ∷ (1 ∷ [])) (withdraw (1 ∷ []) ∷ counting)) (refused 17 0) ∷ []))))))))))))))))

pub record WorkedCounts : Type 0 where
  pub rows : map (λ r. play r.case) count_rows ≡ map (λ r. r.seen) count_rows
  -- 13 before 17: 128 batches and 64 places
  pub spoilt : counted_told (count_of (full 4)) ≡ told 13 0 0
  pub large : counted_told (count_of (full 3)) ≡ told 17 0 0
  -- Answers: number, place and value
  pub weight : counted_told (Ok (pence 7)) ≡ told 0 0 7
  pub refusal : counted_told (Err Refusal.Large) ≡ told 17 0 0
