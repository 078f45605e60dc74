-- Two plans side by side (document 02, R-4), worked out in numbers. The order is 1 for earlier, 2 for same, 3 for later.
use Rattle.std.specs.Prelude.{Ok, Err, ◌≡◌, List, [], ◌∷◌, ◌++◌, map, ℕ, ◌*◌, ℤ, pos, negsuc, replicate}
use Rattle.supply.specs.declared.record.Board.{Board}
use Rattle.board.specs.Limits.{max_items, max_bidders}
use Rattle.board.specs.Cells.{edge, scaled}
use Rattle.refusals.specs.declared.Refusal.{Refusal}
use Rattle.std.specs.declared.cmp.Ordering.TheVariants.{Less, Equal, Greater}
use Rattle.comparison.specs.declared.Comparison.{Comparison}
use Rattle.comparison.specs.Compare.{compare_of, compared_told}
use Rattle.cases.specs.FullBoard.{count, full}
use Rattle.cases.specs.Play.{Call, arrive, withdraw, compare, on, sides, refused, play}
use Rattle.cases.specs.Table.{Row, row}

-- ---- On a small board: batches 1 and 2 are worth 5 on kettles 1 and 2, batch 3 is worth 7 on kettle 3

abbrev pub with3 : List Call → List Call
with3 rest = arrive (edge 1 5 ∷ (edge 2 5 ∷ [])) ∷ (arrive (edge 1 5 ∷ (edge 2 5 ∷ [])) ∷ (arrive (edge 3 7 ∷ []) ∷ rest))

abbrev pub beside : List ℕ → List ℕ → List Call
beside first second = with3 (compare first second ∷ [])

unfoldable pub side_rows : List Row
side_rows =
    -- Equal worths: "the first smaller cell making the earlier plan", either way round; and the same cells
    row (on 3 1 10 (beside (1 ∷ (2 ∷ (3 ∷ []))) (2 ∷ (1 ∷ (3 ∷ []))))) (sides (pos 0) 1) ∷
    (row (on 3 1 10 (beside (2 ∷ (1 ∷ (3 ∷ []))) (1 ∷ (2 ∷ (3 ∷ []))))) (sides (pos 0) 3) ∷
    (row (on 3 1 10 (beside (2 ∷ (1 ∷ (3 ∷ []))) (2 ∷ (1 ∷ (3 ∷ []))))) (sides (pos 0) 2) ∷
    -- A cell of 0 is smaller than any kettle's number; the first cells that differ decide, whatever follows
    (row (on 3 1 10 (beside (0 ∷ (2 ∷ (0 ∷ []))) (1 ∷ (0 ∷ (0 ∷ []))))) (sides (pos 0) 1) ∷
    (row (on 3 1 10 (beside (0 ∷ (2 ∷ (0 ∷ []))) (0 ∷ (1 ∷ (0 ∷ []))))) (sides (pos 0) 3) ∷
    -- "the greater worth first", whatever the cells; "negative where the first is worth less"
    (row (on 3 1 10 (beside (0 ∷ (0 ∷ (3 ∷ []))) (1 ∷ (2 ∷ (0 ∷ []))))) (sides (negsuc 2) 3) ∷
    (row (on 3 1 10 (beside (1 ∷ (2 ∷ (0 ∷ []))) (0 ∷ (0 ∷ (3 ∷ []))))) (sides (pos 3) 1) ∷
    -- 9 for the first plan, though both have bad cells
    (row (on 3 1 10 (beside (4 ∷ (4 ∷ [])) (4 ∷ (4 ∷ (4 ∷ []))))) (refused 9 0) ∷
    -- 10 for the first plan, at its batch, before 9 for the second, and before 10 for the second at a lower place
    (row (on 3 1 10 (beside (1 ∷ (1 ∷ (3 ∷ []))) [])) (refused 10 2) ∷
    (row (on 3 1 10 (beside (0 ∷ (0 ∷ (1 ∷ []))) (4 ∷ (0 ∷ (0 ∷ []))))) (refused 10 3) ∷
    -- 9 and 10 for the second
    (row (on 3 1 10 (beside (1 ∷ (2 ∷ (3 ∷ []))) (4 ∷ (2 ∷ (3 ∷ (0 ∷ [])))))) (refused 9 0) ∷
    (row (on 3 1 10 (beside (1 ∷ (2 ∷ (3 ∷ []))) (4 ∷ (4 ∷ (0 ∷ []))))) (refused 10 1) ∷
    -- A withdrawn kettle is not on the live sheet
    (row (on 3 1 10 (with3 (withdraw (3 ∷ []) ∷ (compare (1 ∷ (2 ∷ (0 ∷ []))) (1 ∷ (2 ∷ (3 ∷ []))) ∷ [])))) (refused 10 3) ∷ []))))))))))))

-- ---- "exact at zero and both ends": the greatest weight that a board can hold

-- As the full board, but every edge weighs 1,000,000
unfoldable pub heavy : Board
heavy =
    record {
      items = record { count = max_items; places = replicate max_items 1 };
      market = record { items = max_items; slack = record { p = 1; q = 2 }; arrived = max_bidders; withdrawn = replicate max_items 0 };
      state = record { price = replicate max_items (scaled 3000000); holder = count 1 max_items; gain = replicate max_bidders (scaled 0) };
      weights = replicate (max_bidders * max_items) 1000000;
    }

-- Batch i on kettle i, the other batches on none; and nobody anywhere
unfoldable pub every_item : List ℕ
every_item = count 1 max_items ++ replicate max_items 0

unfoldable pub no_item : List ℕ
no_item = replicate max_bidders 0

abbrev pub told_as : ℕ → ℕ → ℤ → ℕ → Comparison
told_as number place difference order = record { number = number; place = place; difference = difference; order = order }

pub record Sides : Type 0 where
  pub rows : map (λ r. play r.case) side_rows ≡ map (λ r. r.seen) side_rows
  pub high : compared_told (compare_of heavy every_item no_item) ≡ told_as 0 0 (pos 64000000) 1
  pub low : compared_told (compare_of heavy no_item every_item) ≡ told_as 0 0 (negsuc 63999999) 3
  pub zero : compared_told (compare_of heavy every_item every_item) ≡ told_as 0 0 (pos 0) 2
  -- 13 before all else
  pub spoilt : (first second : List ℕ) → compared_told (compare_of (full 4) first second) ≡ told_as 13 0 (pos 0) 0
  -- Answers: number, place, difference and order
  pub earlier : compared_told (Ok (pos 7, Less)) ≡ told_as 0 0 (pos 7) 1
  pub same : compared_told (Ok (pos 0, Equal)) ≡ told_as 0 0 (pos 0) 2
  pub later : compared_told (Ok (negsuc 6, Greater)) ≡ told_as 0 0 (negsuc 6) 3
  pub refusal : compared_told (Err (Refusal.Clash 2)) ≡ told_as 10 2 (pos 0) 0
