-- Demand 1 of the slow count, told in numbers; and which boards it takes.
use Rattle.std.specs.Prelude.{◌≡◌, [], ◌∷◌, ◌↔◌, ℕ, ◌≤◌}
use Rattle.refusals.specs.Codes.{code}
use Rattle.refusals.specs.Told.{served, refused}
use Rattle.refusals.specs.Demand1.{codes_of, Demand1}
use Rattle.supply.specs.declared.record.Board.{Board}
use Rattle.supply.specs.Board.{all_places}
use Rattle.supply.specs.Sound.{Sound}
use Rattle.counting.specs.Call.{CountMet, counting_checks, count_on, count_of, counted_told}

-- "If a call meets a condition in the table of refusals, it gives that number by the stated order of checks .. otherwise it is served". The board is
-- only read, so that the caller's is as it was
abbrev pub CountDemand1 : Type 0
CountDemand1 =
    (b : Board) →
    Demand1 (CountMet b) (counting_checks b)
    (λ r. counted_told (count_of b) ≡ refused r)
    (counted_told (count_of b) ≡ served (count_on b))

-- "17 "large", .. after 13. It and every later number without a stated place have place 0."
abbrev pub CountOrder : Type 0
CountOrder = (b : Board) → codes_of (counting_checks b) ≡ code 13 0 ∷ code 17 0 ∷ []

-- "For up to 6 batches and 6 places"
pub record Takes (b : Board) : Type 0 where
  pub sound : Sound b
  pub bidders : b.market.arrived ≤ 6
  pub places : all_places b.items ≤ 6

-- Just these it takes, and of each it tells the count
abbrev pub CountTakes : Type 0
CountTakes = (b : Board) (w : ℕ) → (counted_told (count_of b) ≡ served w) ↔ (Takes b × (w ≡ count_on b))
