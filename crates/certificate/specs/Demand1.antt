-- Demand 1 of the check, told in numbers.
use Rattle.std.specs.Prelude.{◌≡◌, ◌∷◌, ◌++◌, ℕ, ◌+◌}
use Rattle.duality.specs.Matching.{weight_of}
use Rattle.places.specs.Total.{total_with}
use Rattle.duality.specs.Lists.{cells}
use Rattle.supply.specs.declared.record.Board.{Board}
use Rattle.supply.specs.Board.{places_at}
use Rattle.supply.specs.ByItem.{live}
use Rattle.refusals.specs.Codes.{code}
use Rattle.refusals.specs.Told.{refused}
use Rattle.refusals.specs.Demand1.{codes_of, Demand1}
use Rattle.refusals.specs.Each.{places_of}
use Rattle.board.specs.Lent.{Lists}
use Rattle.certificate.specs.Check.{CheckMet, check_checks, check_of, totals, without_totals, checked_told}

-- Served, "It answers the plan's worth and the sum of prices and gains"
abbrev pub CheckDemand1 : Type 0
CheckDemand1 =
    (b : Board) (l : Lists) (p q : ℕ) →
    Demand1 (CheckMet b l p q) (check_checks b l p q)
    (λ r. checked_told (check_of b l p q) ≡ without_totals (refused r))
    (checked_told (check_of b l p q) ≡
    totals (weight_of b.market.arrived (live b) (cells l.plan)) (total_with b.market.arrived b.items.count (places_at b) (cells l.prices) (cells l.gains)))

-- "Check 13, 2, 9, 10, 11, 12, lowest place first": 10 at each bidder, 11 at each item and then at "k + batch for a gain", 12 at each bidder
abbrev pub CheckOrder : Type 0
CheckOrder =
    (b : Board) (l : Lists) (p q : ℕ) →
    codes_of (check_checks b l p q) ≡
    code 13 0 ∷ code 2 0 ∷ code 9 0 ∷
    (places_of 10 1 b.market.arrived ++
    (places_of 11 1 b.items.count ++
    (places_of 11 (b.items.count + 1) b.market.arrived ++
    places_of 12 1 b.market.arrived)))
