-- Read out: "13, 8".
use Rattle.std.specs.Prelude.{◌≡◌, Err, Ok, Result}
use Rattle.supply.specs.declared.record.Board.{Board}
use Rattle.refusals.specs.declared.Refusal.{Refusal}
use Rattle.refusals.specs.declared.Told.{Told}
use Rattle.refusals.specs.Told.{served, refused}
use Rattle.supply.specs.ByItem.{gain_at, price_at, matching_of}
use Rattle.refusals.specs.Demand1.{first_of, Verdict}
use Rattle.supply.specs.Lent.{read_out_checks}
use Rattle.board.specs.Lent.{written, Lists, lists}

pub record ReadOutcome : Type 0 where
  pub answer : Result (Unit {0}) Refusal
  pub lists : Lists

abbrev pub outcome : Result (Unit {0}) Refusal → Lists → ReadOutcome
outcome a l = record { answer = a; lists = l }

unfoldable pub read_out_by : Board → Lists → Verdict → ReadOutcome
read_out_by b l (Ok tt) =
    outcome (Ok tt) (lists
    (written b.market.arrived (matching_of b) l.plan)
    (written b.items.count (price_at b) l.prices)
    (written b.market.arrived (gain_at b) l.gains))
read_out_by b l (Err r) = outcome (Err r) l

unfoldable pub read_out_of : Board → Lists → ReadOutcome
read_out_of b l = read_out_by b l (first_of (read_out_checks b l))

-- What is told: "read-out returns nothing but its lists"
abbrev pub read_out_told : Result (Unit {0}) Refusal → Told
read_out_told (Ok tt) = served 0
read_out_told (Err r) = refused r

-- A read-out leaves the lists after, and tells t
pub record ReadOutAnswers (b : Board) (before after : Lists) (t : Told) : Type 0 where
  pub lists : (read_out_of b before).lists ≡ after
  pub tells : read_out_told (read_out_of b before).answer ≡ t
