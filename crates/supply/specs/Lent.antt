-- The three lists that a caller lends, for a matching, prices and gains by item.
use Rattle.std.specs.Prelude.{not, List, [], ◌∷◌, ℕ, ◌≤◌, length}
use Rattle.refusals.specs.declared.Refusal.{Refusal}
use Rattle.refusals.specs.declared.Refusal.TheVariants.{Short, Spoilt}
use Rattle.refusals.specs.Demand1.{Check, check_for}
use Rattle.board.specs.Lent.{Lists, room_test}
use Rattle.supply.specs.declared.record.Board.{Board}
use Rattle.supply.specs.Sound.{Sound}
use Rattle.supply.specs.SoundTest.{sound_test}

-- "a cell per batch, per kettle, per batch": there are so many
pub record Roomy (b : Board) (l : Lists) : Type 0 where
  pub plan : b.market.arrived ≤ length l.plan
  pub prices : b.items.count ≤ length l.prices
  pub gains : b.market.arrived ≤ length l.gains

-- "Read-out and exact 13, 8"
pub data ReadOutMet (b : Board) (l : Lists) : Refusal → Type 0 where
  spoilt : (Sound b → ⊥) → ReadOutMet b l Spoilt
  -- "a list to be written has too few cells"
  short : (Roomy b l → ⊥) → ReadOutMet b l Short

-- The checks, by the lengths of the lists
abbrev pub lent_checks : Board → ℕ → ℕ → ℕ → List Check
lent_checks b plan prices gains =
    check_for Spoilt (not (sound_test b)) ∷ (check_for Short (not (room_test b.market.arrived b.items.count plan prices gains)) ∷ [])

abbrev pub read_out_checks : Board → Lists → List Check
read_out_checks b l = lent_checks b (length l.plan) (length l.prices) (length l.gains)
