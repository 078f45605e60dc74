-- The call of the slow count (document 02, R-9): its whole outcome, on all inputs. The board is only read, and no list is lent.
use Rattle.std.specs.Prelude.{Bool, not, ◌||◌, List, [], ◌∷◌, ℕ, ◌<◌, ltb, Result, Err, Ok}
use Rattle.refusals.specs.declared.Refusal.{Refusal}
use Rattle.refusals.specs.declared.Refusal.TheVariants.{Spoilt, Large}
use Rattle.refusals.specs.declared.Told.{Told}
use Rattle.refusals.specs.Told.{served, refused}
use Rattle.refusals.specs.Demand1.{Check, check_for, first_of, Verdict}
use Rattle.board.specs.declared.units.Pence.{Pence}
use Rattle.board.specs.Cells.{pence}
use Rattle.supply.specs.declared.record.Board.{Board}
use Rattle.supply.specs.Board.{places_at, all_places}
use Rattle.supply.specs.ByItem.{live}
use Rattle.supply.specs.Sound.{Sound}
use Rattle.supply.specs.SoundTest.{sound_test}
use Rattle.counting.specs.Count.{count_with}
use Rattle.counting.specs.Limits.{max_counted}

-- "Answers: 17 "large", over 6 of either, withdrawn kettles' places counted, after 13": the rows of the table that can be met
pub data CountMet (b : Board) : Refusal → Type 0 where
  spoilt : (Sound b → ⊥) → CountMet b Spoilt
  -- Over 6 batches have arrived
  many-bidders : max_counted < b.market.arrived → CountMet b Large
  -- There are over 6 places: those of all items, withdrawn or not
  many-places : max_counted < all_places b.items → CountMet b Large

-- "over 6 of either": of so many bidders and places
unfoldable pub large_test : ℕ → ℕ → Bool
large_test bidders places = ltb max_counted bidders || ltb max_counted places

abbrev pub counting_checks : Board → List Check
counting_checks b = check_for Spoilt (not (sound_test b)) ∷ (check_for Large (large_test b.market.arrived (all_places b.items)) ∷ [])

-- The count on a board's live edges, every place free at first
abbrev pub count_on : Board → ℕ
count_on b = count_with b.market.arrived b.items.count (places_at b) (live b)

-- The greatest weight of a plan on the live edges, or the refusal
abbrev pub Counted : Type 0
Counted = Result Pence Refusal

unfoldable pub count_by : Board → Verdict → Counted
count_by b (Ok tt) = Ok (pence (count_on b))
count_by b (Err r) = Err r

-- The answer, on all inputs
unfoldable pub count_of : Board → Counted
count_of b = count_by b (first_of (counting_checks b))

-- What is told: "It returns the greatest worth"
abbrev pub counted_told : Counted → Told
counted_told (Ok w) = served w.0
counted_told (Err r) = refused r
