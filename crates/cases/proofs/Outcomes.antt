-- What calls answer on a board that is spoilt or too large, and what is left to decide on a sound one.
use Rattle.std.specs.Prelude.{Err}
use mathlib.Core.Path.{◌≡◌, sym, ap, ◌∙◌}
use mathlib.Core.Bool.{Bool, true, false}
use mathlib.Core.List.{List, [], ◌∷◌}
use Prim.Native.Nat.{ℕ}
use Rattle.refusals.specs.declared.Refusal.{Refusal}
use Rattle.refusals.specs.declared.Refusal.TheVariants.{Spoilt, Large}
use Rattle.refusals.specs.Demand1.{Check, check_for, first_of}
use Rattle.board.specs.Lent.{Lists}
use Rattle.supply.specs.declared.record.Board.{Board}
use Rattle.supply.specs.Board.{all_places}
use Rattle.supply.specs.SoundTest.{sound_test}
use Rattle.supply.proofs.SoundLaw.{sound-decides}
use Rattle.certificate.specs.Check.{check_by, check_of, check_rest}
use Rattle.comparison.specs.Compare.{compare_by, compare_of}
use Rattle.comparison.proofs.Outcomes.{plans_on}
use Rattle.counting.specs.Call.{large_test, count_by, count_of}

pub check-spoilt : (b : Board) (l : Lists) (p q : ℕ) → sound_test b ≡ false → Err Spoilt ≡ check_of b l p q
unfolding check_of check_by check_rest first_of
check-spoilt b l p q e = rw e

module _ (b : Board) (first second : List ℕ) where
  pub compare-spoilt : sound_test b ≡ false → Err Spoilt ≡ compare_of b first second
  unfolding compare_of compare_by first_of
  compare-spoilt e = rw e

  pub compare-plans : sound_test b ≡ true → compare_by b first second (first_of (plans_on b first second)) ≡ compare_of b first second
  unfolding compare_of first_of
  compare-plans e = rw e

last-refused : (r : Refusal) (t : Bool) → t ≡ true → first_of (check_for r t ∷ []) ≡ Err r
unfolding first_of
last-refused r t e = rw e

-- Of a count's checks the one after the test
abbrev pub large_check : Board → List Check
large_check b = check_for Large (large_test b.market.arrived (all_places b.items)) ∷ []

module _ (b : Board) where
  pub count-spoilt : sound_test b ≡ false → Err Spoilt ≡ count_of b
  unfolding count_of count_by first_of
  count-spoilt e = rw e

  -- A sound board: 17 alone decides
  pub count-sound : sound_test b ≡ true → count_by b (first_of (large_check b)) ≡ count_of b
  unfolding count_of first_of
  count-sound e = rw e

  pub count-large : sound_test b ≡ true → large_test b.market.arrived b.market.items ≡ true → Err Large ≡ count_of b
  unfolding count_by
  count-large s e =
      let large : large_test b.market.arrived (all_places b.items) ≡ true = rw ((sound-decides b).sound s).laid.all at e in
      sym (ap (count_by b) (last-refused Large (large_test b.market.arrived (all_places b.items)) large)) ∙ count-sound s
