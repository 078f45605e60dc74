-- The withdrawal of one item as it was before lists of them ("Withdraw 13, 4, 5", all at place 0), and what lists of one and of none come to. Nothing is
-- computed by the old one any more.
use Rattle.std.specs.Prelude.{◌≡◌, not, List, [], ◌∷◌, ℕ, ◌-◌, Err, Ok}
use Rattle.supply.specs.declared.record.Board.{Board}
use Rattle.refusals.specs.declared.Refusal.TheVariants.{Unknown, Gone, Spoilt}
use Rattle.auction.specs.Withdraw.{Withdrawal, withdrawal, withdrawal_of, withdraw_of, withdrawn_told}
use Rattle.supply.specs.ByItem.{withdrawn_at}
use Rattle.board.specs.Ranges.{Within, within_test}
use Rattle.supply.specs.Board.{auction_of, places_at, start_in}
use Rattle.supply.specs.Sound.{Sound}
use Rattle.supply.specs.SoundTest.{sound_test}
use Rattle.refusals.specs.Demand1.{Check, check_for, first_of, Verdict}
use Rattle.bidding.specs.Rule.{Outcome, done}
use Rattle.bidding.specs.Moves.{withdrawn_one_of}

unfoldable pub withdraw_one_checks : Board → ℕ → List Check
withdraw_one_checks b item =
    check_for Spoilt (not (sound_test b)) ∷
    (check_for (Unknown 0) (not (within_test b.items.count item)) ∷ (check_for (Gone 0) (withdrawn_at b (item - 1)) ∷ []))

unfoldable pub withdraw_one_by : Board → ℕ → Verdict → Outcome Withdrawal
withdraw_one_by b item (Ok tt) = withdrawal_of b.items (withdrawn_one_of (auction_of b) (start_in b.items (item - 1)))
withdraw_one_by b item (Err r) = done (withdrawal b (Err r))

abbrev pub withdraw_one_of : Board → ℕ → Outcome Withdrawal
withdraw_one_of b item = withdraw_one_by b item (first_of (withdraw_one_checks b item))

-- The same board and the same answer but for its place
pub record SameButPlace (r s : Withdrawal) : Type 0 where
  pub board : r.board ≡ s.board
  pub number : (withdrawn_told r.answer).number ≡ (withdrawn_told s.answer).number
  pub value : (withdrawn_told r.answer).value ≡ (withdrawn_told s.answer).value

-- "A list of one acts as before": on every board, sound or not, and every item that has one place, as all had before
abbrev pub OneAsBefore : Type 0
OneAsBefore =
    (b : Board) (item : ℕ) → (Within 1 b.items.count item → places_at b (item - 1) ≡ 1) →
    (r : Withdrawal) × (s : Withdrawal) × (withdraw_of b (item ∷ []) ≡ done r) × (withdraw_one_of b item ≡ done s) × SameButPlace r s

-- "an empty list changes nothing in a call": it is served with no bid
abbrev pub NoneChanged : Type 0
NoneChanged = (b : Board) → Sound b → withdraw_of b [] ≡ done (withdrawal b (Ok 0))
