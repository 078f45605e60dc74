-- Withdraw a list of items (document 02, R-3): "13, then kettle by kettle 4, 5, 7, nothing withdrawn if any fails".
use Rattle.std.specs.Prelude.{◌≡◌, Result, Ok, Err, true, not, List, ◌∷◌, ℕ, suc, ◌-◌, ◌≤◌, ◌<◌, length}
use Rattle.duality.specs.Lists.{cells}
use Rattle.supply.specs.declared.record.Board.{Board}
use Rattle.refusals.specs.declared.Refusal.{Refusal}
use Rattle.refusals.specs.declared.Refusal.TheVariants.{Unknown, Gone, Order, Spoilt}
use Rattle.refusals.specs.declared.Told.{Told}
use Rattle.refusals.specs.Told.{served, refused}
use Rattle.supply.specs.ByItem.{withdrawn_at}
use Rattle.supply.specs.declared.record.Items.{Items}
use Rattle.supply.specs.Board.{auction_of, on_items}
use Rattle.supply.specs.Spread.{places_named}
use Rattle.supply.specs.Sound.{Sound}
use Rattle.supply.specs.SoundTest.{sound_test}
use Rattle.bidding.specs.Rule.{AfterChain, Outcome, done, spent}
use Rattle.board.specs.Ranges.{Within}
use Rattle.refusals.specs.Demand1.{Check, check_for, first_of, Verdict}
use Rattle.bidding.specs.Withdrawals.{withdrawn_of}
use Rattle.auction.specs.Items.{items_checks}

-- The rows of the table, of items that the list has: "their place counts kettles in the list, also in a list of one"
pub data WithdrawMet (b : Board) (items : List ℕ) : Refusal → Type 0 where
  -- "the board handed in is not sound"
  spoilt : (Sound b → ⊥) → WithdrawMet b items Spoilt
  -- "kettle not 1 to k"
  unknown : {i : ℕ} → i < length items → (Within 1 b.items.count (cells items i) → ⊥) → WithdrawMet b items (Unknown (suc i))
  -- "kettle withdrawn"; "5 is read from the board handed in"
  gone : {i : ℕ} → i < length items → withdrawn_at b (cells items i - 1) ≡ true → WithdrawMet b items (Gone (suc i))
  -- "strictly rising"; "a live kettle named twice is 7"
  order : {i : ℕ} → suc i < length items → cells items (suc i) ≤ cells items i → WithdrawMet b items (Order (suc (suc i)))

-- The checks after that of soundness, and all
unfoldable pub withdraw_rest : Board → List ℕ → List Check
withdraw_rest b items = items_checks b.items.count (withdrawn_at b) (cells items) 0 (length items)

abbrev pub withdraw_checks : Board → List ℕ → List Check
withdraw_checks b items = check_for Spoilt (not (sound_test b)) ∷ withdraw_rest b items

-- What a withdrawal leaves and answers: the board, and the number of bids or the refusal
pub record Withdrawal : Type 0 where
  pub board : Board
  pub answer : Result ℕ Refusal

abbrev pub withdrawal : Board → Result ℕ Refusal → Withdrawal
withdrawal b a = record { board = b; answer = a }

-- "A withdrawal removes all places": those of the items of a list
abbrev pub places_on : Items → List ℕ → List ℕ
places_on known items = places_named known (cells items) (length items)

-- What the auction over places comes to, on a board of these items
unfoldable pub withdrawal_of : Items → Outcome AfterChain → Outcome Withdrawal
withdrawal_of known spent = spent
withdrawal_of known (done s) = done (withdrawal (on_items known s.auction) (Ok s.bids))

unfoldable pub withdraw_by : Board → List ℕ → Verdict → Outcome Withdrawal
withdraw_by b items (Ok tt) =
    withdrawal_of b.items (withdrawn_of (auction_of b) (cells (places_on b.items items)) (length (places_on b.items items)))
withdraw_by b items (Err r) = done (withdrawal b (Err r))

unfoldable pub withdraw_of : Board → List ℕ → Outcome Withdrawal
withdraw_of b items = withdraw_by b items (first_of (withdraw_checks b items))

-- What is told: "Arrive and withdraw return the number of bids made"
abbrev pub withdrawn_told : Result ℕ Refusal → Told
withdrawn_told (Ok n) = served n
withdrawn_told (Err r) = refused r

-- A withdrawal leaves the board c, and tells t
pub record WithdrawAnswers (b : Board) (items : List ℕ) (c : Board) (t : Told) : Type 0 where
  pub answer : Result ℕ Refusal
  pub outcome : withdraw_of b items ≡ done (withdrawal c answer)
  pub tells : withdrawn_told answer ≡ t
