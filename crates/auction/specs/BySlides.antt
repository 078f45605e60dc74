-- Calls and histories in which every bid is the four steps of the slides in turn (document 02, R-5): "at every bid of every call on a sound board".
use Rattle.std.specs.Prelude.{◌≡◌, ◌↔◌, List, ℕ, ◌+◌, length, Ok}
use Rattle.duality.specs.Lists.{cells}
use Rattle.supply.specs.declared.record.Board.{Board}
use Rattle.board.specs.declared.record.Edge.{Edge}
use Rattle.refusals.specs.Told.{served}
use Rattle.supply.specs.Opening.{opened, open_of}
use Rattle.supply.specs.Board.{auction_of}
use Rattle.supply.specs.Sound.{Sound}
use Rattle.bidding.specs.Rule.{done, after_chain}
use Rattle.bidding.specs.Slides.{arrived_by_slides, withdrawn_by_slides}
use Rattle.auction.specs.Arrive.{arrival, row_on, arrive_of, ArriveAnswers}
use Rattle.auction.specs.Withdraw.{withdrawal, places_on, withdraw_of, WithdrawAnswers}
use Rattle.auction.specs.Histories.{once_per_place, Reached}

-- What an accepted arrival leaves and tells: the board after the new bidder's chain of such bids, and their number
pub record ArrivesBySlides (b : Board) (edges : List Edge) (c : Board) (n : ℕ) : Type 0 where
  pub before : Sound b
  pub accepted : arrive_of b edges ≡ done (arrival c (Ok n))
  pub chain : arrived_by_slides (auction_of b) (row_on b.items edges) ≡ done (after_chain (auction_of c) n)

abbrev pub ArriveBySlides : Type 0
ArriveBySlides = (b c : Board) (edges : List Edge) (n : ℕ) → ArriveAnswers b edges c (served n) → ArrivesBySlides b edges c n

-- An accepted withdrawal: the board after the chains of those who held an item of the list
pub record WithdrawsBySlides (b : Board) (items : List ℕ) (c : Board) (n : ℕ) : Type 0 where
  pub before : Sound b
  pub accepted : withdraw_of b items ≡ done (withdrawal c (Ok n))
  pub chains : withdrawn_by_slides (auction_of b) (cells (places_on b.items items)) (length (places_on b.items items)) ≡ done (after_chain (auction_of c) n)

abbrev pub WithdrawBySlides : Type 0
WithdrawBySlides = (b c : Board) (items : List ℕ) (n : ℕ) → WithdrawAnswers b items c (served n) → WithdrawsBySlides b items c n

-- The boards that such calls reach from an opening, with the edges accepted and the bids made on the way. A refused call leaves the board, and adds none
pub data ReachedBySlides : Board → ℕ → ℕ → Type 0 where
  opens : (items p q : ℕ) (counts : List ℕ) → open_of items p q counts ≡ record { board = opened p q counts; answer = Ok tt } →
      ReachedBySlides (opened p q counts) 0 0
  arrives : {b c : Board} {e n m : ℕ} (edges : List Edge) → ReachedBySlides b e n → ArrivesBySlides b edges c m → ReachedBySlides c (e + once_per_place b.items edges) (n + m)
  withdraws : {b c : Board} {e n m : ℕ} (items : List ℕ) → ReachedBySlides b e n → WithdrawsBySlides b items c m → ReachedBySlides c e (n + m)

-- Every history is one of these, and these are all histories
abbrev pub HistoriesBySlides : Type 0
HistoriesBySlides = (b : Board) (e n : ℕ) → Reached b e n ↔ ReachedBySlides b e n
