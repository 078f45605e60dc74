-- Calls leave a sound board sound.
use mathlib.Core.Path.{◌≡◌, sym}
use mathlib.Core.Bool.{true}
use mathlib.Core.List.{List}
use Prim.Native.Nat.{ℕ, ◌≤◌, ◌<◌}
use Rattle.std.specs.Prelude.{Result}
use Rattle.refusals.specs.declared.Refusal.{Refusal}
use Rattle.board.specs.declared.record.Edge.{Edge}
use Rattle.supply.specs.declared.record.Board.{Board}
use Rattle.board.specs.Limits.{max_items}
use Rattle.supply.specs.Sound.{Sound}
use Rattle.supply.specs.SoundTest.{sound_test}
use Rattle.supply.proofs.SoundLaw.{sound-decides}
use Rattle.bidding.specs.Rule.{done}
use Rattle.auction.specs.Arrive.{arrival, arrive_of}
use Rattle.auction.specs.Withdraw.{withdrawal, withdraw_of}
use Rattle.auction.proofs.Demand2.{arrive-all, withdraw-all}

pub arrive-sound : {b c : Board} (edges : List Edge) {a : Result ℕ Refusal} → Sound b → done (arrival c a) ≡ arrive_of b edges → Sound c
arrive-sound {b} {c} edges {a} s e = arrive-all b edges (λ r. Sound r.board) (λ j. j.sound) (λ q. s) (arrival c a) (sym e)

pub withdraw-sound : {b c : Board} (items : List ℕ) {a : Result ℕ Refusal} → Sound b → done (withdrawal c a) ≡ withdraw_of b items → Sound c
withdraw-sound {b} {c} items {a} s e = withdraw-all b items (λ r. Sound r.board) (λ j. j.sound) (λ q. s) (withdrawal c a) (sym e)

-- The same by the test, and what a call's needs come to
pub sound_if : {b : Board} → sound_test b ≡ true → Sound b
sound_if {b} e = (sound-decides b).sound e

pub arrive_keeps : (b c : Board) (edges : List Edge) (a : Result ℕ Refusal) → done (arrival c a) ≡ arrive_of b edges → sound_test b ≡ true → sound_test c ≡ true
arrive_keeps b c edges a e s = (sound-decides c).complete (arrive-sound edges (sound_if s) e)

pub withdraw_keeps : (b c : Board) (items : List ℕ) (a : Result ℕ Refusal) → done (withdrawal c a) ≡ withdraw_of b items → sound_test b ≡ true → sound_test c ≡ true
withdraw_keeps b c items a e s = (sound-decides c).complete (withdraw-sound items (sound_if s) e)

pub few_items : (b : Board) → sound_test b ≡ true → b.market.items ≤ max_items
few_items b s = (sound_if s).auction.items.1

pub proper_slack : (b : Board) → sound_test b ≡ true → b.market.slack.p < b.market.slack.q
proper_slack b s = (sound_if s).auction.slack.below

pub ruleset arrivals = (arrive_keeps, few_items, proper_slack)

pub ruleset withdrawals = (withdraw_keeps, few_items, proper_slack)
