-- Every bid of every call is the four steps of the slides in turn.
use mathlib.Core.Path.{◌≡◌, refl, subst₂, ◌∙◌}
use mathlib.Core.List.{List}
use Prim.Native.Nat.{ℕ, ◌+◌}
use native.Mathlib.Nat.{add-zero}
use native.Mathlib.Omega.{arith}
use lib.ListN.{length}
use Rattle.duality.specs.Lists.{cells}
use Rattle.supply.specs.declared.record.Board.{Board}
use Rattle.board.specs.declared.record.Edge.{Edge}
use Rattle.std.specs.Prelude.{Ok}
use Rattle.supply.specs.Board.{auction_of, on_items}
use Rattle.bidding.specs.Moves.{arrived_of}
use Rattle.auction.specs.Arrive.{arrival, row_on, arrived_told}
use Rattle.auction.specs.Withdraw.{withdrawal, withdrawn_told}
use Rattle.auction.specs.Histories.{edges_added, Reached}
use Rattle.auction.specs.BySlides.{ArrivesBySlides, ArriveBySlides, WithdrawsBySlides, WithdrawBySlides, ReachedBySlides, HistoriesBySlides}
use Rattle.bidding.proofs.Slides.{arrived-by-slides, withdrawn-by-slides}
use Rattle.auction.proofs.Demand2.{Joins, Quits, places_for, arrive-all, withdraw-all}
use Rattle.auction.proofs.Told.{arrived-bids, withdrawn-bids}

joins-by-slides : {b : Board} {edges : List Edge} (j : Joins b edges) → ArrivesBySlides b edges (on_items b.items j.after.settles.board) j.after.settles.bids
unfolding arrived_of
joins-by-slides {b} {edges} j = record { before = j.before; accepted = j.answers; chain = arrived-by-slides (auction_of b) (row_on b.items edges) ∙ j.after.settles.computed }

quits-by-slides : {b : Board} {items : List ℕ} (j : Quits b items) → WithdrawsBySlides b items (on_items b.items j.ends.board) j.ends.bids
quits-by-slides {b} {items} j = record { before = j.before; accepted = j.answers; chains = withdrawn-by-slides (auction_of b) (cells (places_for b items)) (length (places_for b items)) ∙ j.ends.computed }

pub arrive-by-slides : ArriveBySlides
arrive-by-slides b c edges n a =
    arrive-all b edges (λ r. r.board ≡ c → r.answer ≡ Ok n → ArrivesBySlides b edges c n)
    (λ j e f. let k : j.after.settles.bids ≡ n = cc in subst₂ (λ c n. ArrivesBySlides b edges c n) e k (joins-by-slides j))
    (λ q e f. let z : ◌≡◌ {A = ℕ} 0 1 = cc in absurd (omega arith))
    _ a.outcome refl (arrived-bids a.answer n a.tells)

pub withdraw-by-slides : WithdrawBySlides
withdraw-by-slides b c items n a =
    withdraw-all b items (λ r. r.board ≡ c → r.answer ≡ Ok n → WithdrawsBySlides b items c n)
    (λ j e f. let k : j.ends.bids ≡ n = cc in subst₂ (λ c n. WithdrawsBySlides b items c n) e k (quits-by-slides j))
    (λ q e f. let z : ◌≡◌ {A = ℕ} 0 1 = cc in absurd (omega arith))
    _ a.outcome refl (withdrawn-bids a.answer n a.tells)

-- A history, call by call
to-slides : (b : Board) (e n : ℕ) → Reached b e n → ReachedBySlides b e n
to-slides _ _ _ (Reached.opens items p q counts h) = ReachedBySlides.opens items p q counts h
to-slides _ _ _ (Reached.arrives {b = b} {e = e} {n = n} edges r t h) =
    let s = to-slides b e n t in
    arrive-all b edges (λ r. ReachedBySlides r.board (e + edges_added b.items r.answer edges) (n + (arrived_told r.answer).value))
    (λ j. ReachedBySlides.arrives edges s (joins-by-slides j))
    (λ q. rw (add-zero e, add-zero n) s)
    r h
to-slides _ _ _ (Reached.withdraws {b = b} {e = e} {n = n} items r t h) =
    let s = to-slides b e n t in
    withdraw-all b items (λ r. ReachedBySlides r.board e (n + (withdrawn_told r.answer).value))
    (λ j. ReachedBySlides.withdraws items s (quits-by-slides j))
    (λ q. rw (add-zero n) s)
    r h

from-slides : (b : Board) (e n : ℕ) → ReachedBySlides b e n → Reached b e n
from-slides _ _ _ (ReachedBySlides.opens items p q counts h) = Reached.opens items p q counts h
from-slides _ _ _ (ReachedBySlides.arrives {b = b} {c = c} {e = e} {n = n} {m = m} edges t a) =
    Reached.arrives edges (arrival c (Ok m)) (from-slides b e n t) a.accepted
from-slides _ _ _ (ReachedBySlides.withdraws {b = b} {c = c} {e = e} {n = n} {m = m} items t a) =
    Reached.withdraws items (withdrawal c (Ok m)) (from-slides b e n t) a.accepted

pub histories-by-slides : HistoriesBySlides
histories-by-slides b e n = (to-slides b e n, from-slides b e n)
