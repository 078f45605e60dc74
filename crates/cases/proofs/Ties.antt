-- The choices among ties: the computed choice is the rule's, and there is one.
use mathlib.Core.Path.{refl}
use native.Mathlib.Omega.{arith}
use Rattle.board.specs.Cells.{pence, scaled}
use Rattle.bidding.specs.Rule.{Chosen, offer_of, best_of}
use Rattle.bidding.proofs.Choices.{best-at, chosen-once}
use Rattle.cases.specs.Ties.{two, Ties}

heavier : Chosen 1 10 2 (two 50 60) (two 0 100) 1
unfolding offer_of best_of
heavier = (best-at 1 10 2 (two 50 60) (two 0 100) 1 (pence 60) (scaled 500) (scaled 500) refl).chosen

pub ties : Ties
unfolding offer_of best_of
ties =
    record {
      heavier = heavier;
      lighter = λ c. let z = chosen-once 1 10 2 (two 50 60) (two 0 100) 0 1 c heavier in omega (arith, z);
      below = (best-at 1 10 2 (two 60 50) (two 100 0) 0 (pence 60) (scaled 500) (scaled 500) refl).chosen;
      lower = (best-at 1 2 2 (two 50 50) (two 0 0) 0 (pence 50) (scaled 100) (scaled 100) refl).chosen;
      utility = (best-at 1 10 2 (two 50 60) (two 0 101) 0 (pence 50) (scaled 500) (scaled 499) refl).chosen;
      shut = (best-at 1 2 2 (two 50 100) (two 0 100) 0 (pence 50) (scaled 100) (scaled 0) refl).chosen;
      even = (best-at 1 10 2 (two 50 60) (two 0 100) 1 (pence 60) (scaled 500) (scaled 500) refl).second;
      lead = (best-at 1 10 2 (two 50 60) (two 0 101) 0 (pence 50) (scaled 500) (scaled 499) refl).second;
      alone = (best-at 1 2 2 (two 50 100) (two 0 100) 0 (pence 50) (scaled 100) (scaled 0) refl).second;
    }
