-- Counts of places: kept as the first cells of a list, and what the checks of a `P` line come to.
use Rattle.std.specs.Prelude.{Err}
use mathlib.Core.Path.{◌≡◌, refl, sym, ap}
use mathlib.Core.Bool.{true, false}
use mathlib.Core.List.{List, ◌∷◌}
use Prim.Native.Nat.{ℕ, zero, suc, ◌-◌, ◌≤◌, ◌<◌}
use native.Mathlib.Omega.{arith}
use lib.ListN.{set, take, replicate}
use lib.Seq.{take-set-lt}
use borrow.Author.Tests.{le-leb, lt-leb}
use Rattle.refusals.specs.declared.Refusal.TheVariants.{Unknown, Order}
use Rattle.refusals.specs.Demand1.{first_of}
use Rattle.board.specs.Limits.{max_items}
use Rattle.board.specs.Ranges.{within_test}
use Rattle.board.proofs.Tests.{within-decides}
use Rattle.supply.specs.Opening.{Counts, opened, open_checks}
use Rattle.supply.proofs.Openings.{opened-counts, open-ready}
use Rattle.auction.specs.Histories.{Reached}
use Rattle.replay.specs.Replay.{place_checks, ones}
use Rattle.replay.specs.ReplayLaws.{ReachedBy}
use Rattle.replay.specs.Counted.{Counted}

-- ---- Counts that serve an opening

module _ (items p q : ℕ) (counts : List ℕ) (e : Counted items p q counts) where
  -- They are within limits, one for each item
  pub counted-kept : Counts counts
  counted-kept = (opened-counts items p q counts e).kept

  pub counted-few : items ≤ max_items
  counted-few = (opened-counts items p q counts e).count.high

  -- The board that they open is reached
  pub counted-reached : ReachedBy (opened p q counts) 0
  counted-reached = (0, Reached.opens items p q counts (sym (open-ready items p q counts e refl)))

-- ---- Counts as the first cells of a list

-- One place for each item
pub first-ones : (items all : ℕ) → items ≤ all → take items (replicate all 1) ≡ ones items
first-ones zero all l = refl
first-ones (suc items) zero l = absurd (omega arith)
first-ones (suc items) (suc all) l = ap (λ (r : List ℕ). 1 ∷ r) (first-ones items all (omega arith))

-- A count that is stored among all cells is stored among the first
pub first-set : (items k : ℕ) (all : List ℕ) (c : ℕ) → within_test items k ≡ true → take items (set all (k - 1) c) ≡ set (take items all) (k - 1) c
first-set items k all c w = let h = (within-decides items k).sound w in take-set-lt items all (k - 1) c (omega (arith, h.low, h.high))

-- ---- What the checks of a `P` line come to

module _ (items p q low : ℕ) (counts : List ℕ) (k c : ℕ) where
  pub place-unknown : within_test items k ≡ false → Err (Unknown 0) ≡ first_of (place_checks items p q low counts k c)
  unfolding place_checks first_of
  place-unknown e = rw e

  module _ (w : within_test items k ≡ true) where
    pub place-order : k ≤ low → Err (Order 0) ≡ first_of (place_checks items p q low counts k c)
    unfolding place_checks first_of
    place-order l = rw (w, le-leb k low l)

    pub place-opens : low < k → first_of (open_checks items p q (set counts (k - 1) c)) ≡ first_of (place_checks items p q low counts k c)
    unfolding place_checks first_of
    place-opens l = rw (w, lt-leb k low l)
