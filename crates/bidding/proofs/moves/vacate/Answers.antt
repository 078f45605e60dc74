-- `moves::vacate` meets its contract: the items that have been passed are gone, and their holders are marked.
use mathlib.Core.Path.{◌≡◌, refl, sym, ◌∙◌}
use mathlib.Core.Bool.{Bool, true}
use mathlib.Core.List.{List}
use Prim.Native.Nat.{ℕ, suc, ◌+◌, ◌-◌, ◌≤◌, ◌<◌}
use native.Mathlib.Numerals.{add-one}
use native.Mathlib.Omega.{arith}
use lib.ListN.{length, length-set}
use Rattle.duality.specs.Lists.{cells}
use Rattle.board.specs.declared.record.Market.{Market}
use Rattle.board.specs.declared.record.State.{State}
use Rattle.board.specs.Limits.{max_items, max_bidders}
use Rattle.board.specs.Cells.{auction}
use Rattle.board.specs.Sound.{Sound}
use Rattle.bidding.specs.Rule.{displaced}
use Rattle.bidding.specs.Moves.{released}
use Rattle.bidding.specs.Withdrawals.{Vacates}
use Rattle.bidding.specs.WithdrawalLaws.{Listed}
use Rattle.bidding.proofs.Marks.{marked-none, marked-free, marked-held, left-cell, left-bidder}
use Rattle.bidding.proofs.Bids.{cell_free, cell-held}
use Rattle.bidding.proofs.moves.vacate.Goals as goal
use Rattle.bidding.proofs.moves.vacate.Goals.{in-Held, in_default}

-- ---- What is known at the loop's head, where an item is left, on plain variables
module _ {market first : Market} {state was : State} {w : List ℕ} (items : List ℕ) (waiting : List Bool) (i : ℕ) (s : Sound (auction first w was))
    (l : Listed (auction first w was) (cells items) (length items)) (v : Vacates (auction first w was) (cells items) i (auction market w state) waiting)
    (more : i < length items) where
  listed : Listed (auction first w was) (cells items) (suc i)
  listed = λ k h. l k (omega (arith, h, more))

  low : 1 ≤ cells items i
  low = (listed i (omega arith)).low

  small : cells items i - 1 < max_items
  small = omega (arith, left-cell s listed v, s.items)

  bidder : cells state.holder (cells items i - 1) ≤ max_bidders
  bidder = omega (arith, left-bidder s listed v, s.arrived)

pub loop-item-init : goal.loop-item-init
loop-item-init c = (refl, λ w s. marked-none _)

pub bounds-state-bidder : goal.bounds-state-bidder
bounds-state-bidder c = omega (arith, cell-held _ _ (sym c.holder_of-before.ensures ∙ c.in-Held.is), bidder c.args.items.now c.loop-item.waiting c.loop-item.item-index c.requires.1 c.requires.2 (c.loop-item.invariant.1 c.requires.0 c.requires.1) c.loop-item-test.true)

pub bounds-waiting-bidder : goal.bounds-waiting-bidder
bounds-waiting-bidder c = omega (arith, cell-held _ _ (sym c.holder_of-before.ensures ∙ c.in-Held.is), bidder c.args.items.now c.loop-item.waiting c.loop-item.item-index c.requires.1 c.requires.2 (c.loop-item.invariant.1 c.requires.0 c.requires.1) c.loop-item-test.true)

pub loop-item-preserved : goal.loop-item-preserved
unfolding released displaced
loop-item-preserved c =
    let size = c.loop-item.invariant.0 in
    let next : c.loop-item.item-index + 1 ≡ suc c.loop-item.item-index = add-one c.loop-item.item-index in
    let all = listed c.args.items.now c.loop-item.waiting c.loop-item.item-index c.requires.1 c.requires.2 (c.loop-item.invariant.1 c.requires.0 c.requires.1) c.loop-item-test.true in
    let most = bidder c.args.items.now c.loop-item.waiting c.loop-item.item-index c.requires.1 c.requires.2 (c.loop-item.invariant.1 c.requires.0 c.requires.1) c.loop-item-test.true in (
      elim c.match-before.branch [ in-Held u ↦ rw u.waiting-is (length-set c.loop-item.waiting _ true ∙ size) | in_default u ↦ rw u.waiting-is size ],
      λ w s. rw next (elim c.match-before.branch [
        | in-Held u ↦ rw (u.state-is, u.waiting-is) (marked-held s all (c.loop-item.invariant.1 w s) _ (cell-held _ _ (sym c.holder_of-before.ensures ∙ u.in-Held.is)) (omega (arith, cell-held _ _ (sym c.holder_of-before.ensures ∙ u.in-Held.is), most, size)))
        | in_default u ↦ rw (u.state-is, u.waiting-is) (marked-free s all (c.loop-item.invariant.1 w s) (cell_free _ (sym c.holder_of-before.ensures ∙ u.in_default.is)))
      ]),
    )

pub returns : goal.returns
returns c = let all : c.loop-item.item-index ≡ length c.args.items.now = omega arith in rw (← all) c.loop-item.invariant.1
