-- `chain::settle` meets its contract: the chain on its way is the chain it began.
use mathlib.Core.Path.{sym, ◌∙◌}
use Prim.Native.Nat.{ℕ}
use native.Mathlib.Omega.{arith}
use lib.ListN.{length-replicate}
use Rattle.board.specs.Limits.{max_items}
use Rattle.board.proofs.Filling.{blank}
use Rattle.bidding.proofs.Turns.{going-starts, going-ends, counts, less}
use Rattle.bidding.proofs.Running.{row-size, pence-under, tested-kept, blank-kept, rates, best-is, next-ends, next-floored, next-runs, item-small, weight-small, held_small, item-price, second-small, lead-small}
use Rattle.bidding.proofs.chain.settle.Goals as goal

pub loop-item-init : goal.loop-item-init
loop-item-init c =
    record {
      going = going-starts c.requires.ready;
      floored = c.requires.floored;
      tested-size = length-replicate {A = ℕ} max_items 0;
      blank = λ k _. blank {A = ℕ} max_items k 0;
    }

pub test_open-requires : goal.test_open-requires
test_open-requires c = let r = c.loop-item.invariant in record { items = r.going.ready.sound.items.1; row = row-size r; under = pence-under r }

pub invariant_of-rated : goal.invariant_of-rated
invariant_of-rated c = let r = c.loop-item.invariant in record { whole = row-size r; fine = r.going.ready.sound.slack.high; rates = rates r c.test_open.ensures }

pub pick-best-requires : goal.pick-best-requires
pick-best-requires c = let r = c.loop-item.invariant in record { items = r.going.ready.sound.items.1; blank = blank-kept r c.test_open.ensures }

pub returns-in_default : goal.returns-in_default
returns-in_default c = record {
  chain = going-ends c.loop-item.invariant.going (best-is c.loop-item.invariant c.test_open.ensures _ c.pick-best.ensures ∙ c.in_default.is);
  floored = c.loop-item.invariant.floored;
}

pub overflow_sub-lead : goal.overflow_sub-lead
overflow_sub-lead c = second-small c.loop-item.invariant (best-is c.loop-item.invariant c.test_open.ensures _ c.pick-best.ensures ∙ c.in-Some.is)

pub raise-requires : goal.raise-requires
raise-requires c =
    let r = c.loop-item.invariant in
    let s = r.going.ready.sound.slack in
    let best = best-is r c.test_open.ensures _ c.pick-best.ensures ∙ c.in-Some.is in
    record { item = item-small r best; proper = s.below; slack = s.high; weight = weight-small r best; lead = lead-small r best; price = item-price r best }

pub hand_over-holder-requires : goal.hand_over-holder-requires
hand_over-holder-requires c =
    let r = c.loop-item.invariant in
    let h = r.going.ready in
    let best = best-is r c.test_open.ensures _ c.pick-best.ensures ∙ c.in-Some.is in
    record { item = item-small r best; bidder = omega (arith, h.bidder, h.sound.arrived); holder = held_small r best }

pub overflow_add-bids : goal.overflow_add-bids
overflow_add-bids c = let h = counts c.loop-item.invariant.going in omega arith

pub returns-in_default-holder : goal.returns-in_default-holder
returns-in_default-holder c =
    let r = c.loop-item.invariant in
    let best = best-is r c.test_open.ensures _ c.pick-best.ensures ∙ c.in-Some.is in
    let e = c.raise.ensures in
    record {
      chain = next-ends r best (sym c.hand_over-holder.ensures.before ∙ c.in_default-holder.is) _ _ _ e.price c.hand_over-holder.ensures.handed c.hand_over-holder.ensures.gains;
      floored = next-floored r best _ _ e.price e.least e.pence;
    }

pub loop-item-smaller : goal.loop-item-smaller
loop-item-smaller c = less c.loop-item.invariant.going

pub loop-item-preserved : goal.loop-item-preserved
loop-item-preserved c =
    let r = c.loop-item.invariant in
    let e = c.raise.ensures in
    next-runs r (best-is c.loop-item.invariant c.test_open.ensures _ c.pick-best.ensures ∙ c.in-Some.is) _ (sym c.hand_over-holder.ensures.before ∙ c.in-Held.is) _ _ _ _ _
    e.price c.hand_over-holder.ensures.handed c.hand_over-holder.ensures.gains e.least e.pence (tested-kept r c.test_open.ensures) (blank-kept r c.test_open.ensures)
