-- `adjust` meets its contract: prices and gains are adjusted at each item that is passed.
use native.Mathlib.Omega.{arith}
use Rattle.hungarian.proofs.Adjusting.{adjust-unvisited, room, adjust-visited}
use Rattle.hungarian.proofs.Cells.{marked, unmarked}
use Rattle.hungarian.proofs.solver.adjust.Goals as goal
use Rattle.hungarian.proofs.solver.adjust.Goals.{then-search-k-ne0, else-search-k-ne0}

pub bounds-gain-i : goal.bounds-gain-i
bounds-gain-i c = omega (arith, (room c.requires.able c.loop-k.invariant (omega arith) (marked c.if-search-k-ne0.true)).bidder)

pub overflow_sub-gain : goal.overflow_sub-gain
overflow_sub-gain c = rw c.from-i.ensures (room c.requires.able c.loop-k.invariant (omega arith) (marked c.if-search-k-ne0.true)).gain

pub bounds-gain-i-then-search-k-ne0 : goal.bounds-gain-i-then-search-k-ne0
bounds-gain-i-then-search-k-ne0 c = omega (arith, (room c.requires.able c.loop-k.invariant (omega arith) (marked c.if-search-k-ne0.true)).bidder)

pub loop-k-preserved : goal.loop-k-preserved
loop-k-preserved c =
    let l = c.loop-k in
    elim c.if-search-k-ne0.branch [
      | then-search-k-ne0 w ↦ rw (w.price-is, w.gain-is, w.from-i.ensures) (adjust-visited c.requires.able l.invariant (omega arith) (marked w.if-search-k-ne0.true))
      | else-search-k-ne0 w ↦ rw (w.price-is, w.gain-is) (adjust-unvisited c.requires.able l.invariant (omega arith) (unmarked w.if-search-k-ne0.false))
    ]
