-- `chain::settle_all` meets its contract: those of the marked bidders that have been passed have bid, and the others wait.
use mathlib.Core.Path.{◌≡◌, sym, ap, ◌∙◌}
use native.Mathlib.Numerals.{add-one}
use native.Mathlib.Omega.{arith}
use Rattle.board.specs.Cells.{auction}
use Rattle.bidding.specs.Rule.{done, after_chain}
use Rattle.bidding.specs.Withdrawals.{marked, roll_of, chains_from}
use Rattle.bidding.proofs.Withdrawing.{between_none, between-off, between-on, between-ready, between-fits}
use Rattle.bidding.proofs.chain.settle_all.Goals as goal
use Rattle.bidding.proofs.chain.settle_all.Goals.{then-waiting-i, else-waiting-i}

pub loop-i-init : goal.loop-i-init
loop-i-init c = (between_none c.requires.waiting, c.requires.floored)

pub settle-end-requires : goal.settle-end-requires
settle-end-requires c =
    let inv = c.loop-i.invariant in
    record { ready = between-ready inv.0 c.loop-i-test.true (c.if-waiting-i.true); floored = inv.1 }

pub overflow_add-bids : goal.overflow_add-bids
overflow_add-bids c =
    omega (arith, between-fits (between-on c.loop-i.invariant.0 c.loop-i-test.true (c.if-waiting-i.true) _ _ c.settle-end.ensures.chain))

pub loop-i-preserved : goal.loop-i-preserved
loop-i-preserved c = (
  rw (add-one c.loop-i.i) (elim c.if-waiting-i.branch [
    | then-waiting-i w ↦ rw (w.state-is, w.bids-is) (between-on c.loop-i.invariant.0 c.loop-i-test.true (w.if-waiting-i.true) _ _ w.settle-end.ensures.chain)
    | else-waiting-i w ↦ rw (w.state-is, w.bids-is) (between-off c.loop-i.invariant.0 c.loop-i-test.true (w.if-waiting-i.false))
  ]),
  elim c.if-waiting-i.branch [
    | then-waiting-i w ↦ rw (w.state-is, w.floors-is) w.settle-end.ensures.floored
    | else-waiting-i w ↦ rw (w.state-is, w.floors-is) c.loop-i.invariant.1
  ],
)

pub returns : goal.returns
returns c =
    let all : c.loop-i.i ≡ c.args.market.now.arrived = omega (arith, c.loop-i.auto.i-end) in record {
      chains = sym c.loop-i.invariant.0.computed
          ∙ ap (λ h. chains_from (done (after_chain (auction c.args.market.now c.args.weights.now c.args.state.now) 0)) (roll_of (marked c.args.waiting.now) h)) all;
      floored = c.loop-i.invariant.1;
    }
