-- `arrive::arrive_in` meets its contract: refused in the order of the checks, else entered.
use mathlib.Core.Path.{◌≡◌, sym, ap, ◌∙◌}
use mathlib.Core.List.{List}
use native.Mathlib.Omega.{arith}
use Rattle.board.specs.Cells.{auction}
use Rattle.refusals.proofs.Verdicts.{refused_up}
use Rattle.supply.proofs.SoundLaw.{sound-decides}
use lib.ListN.{length}
use Rattle.board.specs.declared.record.Edge.{Edge}
use Rattle.refusals.specs.Demand1.{first_of, Verdict}
use Rattle.supply.specs.declared.record.Board.{Board}
use Rattle.supply.specs.ByItem.{withdrawn_at}
use Rattle.auction.specs.Edges.{item_in, weight_in, edges_checks}
use Rattle.bidding.specs.Rule.{done, after_chain}
use Rattle.auction.specs.Arrive.{arrival}
use Rattle.auction.proofs.EdgesLaw.{served-edges}
use Rattle.auction.proofs.CallVerdicts.{arrive-full, arrive-served, arrive-refused, arrival-done}
use Rattle.auction.proofs.Demand2.{spread-fits}
use Rattle.auction.proofs.arrive.arrive_in.Goals as goal

-- What the sheet's tests say, of the board that it is of
tested : {s b : Board} (edges : List Edge) {v w : Verdict} → s ≡ b →
    v ≡ first_of (edges_checks s.items.count (withdrawn_at s) (item_in edges) (weight_in edges) 0 (length edges)) → v ≡ w →
    first_of (edges_checks b.items.count (withdrawn_at b) (item_in edges) (weight_in edges) 0 (length edges)) ≡ w
tested edges e f g = rw e at (sym f ∙ g)

-- ---- The needs
pub returns-then-board-clause-answers : goal.returns-then-board-clause-answers
returns-then-board-clause-answers c = sym (arrive-full c.args.board.now _ ((sound-decides _).complete c.requires.sound) c.if-board.true)

pub row_of-requires : goal.row_of-requires
row_of-requires c =
    let a = served-edges _ _ _ _ _ (tested _ c.of.ensures c.edges_verdict.ensures c.in_ok-edges_verdict.was) in
    let few = c.requires.sound.laid.count.high in
    record { items = λ i l. record { low = (a.known i l).low; high = omega (arith, (a.known i l).high) }; weights = a.weighed }

pub enter-bids-requires : goal.enter-bids-requires
enter-bids-requires c =
    let a = served-edges _ _ _ _ _ (tested _ c.of.ensures c.edges_verdict.ensures c.in_ok-edges_verdict.was) in
    record { sound = c.requires.sound.auction; room = omega arith; row = rw (c.spread_row-spread.ensures, c.row_of.ensures) (spread-fits c.args.board.now c.args.edges.now c.requires.sound a); floored = c.requires.floored }

pub returns-clause-answers : goal.returns-clause-answers
returns-clause-answers c =
    sym (arrive-served c.args.board.now c.args.edges.now ((sound-decides _).complete c.requires.sound) (omega arith) (tested _ c.of.ensures c.edges_verdict.ensures c.in_ok-edges_verdict.was)
    ∙ arrival-done c.args.board.now.items _ (after_chain (auction c.enter-bids.new.market c.enter-bids.new.weights c.enter-bids.new.state) c.enter-bids.result)
    (rw (c.spread_row-spread.ensures, c.row_of.ensures) at c.enter-bids.ensures.arrived))

pub returns-in_err-edges_verdict-clause-answers : goal.returns-in_err-edges_verdict-clause-answers
returns-in_err-edges_verdict-clause-answers c =
    ap (λ a. done (arrival c.args.board.now a)) (refused_up c.from_residual.result c.from_residual.ensures.1) ∙ sym (arrive-refused c.args.board.now c.args.edges.now ((sound-decides _).complete c.requires.sound) (omega arith) _ (tested _ c.of.ensures c.edges_verdict.ensures c.in_err-edges_verdict.was))
