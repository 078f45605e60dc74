-- `exact` meets its contract: the live edges are solved by place, read by item, and the lists written.
use Rattle.std.specs.Prelude.{Ok}
use mathlib.Core.Path.{◌≡◌, sym, subst, ◌∙◌}
use native.Mathlib.Omega.{arith}
use Rattle.refusals.specs.Demand1.{first_of, Verdict}
use Rattle.refusals.proofs.Verdicts.{refused_up}
use Rattle.board.specs.Lent.{Lists, lists}
use Rattle.supply.specs.declared.record.Board.{Board}
use Rattle.supply.specs.Board.{auction_of}
use Rattle.supply.specs.Sound.{Sound}
use Rattle.supply.specs.Lent.{Roomy, read_out_checks}
use Rattle.supply.proofs.Lending.{lent-open}
use Rattle.supply.proofs.Shaping.{sound-fits}
use Rattle.hungarian.specs.Exact.{Shows, ExactOutcome}
use Rattle.hungarian.proofs.LiveWeights.{live-light}
use Rattle.hungarian.proofs.Exacts.{solved-few, shows, exact-refused, exact-shown}
use Rattle.hungarian.proofs.exact.exact.Goals as goal

-- Where the verdict is that it is served, the board is sound and the lists have room
opens : (b : Board) (l : Lists) (v : Verdict) → v ≡ first_of (read_out_checks b l) → v ≡ Ok tt → Sound b × Roomy b l
opens b l v e is = lent-open b l (sym e ∙ is)

pub returns-in_err-lent_verdict-clause-outcome : goal.returns-in_err-lent_verdict-clause-outcome
returns-in_err-lent_verdict-clause-outcome c =
    let b = c.args.board.now in
    let l = lists c.args.plan.now c.args.prices.now c.args.gains.now in
    let up = refused_up c.from_residual.result c.from_residual.ensures.1 in
    subst (λ r. ExactOutcome b l r l) (sym up) (exact-refused b l _ (sym c.lent_verdict.ensures ∙ c.in_err-lent_verdict.was))

pub solve-solution-requires : goal.solve-solution-requires
solve-solution-requires c =
    let l = lists c.args.plan.now c.args.prices.now c.args.gains.now in
    let s = (opens c.args.board.now l _ c.lent_verdict.ensures c.in_ok-lent_verdict.was).0 in
    record { light = live-light (auction_of c.args.board.now) s.auction _ c.keep_live.ensures; few = s.auction.arrived }

pub read_by_item-columns-requires : goal.read_by_item-columns-requires
read_by_item-columns-requires c =
    let b = c.args.board.now in
    let l = lists c.args.plan.now c.args.prices.now c.args.gains.now in
    let s = (opens b l _ c.lent_verdict.ensures c.in_ok-lent_verdict.was).0 in
    record {
      fits = sound-fits b s;
      bidders = s.auction.arrived;
      plan = solved-few b _ c.solve-solution.result.columns _ s c.keep_live.ensures c.solve-solution.ensures;
    }

pub write_columns-requires : goal.write_columns-requires
write_columns-requires c =
    let l = lists c.args.plan.now c.args.prices.now c.args.gains.now in
    let (s, room) = opens c.args.board.now l _ c.lent_verdict.ensures c.in_ok-lent_verdict.was in
    record { bidders = s.auction.arrived; items = omega (arith, s.laid.count.high); plan = room.plan; prices = room.prices; gains = room.gains }

pub returns-clause-outcome : goal.returns-clause-outcome
returns-clause-outcome c =
    let b = c.args.board.now in
    let l = lists c.args.plan.now c.args.prices.now c.args.gains.now in
    let (s, room) = opens b l _ c.lent_verdict.ensures c.in_ok-lent_verdict.was in
    exact-shown b l _ _ (sym c.lent_verdict.ensures ∙ c.in_ok-lent_verdict.was)
    (subst (λ after. Shows b l (Ok c.solve-solution.result.weight) after) (sym c.write_columns.ensures)
    (shows b _ _ _ s c.keep_live.ensures c.solve-solution.ensures l _ room c.read_by_item-columns.ensures))
