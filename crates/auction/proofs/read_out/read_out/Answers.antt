-- `read_out::read_out` meets its contract: the lists are written where the board is sound and there is room.
use mathlib.Core.Path.{◌≡◌, sym, ap, ◌∙◌}
use native.Mathlib.Omega.{arith}
use Rattle.refusals.specs.Demand1.{first_of, Verdict}
use Rattle.supply.specs.declared.record.Board.{Board}
use Rattle.supply.specs.Sound.{Sound}
use Rattle.board.specs.Lent.{Lists, lists}
use Rattle.board.proofs.Lending.{holders-few}
use Rattle.supply.specs.Lent.{Roomy, read_out_checks}
use Rattle.refusals.proofs.Verdicts.{refused_up}
use Rattle.supply.proofs.Shaping.{sound-fits}
use Rattle.supply.proofs.Lending.{lent-open, plan-few, columns-written}
use Rattle.std.specs.Prelude.{Ok}
use Rattle.auction.specs.ReadOut.{outcome}
use Rattle.auction.proofs.CallVerdicts.{read-out-by, read-out-written}
use Rattle.auction.proofs.read_out.read_out.Goals as goal

-- What a served verdict says
opens : (b : Board) (lent : Lists) (v : Verdict) → v ≡ first_of (read_out_checks b lent) → v ≡ Ok tt → Sound b × Roomy b lent
opens b lent v e f = lent-open _ _ (sym e ∙ f)

pub columns_of-by_place-requires : goal.columns_of-by_place-requires
columns_of-by_place-requires c = let s = (opens c.args.board.now (lists c.args.plan.now c.args.prices.now c.args.gains.now) _ c.lent_verdict.ensures c.in_ok-lent_verdict.was).0 in record { items = s.auction.items.1; holders = holders-few s.auction }

pub read_by_item-columns-requires : goal.read_by_item-columns-requires
read_by_item-columns-requires c = let s = (opens c.args.board.now (lists c.args.plan.now c.args.prices.now c.args.gains.now) _ c.lent_verdict.ensures c.in_ok-lent_verdict.was).0 in record { fits = sound-fits _ s; bidders = s.auction.arrived; plan = plan-few s c.columns_of-by_place.ensures }

pub write_columns-requires : goal.write_columns-requires
write_columns-requires c =
    let (s, room) = opens c.args.board.now (lists c.args.plan.now c.args.prices.now c.args.gains.now) _ c.lent_verdict.ensures c.in_ok-lent_verdict.was in
    record { bidders = s.auction.arrived; items = omega (arith, s.laid.count.high); plan = room.plan; prices = room.prices; gains = room.gains }

pub returns-clause-answers : goal.returns-clause-answers
returns-clause-answers c =
    let lent = lists c.args.plan.now c.args.prices.now c.args.gains.now in
    ap (outcome (Ok tt)) (c.write_columns.ensures ∙ columns-written (opens c.args.board.now (lists c.args.plan.now c.args.prices.now c.args.gains.now) _ c.lent_verdict.ensures c.in_ok-lent_verdict.was).0 c.columns_of-by_place.ensures lent c.read_by_item-columns.ensures) ∙
    sym (read-out-written c.args.board.now lent (sym c.lent_verdict.ensures ∙ c.in_ok-lent_verdict.was))

pub returns-in_err-lent_verdict-clause-answers : goal.returns-in_err-lent_verdict-clause-answers
returns-in_err-lent_verdict-clause-answers c =
    ap (λ v. outcome v (lists c.args.plan.now c.args.prices.now c.args.gains.now)) (refused_up c.from_residual.result c.from_residual.ensures.1) ∙ sym (read-out-by c.args.board.now (lists c.args.plan.now c.args.prices.now c.args.gains.now) (sym c.lent_verdict.ensures ∙ c.in_err-lent_verdict.was))
