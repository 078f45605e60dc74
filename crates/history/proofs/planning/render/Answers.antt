-- `planning::render` meets its contract: the lines of the board's numbers, one after the other.
use mathlib.Core.Path.{◌≡◌, ap, ◌∙◌}
use Prim.Native.Nat.{ℕ, ◌+◌, ◌/◌, ◌≤◌}
use native.Mathlib.Omega.{arith}
use borrow.Author.Rules.{rules}
use Rattle.text.proofs.Outs.{puts_then, puts_as, put_back}
use Rattle.supply.specs.Board.{start_in}
use Rattle.supply.specs.ByItem.{matching_weight}
use Rattle.supply.specs.Sound.{Sound}
use Rattle.supply.proofs.ByItem.{places-as-item, first-place}
use Rattle.supply.proofs.Shaping.{sound-fits}
use Rattle.supply.proofs.Lending.{plan-few}
use Rattle.board.proofs.Lending.{holders-few}
use Rattle.history.specs.Limits.{max_output}
use Rattle.history.specs.Output.{sum_of}
use Rattle.history.proofs.Boards.{sum-read, sum_fits, weight-from, output-read}
use Rattle.history.proofs.planning.render.Goals as goal

-- ---- The needs
pub columns_of-by_place-requires : goal.columns_of-by_place-requires
columns_of-by_place-requires c = let s = c.requires.auction in record { items = s.items.1; holders = holders-few s }

pub total_of-total-requires : goal.total_of-total-requires
total_of-total-requires c =
    let sound : Sound c.args.board.now = c.requires in
    let s = sound in
    (s.auction.arrived, omega (arith, s.auction.items.1), sum_fits c.args.board.now s _ c.columns_of-by_place.ensures)

pub weight_of-weight-requires : goal.weight_of-weight-requires
weight_of-weight-requires c =
    let sound : Sound c.args.board.now = c.requires in
    let s = sound.auction.slack in record { below = s.below; q = s.high }

pub greatest-best-requires : goal.greatest-best-requires
greatest-best-requires c =
    let sound : Sound c.args.board.now = c.requires in
    sound

pub read_by_item-columns-requires : goal.read_by_item-columns-requires
read_by_item-columns-requires c =
    let sound : Sound c.args.board.now = c.requires in
    let s = sound in
    record { fits = sound-fits c.args.board.now s; bidders = s.auction.arrived; plan = plan-few s c.columns_of-by_place.ensures }

pub put_columns-requires : goal.put_columns-requires
put_columns-requires c =
    let sound : Sound c.args.board.now = c.requires in
    let b = c.args.board.now in
    let s = sound in
    record {
      bidders = s.auction.arrived;
      items = (sound-fits b s, λ k l. omega (arith, (places-as-item b k (start_in b.items k) s l (first-place b k s l)).below, s.auction.items.1));
      at = c.new-out.ensures.at;
    }

pub put_last-requires : goal.put_last-requires
put_last-requires c = omega (arith, c.put_columns.ensures.few, c.new-out.ensures.at)

pub returns-clause-put : goal.returns-clause-put
returns-clause-put c =
    let sound : Sound c.args.board.now = c.requires in
    let total : c.total_of-total.result.0 ≡ sum_of c.args.board.now = c.total_of-total.ensures ∙ sum-read c.args.board.now sound _ c.columns_of-by_place.ensures in
    let weight : c.weight_of-weight.result.0 ≡ matching_weight c.args.board.now = let slack = c.args.board.now.market.slack in
    c.weight_of-weight.ensures ∙ (ap (λ (t : ℕ). t / (slack.q + slack.p)) total ∙ weight-from c.args.board.now sound) in
    let same =
    output-read c.args.board.now sound _ c.columns_of-by_place.ensures _ c.read_by_item-columns.ensures _ _ _ _ weight total
    c.greatest-best.ensures in
    let p = puts_as same (puts_then c.put_columns.ensures.put c.put_last.ensures.put) in
    let few : c.put_last.new.out.at ≤ max_output = omega (arith, c.new-out.ensures.at, c.put_columns.ensures.few, c.put_last.ensures.few) in
    put_back p (search rules) (omega (arith, p.moved, few, c.new-out.ensures.at)) c.new-out.ensures.bytes c.new-out.ensures.at (search rules)

pub returns-clause-few : goal.returns-clause-few
returns-clause-few c = omega (arith, c.new-out.ensures.at, c.put_columns.ensures.few, c.put_last.ensures.few)
