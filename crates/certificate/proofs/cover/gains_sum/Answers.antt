-- `cover::gains_sum` meets its contract: no cell is above the limit, so the sum is small.
use Rattle.std.proofs.Common.{◌∙◌, length, arith}
use Rattle.std.proofs.lemmas.Iterator.{YieldsList-from_slice}
use Rattle.std.proofs.lemmas.Iterator.Consumers.{sum_from_yields_List, fits_from_yields_list}
use Rattle.duality.specs.Lists.{cells}
use Rattle.duality.proofs.Sums.{sum_to-most}
use Rattle.board.specs.Limits.{max_price}
use Rattle.matching.proofs.Sums.{sum-cells}
use Rattle.certificate.proofs.cover.gains_sum.Goals as goal

pub sum-requires-clause-fits : goal.sum-requires-clause-fits
sum-requires-clause-fits c =
    let xs = c.args.gains.now in
    fits_from_yields_list c.iter.result _ (YieldsList-from_slice xs cc) (omega (arith, sum-cells xs, sum_to-most (length xs) max_price (cells xs) c.requires.capped, c.requires.few))

pub returns-clause-sum : goal.returns-clause-sum
returns-clause-sum c = let xs = c.args.gains.now in sum_from_yields_List c.iter.result _ c.sum.ensures.ran (YieldsList-from_slice xs cc) ∙ sum-cells xs

pub returns-clause-small : goal.returns-clause-small
returns-clause-small c =
    let xs = c.args.gains.now in
    let e = sum_from_yields_List c.iter.result c.sum.result c.sum.ensures.ran (YieldsList-from_slice xs cc) in
    omega (arith, e, sum-cells xs, sum_to-most (length xs) max_price (cells xs) c.requires.capped, c.requires.few)
