-- `lent::sum` meets its contract. No part of the sum is larger than the whole.
use Rattle.std.proofs.Common.{◌∙◌, take, arith}
use Rattle.std.proofs.lemmas.Iterator.{YieldsList-from_slice}
use Rattle.std.proofs.lemmas.Iterator.Consumers.{sum_from_yields_List, fits_from_yields_list}
use Rattle.board.proofs.Sums.{sum-take}
use Rattle.board.proofs.lent.sum.Goals as goal

pub sum-requires-clause-fits : goal.sum-requires-clause-fits
sum-requires-clause-fits c =
    let xs = c.args.numbers.now in
    fits_from_yields_list c.iter.result _ (YieldsList-from_slice (take c.args.n xs) cc) (omega (arith, sum-take xs c.args.n c.requires.part, c.requires.small))

pub returns : goal.returns
returns c =
    let xs = c.args.numbers.now in
    sum_from_yields_List c.iter.result _ c.sum.ensures.ran (YieldsList-from_slice (take c.args.n xs) cc) ∙ sum-take xs c.args.n c.requires.part
