-- `opening::sum_of` meets its contract: each of so many counts is within its limit.
use native.Mathlib.Omega.{arith}
use Rattle.supply.proofs.Openings.{counts-sum}
use Rattle.supply.proofs.opening.sum_of.Goals as goal

pub sum-requires : goal.sum-requires
sum-requires c = record { part = omega arith; small = omega (arith, counts-sum c.requires) }

pub returns : goal.returns
returns c = record { sum = c.sum.ensures; small = omega (arith, counts-sum c.requires, c.sum.ensures) }
