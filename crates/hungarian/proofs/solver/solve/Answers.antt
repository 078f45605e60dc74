-- `solve` meets its contract: what is settled is solved.
use mathlib.Core.Path.{sym, ap₂, subst₂}
use Prim.Native.Nat.{◌+◌, ◌*◌, ◌≤◌}
use native.Mathlib.Nat.{le_refl}
use native.Mathlib.Omega.{arith}
use borrow.Author.Rules.{rules}
use Rattle.duality.specs.Lists.{cells}
use Rattle.board.specs.Limits.{max_items, max_bidders, word_limit}
use Rattle.hungarian.specs.Weights.{matrix_at}
use Rattle.hungarian.specs.Settled.{Settled}
use Rattle.hungarian.proofs.Solving.{once-few, turned_by, solved}
use Rattle.hungarian.proofs.Widening.{widened-sum}
use Rattle.hungarian.proofs.solver.solve.Goals as goal

pub sum-requires-2 : goal.sum-requires-2
sum-requires-2 c = record { part = search rules; small = omega (arith, widened-sum _ _ c.requires.few c.wide-gains.ensures.small) }

pub overflow_add-weight : goal.overflow_add-weight
overflow_add-weight c =
    let a : c.sum.result ≤ max_bidders * word_limit = rw c.sum.ensures (widened-sum max_items _ (omega arith) c.wide-prices.ensures.small) in
    let b : c.sum-2.result ≤ max_bidders * word_limit = rw c.sum-2.ensures (widened-sum _ _ c.requires.few c.wide-gains.ensures.small) in
    search rules

pub matching_of-requires : goal.matching_of-requires
matching_of-requires c =
    record { items = le_refl max_items; holders = λ k l. once-few c.requires.few c.settle-settled.ensures.held k }

pub returns : goal.returns
returns c =
    let a = c.args in
    let settled-as = subst₂ (λ y g. Settled (matrix_at a.weights.now) y g (cells c.settle-settled.result.holder) a.bidders)
    (sym c.wide-prices.ensures.cells) (sym c.wide-gains.ensures.cells) c.settle-settled.ensures in
    solved settled-as (turned_by c.settle-settled.result.holder c.matching_of.result c.settle-settled.ensures.held c.matching_of.ensures)
    (ap₂ ◌+◌ c.sum.ensures c.sum-2.ensures)
