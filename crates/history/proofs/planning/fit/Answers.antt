-- `planning::fit` meets its contract: all of the bytes, or nothing.
use native.Mathlib.Omega.{arith}
use borrow.Author.Rules.{rules}
use Rattle.history.proofs.Plans.{page-short, page-written}
use Rattle.history.proofs.planning.fit.Goals as goal

pub returns-then-out-n : goal.returns-then-out-n
returns-then-out-n c = let a = c.args in page-short a.page.now a.out.now a.n (omega arith) (omega arith)

pub returns : goal.returns
returns c =
    let a = c.args in
    page-written a.page.now a.out.now _ a.n (omega arith) (omega arith) (search rules)
