-- `planning::refusal_line` meets its contract.
use Prim.Native.Nat.{◌≤◌}
use native.Mathlib.Omega.{arith}
use borrow.Author.Rules.{rules}
use Rattle.text.specs.Limits.{max_line}
use Rattle.text.specs.Print.{Put}
use Rattle.history.specs.Output.{refusal_line}
use Rattle.history.proofs.Plans.{page-put}
use Rattle.history.proofs.planning.refusal_line.Goals as goal

pub returns : goal.returns
returns c =
    let (after, n, gave, e) = c.fit_put.ensures in
    let p : Put gave.shown.now gave.left.now 0 (refusal_line c.args.number c.args.line) n = search rules in
    let few : n ≤ max_line = search rules in
    page-put c.args.out.now _ _ (rw (gave.shows, gave.leaves) at p) (omega (arith, few)) e
