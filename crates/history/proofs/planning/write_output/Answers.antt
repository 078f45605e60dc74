-- `planning::write_output` meets its contract.
use Prim.Native.Nat.{◌≤◌}
use borrow.Author.Rules.{rules}
use Rattle.text.specs.Print.{Put}
use Rattle.history.specs.Limits.{max_output}
use Rattle.history.specs.Output.{output_of}
use Rattle.history.proofs.Plans.{page-put}
use Rattle.history.proofs.planning.write_output.Goals as goal

pub returns : goal.returns
returns c =
    let (after, n, gave, e) = c.fit_put.ensures in
    let p : Put gave.shown.now gave.left.now 0 (output_of c.args.board.now c.args.bids) n = search rules in
    let few : n ≤ max_output = search rules in
    page-put c.args.out.now _ _ (rw (gave.shows, gave.leaves) at p) few e
