-- `edges::edges_verdict` meets its contract: what is left to test says the same as all.
use mathlib.Core.Path.{◌∙◌}
use Rattle.refusals.proofs.Verdicts.{passed_up}
use Rattle.refusals.proofs.Each.{each_start, each_on, each-stop, each-end}
use Rattle.auction.proofs.edges.edges_verdict.Goals as goal

pub loop-i-init : goal.loop-i-init
loop-i-init c = each_start

pub returns-in_err-edge_verdict : goal.returns-in_err-edge_verdict
returns-in_err-edge_verdict c =
    passed_up c.from_residual.result c.in_err-edge_verdict.was c.from_residual.ensures.1 ∙ each-stop c.loop-i.invariant c.loop-i-test.true c.edge_verdict.ensures c.in_err-edge_verdict.was

pub loop-i-preserved : goal.loop-i-preserved
loop-i-preserved c =
    each_on c.loop-i.invariant c.loop-i-test.true c.edge_verdict.ensures c.in_ok-edge_verdict.was

pub returns : goal.returns
returns c = each-end c.loop-i.invariant c.loop-i-test.false
