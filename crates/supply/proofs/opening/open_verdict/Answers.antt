-- `opening::open_verdict` meets its contract: counts that passed can be added.
use mathlib.Core.Path.{sym, ◌∙◌}
use Rattle.supply.proofs.Openings.{open_kept}
use Rattle.supply.proofs.opening.open_verdict.Goals as goal

pub sum_of-requires : goal.sum_of-requires
sum_of-requires c = open_kept _ _ (sym c.is_within.ensures.test ∙ c.if-not-is_within.false) c.if-counts-items.false c.counts_verdict.ensures c.in_ok-counts_verdict.was
