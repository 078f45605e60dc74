-- `rule::offer` meets its contract.
use mathlib.Core.Path.{sym, ◌∙◌}
use borrow.Author.Tests.{ltb-true, ltb-false}
use Rattle.bidding.proofs.Offers.{take_below, take-above}
use Rattle.bidding.proofs.rule.offer.Goals as goal

pub returns-then-not-exceeds-clause-taken : goal.returns-then-not-exceeds-clause-taken
returns-then-not-exceeds-clause-taken c =
    take_below _ _ _ _ _ _ _ _ c.args.leader.fits (λ _. c.requires.rated.offered) (ltb-false _ _ (sym c.if-not-exceeds.ensures))

pub returns-clause-taken : goal.returns-clause-taken
returns-clause-taken c = c.overtaken.ensures.ranked ∙ take-above _ _ _ _ _ _ _ (ltb-true _ _ (sym c.if-not-exceeds.ensures)) c.utility-utility.ensures
