-- `rule::RatedRow::look_at` meets its contract.
use Rattle.bidding.proofs.Offers.{take-skipped}
use Rattle.bidding.proofs.rule.RatedRow.look_at.Goals as goal

pub returns-then-self-k-clause-taken : goal.returns-then-self-k-clause-taken
returns-then-self-k-clause-taken c =
    take-skipped _ _ _ _ _ _ _ _ _ _ _ _ c.args.leader.fits c.requires.rounds (c.args.self.now.rates _ c.requires.item) c.if-self-k.true
