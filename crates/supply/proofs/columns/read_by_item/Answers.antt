-- `columns::read_by_item` meets its contract.
use mathlib.Core.Path.{refl, ◌∙◌}
use native.Mathlib.Omega.{arith}
use Rattle.duality.specs.Lists.{cells}
use Rattle.supply.proofs.Reading.{read_cell}
use Rattle.supply.proofs.columns.read_by_item.Goals as goal

pub plan_by_item-requires : goal.plan_by_item-requires
plan_by_item-requires c = record { bidders = c.requires.bidders; plan = λ i l. omega (arith, c.requires.plan i l, c.requires.fits.all) }

pub returns : goal.returns
returns c =
    record {
      plan = λ i l. c.plan_by_item.ensures i l ∙
          read_cell c.args.items c.owners_of-owner.result (cells c.args.columns.plan) i c.owners_of-owner.ensures (c.requires.plan i l);
      prices = c.prices_by_item.ensures;
      gains = refl;
    }
