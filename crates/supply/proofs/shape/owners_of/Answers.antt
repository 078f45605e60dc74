-- `shape::owners_of` meets its contract: each item has its own cell.
use Rattle.std.proofs.Common.{◌∙◌, arith}
use Rattle.places.proofs.PlaceLaws.{every-place-has-its-item}
use Rattle.supply.specs.Board.{places_in, item_at}
use Rattle.supply.proofs.Spreading.{row-cell}
use Rattle.supply.proofs.shape.owners_of.Goals as goal

pub returns : goal.returns
returns c = λ s l.
    rw c.spread_row.ensures (row-cell c.args.items c.loop-k.cells c.requires s l
    ∙ c.loop-k.invariant.cells (item_at c.args.items s) (omega (arith, (every-place-has-its-item (places_in c.args.items) c.args.items.count s l).0, c.requires.count)))
