-- A matching, prices and gains by place, read by item: "Read-out gives a kettle's least price".
use Rattle.std.specs.Prelude.{◌≡◌, ℕ, ◌<◌}
use Rattle.duality.specs.Lists.{cells}
use Rattle.places.specs.Plan.{read_back}
use Rattle.places.specs.Total.{least_price}
use Rattle.board.specs.declared.lent.Columns.{Columns}
use Rattle.supply.specs.declared.record.Items.{Items}
use Rattle.supply.specs.Board.{places_in}

-- d is c read by item, for so many bidders
pub record ReadByItem (items : Items) (bidders : ℕ) (c d : Columns) : Type 0 where
  pub plan : (i : ℕ) → i < bidders → cells d.plan i ≡ read_back (places_in items) items.count (cells c.plan) i
  pub prices : (k : ℕ) → k < items.count → cells d.prices k ≡ least_price (places_in items) (cells c.prices) k
  pub gains : d.gains ≡ c.gains
