-- A board on which nothing has happened.
use Rattle.std.specs.Prelude.{ℕ, ◌*◌, replicate}
use Rattle.board.specs.declared.record.Auction.{Auction}
use Rattle.board.specs.Limits.{max_items, max_bidders}
use Rattle.board.specs.Cells.{scaled}

-- A board of so many items, nothing arrived
unfoldable pub opened : ℕ → ℕ → ℕ → Auction
opened items p q =
    record {
      market = record { items = items; slack = record { p = p; q = q }; arrived = 0; withdrawn = replicate max_items 0 };
      state = record { price = replicate max_items (scaled 0); holder = replicate max_items 0; gain = replicate max_bidders (scaled 0) };
      weights = replicate (max_bidders * max_items) 0;
    }
