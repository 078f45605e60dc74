-- How many items decide a withdrawal.
use Rattle.std.specs.Prelude.{◌≡◌, List, ℕ, take}
use Rattle.supply.specs.declared.record.Board.{Board}
use Rattle.board.specs.Limits.{max_edges}
use Rattle.auction.specs.Withdraw.{withdraw_of}

-- "strictly rising" at 64 kettles at most: of more items than that, one of the first 65 is refused, and what comes after is not looked at
abbrev pub EnoughItems : Type 0
EnoughItems = (b : Board) (items : List ℕ) → withdraw_of b items ≡ withdraw_of b (take max_edges items)
