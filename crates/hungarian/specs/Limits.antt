-- The solver's own limit (src/limits.rt). The others are the board's.
use Rattle.std.specs.Prelude.{ℕ, suc}
use Rattle.board.specs.Limits.{max_weight}

-- The excess of an item to which no edge has been looked at: more than any gain
abbrev pub unreached : ℕ
unreached = suc max_weight
