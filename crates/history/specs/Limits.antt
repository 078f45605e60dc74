-- The lengths of what is printed.
use Rattle.std.specs.Prelude.{ℕ, ◌+◌, ◌*◌}
use Rattle.text.specs.Limits.{max_line}
use Rattle.board.specs.Limits.{max_items, max_bidders}

-- No output is longer: a line for each bidder and each item, and two more (the code's MAX_OUTPUT)
abbrev pub max_output : ℕ
max_output = max_line * (max_bidders + max_items + 2)
