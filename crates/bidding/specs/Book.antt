-- A state told by plain numbers: prices and gains, each so many q-ths of a penny. While a chain of bids runs the code changes the state's own lists.
use Rattle.std.specs.Prelude.{List, map, ℕ}
use Rattle.board.specs.declared.record.State.{State}
use Rattle.board.specs.declared.units.Scaled.{Scaled}
use Rattle.board.specs.Cells.{scaled}

abbrev pub units : List ℕ → List Scaled
units ys = map scaled ys

-- The state that they are
abbrev pub state_of : List ℕ → List ℕ → List ℕ → State
state_of prices holders gains = record { price = units prices; holder = holders; gain = units gains }
