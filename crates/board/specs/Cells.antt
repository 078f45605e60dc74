-- The cells of a board, from 0: item k + 1 is cell k, bidder i + 1 is cell i. A cell past the end of a list reads as 0.
use Rattle.std.specs.Prelude.{Bool, not, List, ℕ, zero, suc, ◌*◌, get_or, take, drop, eqb}
use Rattle.board.specs.declared.record.Auction.{Auction}
use Rattle.board.specs.declared.record.Market.{Market}
use Rattle.board.specs.declared.record.State.{State}
use Rattle.board.specs.declared.record.Edge.{Edge}
use Rattle.board.specs.declared.units.Pence.{Pence}
use Rattle.board.specs.declared.units.Scaled.{Scaled}
use Rattle.board.specs.declared.record.Holder.{Holder}
use Rattle.board.specs.declared.record.Holder.TheVariants.{Held, Free}
use Rattle.board.specs.Limits.{max_items}

-- So many q-ths of a penny; so many pence; an edge
abbrev pub scaled : ℕ → Scaled
scaled y = record { 0 = y }

abbrev pub pence : ℕ → Pence
pence w = record { 0 = w }

abbrev pub edge : ℕ → ℕ → Edge
edge k w = record { item = k; weight = pence w }

-- A board of its parts
abbrev pub auction : Market → List ℕ → State → Auction
auction market weights state = record { market = market; state = state; weights = weights }

-- A board with another state: all that a bid changes
abbrev pub with_state : Auction → State → Auction
with_state b state = auction b.market b.weights state

-- A cell of a list of prices or gains
abbrev pub scaled_at : List Scaled → ℕ → ℕ
scaled_at ys k = (get_or ys k (scaled 0)).0

abbrev pub price_at : Auction → ℕ → ℕ
price_at b k = scaled_at b.state.price k

abbrev pub gain_at : Auction → ℕ → ℕ
gain_at b i = scaled_at b.state.gain i

-- The number of the bidder that holds an item, and 0 where nobody does
abbrev pub holder_at : Auction → ℕ → ℕ
holder_at b k = get_or b.state.holder k 0

-- The same, told apart
abbrev pub holder_of : ℕ → Holder
holder_of zero = Free
holder_of (suc i) = Held i

-- Whether an item is withdrawn: its cell is a byte, 0 where the item is not withdrawn
abbrev pub flag_at : List ℕ → ℕ → Bool
flag_at withdrawn k = not (eqb (get_or withdrawn k 0) 0)

abbrev pub withdrawn_at : Auction → ℕ → Bool
withdrawn_at b k = flag_at b.market.withdrawn k

-- The weights of a bidder's edges by item, and 0 where there is none: the rows of all bidders stand one after the other
abbrev pub row_in : List ℕ → ℕ → List ℕ
row_in weights i = take max_items (drop (i * max_items) weights)

abbrev pub row_at : Auction → ℕ → List ℕ
row_at b i = row_in b.weights i

abbrev pub weight_at : Auction → ℕ → ℕ → ℕ
weight_at b i k = get_or (row_at b i) k 0
