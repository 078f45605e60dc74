-- The board's limits (the code's associated constants of Auction).
use Rattle.std.specs.Prelude.{ℕ, suc}

-- "A board takes at most 64 kettles and 128 batches in its life"
abbrev pub max_items : ℕ
max_items = 64

abbrev pub max_bidders : ℕ
max_bidders = 128

-- "Worths run from 1 to 1,000,000"
abbrev pub max_weight : ℕ
max_weight = 1000000

-- "The slack is p/q with 1 ≤ p < q ≤ 1,000"
abbrev pub max_q : ℕ
max_q = 1000

-- "Refusal 11's limit of 1,000,000,000 becomes 2,000,000,000" (document 02, R-7): the most that a price or a gain may be that was made elsewhere
abbrev pub max_price : ℕ
max_price = 2000000000

-- One edge, or named item, more than there are items: so many decide every refusal of an arrival or a withdrawal
abbrev pub max_edges : ℕ
max_edges = suc max_items

-- "text above 65,536 bytes"
abbrev pub max_text : ℕ
max_text = 65536

-- A cell of the weights holds less: it has 32 bits
abbrev pub word_limit : ℕ
word_limit = 4294967296
