-- The test that a board is sound, computed: its parts in the order in which the code asks them, and that it decides soundness.
use Rattle.std.specs.Prelude.{Bool, true, not, cond, ◌&&◌, ◌||◌, List, ℕ, zero, suc, ◌+◌, ◌-◌, ◌*◌, length, get_or, eqb, ltb, leb}
use Rattle.duality.specs.Decide.{Decides, all_below}
use Rattle.board.specs.declared.record.Auction.{Auction}
use Rattle.board.specs.declared.units.Scaled.{Scaled}
use Rattle.board.specs.Limits.{max_items, max_bidders, max_weight}
use Rattle.board.specs.Cells.{scaled_at, price_at, gain_at, withdrawn_at, weight_at}
use Rattle.board.specs.Live.{held_by, matching_of}
use Rattle.board.specs.Ranges.{within_test, slack_test}
use Rattle.board.specs.Sound.{Sound}

-- The lists have the lengths of the record's arrays: true of every board that code can make
unfoldable pub formed_test : Auction → Bool
formed_test b =
    eqb (length b.state.price) max_items &&
    (eqb (length b.state.holder) max_items &&
    (eqb (length b.market.withdrawn) max_items && (eqb (length b.state.gain) max_bidders && eqb (length b.weights) (max_bidders * max_items))))

-- "counts, slack .. are within limits"
unfoldable pub limits_test : ℕ → ℕ → ℕ → ℕ → Bool
limits_test items arrived p q = within_test max_items items && (leb arrived max_bidders && slack_test 1 p q)

-- "the plan is a plan": whoever an item's cell names has arrived, and has that item and no other
unfoldable pub holder_test : List ℕ → ℕ → ℕ → ℕ → ℕ → Bool
holder_test holder items arrived k zero = true
holder_test holder items arrived k (suc i) = ltb i arrived && eqb (held_by holder items i) (suc k)

unfoldable pub holders_test : List ℕ → ℕ → ℕ → Bool
holders_test holder items arrived = all_below items (λ k. holder_test holder items arrived k (get_or holder k 0))

-- How high the byte may be that tells whether an item is withdrawn: past the count "unused cells are 0"
abbrev pub flag_limit : Bool → ℕ
flag_limit used = cond used 1 0

-- "unheld .. kettles have price 0", and an item past the count is unheld and not withdrawn ("unused cells are 0")
unfoldable pub item_test : Bool → ℕ → ℕ → ℕ → Bool
item_test used price holder flag = (not (eqb holder 0) || eqb price 0) && ((used || eqb holder 0) && leb flag (flag_limit used))

unfoldable pub items_test : List Scaled → List ℕ → List ℕ → ℕ → Bool
items_test price holder withdrawn items =
    all_below max_items (λ k. item_test (ltb k items) (scaled_at price k) (get_or holder k 0) (get_or withdrawn k 0))

-- The items at which a bidder may have edges: all of the board's, and none before it has arrived
abbrev pub used_by : Auction → ℕ → ℕ
used_by b i = cond (ltb i b.market.arrived) b.market.items 0

-- How heavy an edge may be at an item: "worths are within limits", and past the items used "unused cells are 0"
abbrev pub limit_at : ℕ → ℕ → ℕ
limit_at used k = cond (ltb k used) max_weight 0

-- "on every live entry gain plus price is at least (q - p) × w", where c is q - p
unfoldable pub edge_test : ℕ → ℕ → ℕ → Bool → ℕ → ℕ → Bool
edge_test c limit price withdrawn gain w = leb w limit && (withdrawn || leb (c * w) (gain + price))

unfoldable pub row_test : Auction → ℕ → Bool
row_test b i =
    all_below
    max_items
    (λ k. edge_test (b.market.slack.q - b.market.slack.p) (limit_at (used_by b i) k) (price_at b k) (withdrawn_at b k) (gain_at b i) (weight_at b i k))

-- A placed bidder has a live edge, and "gain plus its kettle's price is (q + p) × w", where d is q + p
unfoldable pub pair_test : ℕ → ℕ → ℕ → Bool → ℕ → Bool
pair_test d w price withdrawn gain = not withdrawn && (ltb 0 w && eqb (gain + price) (d * w))

-- "unplaced batches gain 0"
unfoldable pub place_test : Auction → ℕ → ℕ → Bool
place_test b i zero = eqb (gain_at b i) 0
place_test b i (suc k) = pair_test (b.market.slack.q + b.market.slack.p) (weight_at b i k) (price_at b k) (withdrawn_at b k) (gain_at b i)

unfoldable pub bidder_test : Auction → ℕ → Bool
bidder_test b i = row_test b i && place_test b i (matching_of b i)

-- "A board is sound if .."
unfoldable pub sound_test : Auction → Bool
sound_test b =
    formed_test b &&
    (limits_test b.market.items b.market.arrived b.market.slack.p b.market.slack.q &&
    (holders_test b.state.holder b.market.items b.market.arrived &&
    (items_test b.state.price b.state.holder b.market.withdrawn b.market.items && all_below max_bidders (bidder_test b))))

abbrev pub SoundTestDecides : Type 0
SoundTestDecides = (b : Auction) → Decides (sound_test b) (Sound b)
