-- What each part of the soundness test decides.
use mathlib.Core.Path.{◌≡◌, refl}
use mathlib.Core.Bool.{Bool, true, false}
use mathlib.Core.List.{List}
use Prim.Native.Nat.{ℕ, zero, suc, ◌+◌, ◌-◌, ◌*◌, ◌≤◌, ◌<◌}
use native.Mathlib.Nat.{suc_inj}
use native.Mathlib.Omega.{arith}
use lib.ListN.{length, get_or}
use lib.Dec.{ltb}
use borrow.Author.Tests.{lt-ltb, le-ltb, not-false, eqb-true, eq-eqb}
use Rattle.duality.specs.Decide.{Decides}
use Rattle.duality.proofs.Decide.{le-decides, lt-decides, eq-decides, true-decides, not-decides, and-decides, or-decides, all-decides, reword}
use Rattle.board.specs.declared.record.Auction.{Auction}
use Rattle.board.specs.declared.units.Scaled.{Scaled}
use Rattle.board.specs.Limits.{max_items, max_bidders, max_weight}
use Rattle.board.specs.Cells.{scaled_at, price_at, gain_at, withdrawn_at, weight_at}
use Rattle.board.specs.Live.{matching_of}
use Rattle.board.specs.Sound.{Formed}
use Rattle.board.specs.Ranges.{Within, SlackIn}
use Rattle.board.proofs.Tests.{within-decides, slack-decides}
use Rattle.board.specs.SoundTest.{formed_test, limits_test, holders_test, flag_limit, item_test, items_test, used_by, limit_at, edge_test, row_test, pair_test, place_test, bidder_test, sound_test}

pub formed-decides : (b : Auction) → Decides (formed_test b) (Formed b)
unfolding formed_test
formed-decides b =
    reword
    (and-decides
    (eq-decides (length b.state.price) max_items)
    (and-decides
    (eq-decides (length b.state.holder) max_items)
    (and-decides
    (eq-decides (length b.market.withdrawn) max_items)
    (and-decides (eq-decides (length b.state.gain) max_bidders) (eq-decides (length b.weights) (max_bidders * max_items))))))
    (λ h. record { prices = h.0; holders = h.1.0; flags = h.1.1.0; gains = h.1.1.1.0; rows = h.1.1.1.1 })
    (λ h. (h.prices, (h.holders, (h.flags, (h.gains, h.rows)))))

-- Counts and slack within limits
pub record InLimits (m n p q : ℕ) : Type 0 where
  pub items : Within 1 max_items m
  pub arrived : n ≤ max_bidders
  pub slack : SlackIn 1 p q

pub limits-decide : (m n p q : ℕ) → Decides (limits_test m n p q) (InLimits m n p q)
unfolding limits_test
limits-decide m n p q =
    reword (and-decides (within-decides max_items m) (and-decides (le-decides n max_bidders) (slack-decides 1 p q)))
    (λ h. record { items = h.0; arrived = h.1.0; slack = h.1.1 })
    (λ h. (h.items, (h.arrived, h.slack)))

-- An item's cells: price 0 where nobody holds it, a flag of 0 or 1, and nothing at all past the count
pub record Item (used : Bool) (price holder flag : ℕ) : Type 0 where
  pub unheld : holder ≡ 0 → price ≡ 0
  pub unused : used ≡ false → holder ≡ 0
  pub flagged : flag ≤ flag_limit used

pub item-decides : (used : Bool) (price holder flag : ℕ) → Decides (item_test used price holder flag) (Item used price holder flag)
unfolding item_test
item-decides used price holder flag =
    reword
    (and-decides (or-decides (eq-decides price 0)) (and-decides (or-decides (eq-decides holder 0)) (le-decides flag (flag_limit used))))
    (λ h. record { unheld = λ e. h.0 (rw (eq-eqb holder 0 e)); unused = h.1.0; flagged = h.1.1 })
    (λ h. (λ t. h.unheld (eqb-true holder 0 (not-false _ t)), (h.unused, h.flagged)))

-- A held item is one of the board's
pub held-used : (used : Bool) (price holder flag : ℕ) → Item used price holder flag → (holder ≡ 0 → ⊥) → used ≡ true
held-used true price holder flag h held = refl
held-used false price holder flag h held = absurd (held (h.unused refl))

pub items-decide : (price : List Scaled) (holder withdrawn : List ℕ) (items : ℕ) → Decides (items_test price holder withdrawn items)
    ((k : ℕ) → k < max_items → Item (ltb k items) (scaled_at price k) (get_or holder k 0) (get_or withdrawn k 0))
unfolding items_test
items-decide price holder withdrawn items =
    all-decides max_items _ _ (λ k. item-decides (ltb k items) (scaled_at price k) (get_or holder k 0) (get_or withdrawn k 0))

-- The limit of a flag, at an item that is used and past these
pub flag-used : (items k : ℕ) → k < items → flag_limit (ltb k items) ≡ 1
flag-used items k l = rw (lt-ltb k items l)

pub flag-past : (items k : ℕ) → items ≤ k → flag_limit (ltb k items) ≡ 0
flag-past items k l = rw (le-ltb k items l)

-- The limit of a weight, at an item that is used and past these
pub limit-used : (used k : ℕ) → k < used → limit_at used k ≡ max_weight
limit-used used k l = rw (lt-ltb k used l)

pub limit-past : (used k : ℕ) → used ≤ k → limit_at used k ≡ 0
limit-past used k l = rw (le-ltb k used l)

pub used-arrived : (b : Auction) (i : ℕ) → i < b.market.arrived → used_by b i ≡ b.market.items
used-arrived b i l = rw (lt-ltb i b.market.arrived l)

pub used-absent : (b : Auction) (i : ℕ) → b.market.arrived ≤ i → used_by b i ≡ 0
used-absent b i l = rw (le-ltb i b.market.arrived l)

-- A cell of a row: a weight within its limit, and covered unless the item is withdrawn
pub record EdgeHolds (c limit price : ℕ) (withdrawn : Bool) (gain w : ℕ) : Type 0 where
  pub light : w ≤ limit
  pub covered : withdrawn ≡ false → c * w ≤ gain + price

pub edge-decides : (c limit price : ℕ) (withdrawn : Bool) (gain w : ℕ) →
    Decides (edge_test c limit price withdrawn gain w) (EdgeHolds c limit price withdrawn gain w)
unfolding edge_test
edge-decides c limit price withdrawn gain w =
    reword
    (and-decides (le-decides w limit) (or-decides (le-decides (c * w) (gain + price))))
    (λ h. record { light = h.0; covered = h.1 })
    (λ h. (h.light, h.covered))

abbrev pub EdgeAt : Auction → ℕ → ℕ → Type 0
EdgeAt b i k =
    EdgeHolds (b.market.slack.q - b.market.slack.p) (limit_at (used_by b i) k) (price_at b k) (withdrawn_at b k) (gain_at b i) (weight_at b i k)

pub row-decides : (b : Auction) (i : ℕ) → Decides (row_test b i) ((k : ℕ) → k < max_items → EdgeAt b i k)
unfolding row_test
row-decides b i = all-decides max_items _ (EdgeAt b i) (λ k. edge-decides _ _ _ _ _ _)

-- A live edge of which gain and price are d times the weight
pub record Pair (d w price : ℕ) (withdrawn : Bool) (gain : ℕ) : Type 0 where
  pub live : withdrawn ≡ false
  pub edge : 0 < w
  pub whole : gain + price ≡ d * w

pub pair-decides : (d w price : ℕ) (withdrawn : Bool) (gain : ℕ) → Decides (pair_test d w price withdrawn gain) (Pair d w price withdrawn gain)
unfolding pair_test
pair-decides d w price withdrawn gain =
    reword
    (and-decides (not-decides withdrawn) (and-decides (lt-decides 0 w) (eq-decides (gain + price) (d * w))))
    (λ h. record { live = h.0; edge = h.1.0; whole = h.1.1 })
    (λ h. (h.live, (h.edge, h.whole)))

-- A bidder at an item, by its cell of the matching, or at none
abbrev pub PairAt : Auction → ℕ → ℕ → Type 0
PairAt b i k = Pair (b.market.slack.q + b.market.slack.p) (weight_at b i k) (price_at b k) (withdrawn_at b k) (gain_at b i)

pub record Place (b : Auction) (i c : ℕ) : Type 0 where
  pub unplaced : c ≡ 0 → gain_at b i ≡ 0
  pub placed : (k : ℕ) → c ≡ suc k → PairAt b i k

pub place-decides : (b : Auction) (i c : ℕ) → Decides (place_test b i c) (Place b i c)
unfolding place_test
place-decides b i zero =
    reword (eq-decides (gain_at b i) 0) (λ e. record { unplaced = λ z. e; placed = λ k z. absurd (omega arith) }) (λ h. h.unplaced refl)
place-decides b i (suc k) =
    reword
    (pair-decides _ _ _ _ _)
    (λ h. record { unplaced = λ z. absurd (omega arith); placed = λ j e. rw (← suc_inj e) h })
    (λ h. h.placed k refl)

-- The whole test, part by part
pub record Parts (b : Auction) : Type 0 where
  pub formed : formed_test b ≡ true
  pub limits : limits_test b.market.items b.market.arrived b.market.slack.p b.market.slack.q ≡ true
  pub holders : holders_test b.state.holder b.market.items b.market.arrived ≡ true
  pub items : items_test b.state.price b.state.holder b.market.withdrawn b.market.items ≡ true
  pub bidders : (i : ℕ) → i < max_bidders → (row_test b i ≡ true) × (place_test b i (matching_of b i) ≡ true)

pub parts-decide : (b : Auction) → Decides (sound_test b) (Parts b)
unfolding sound_test bidder_test
parts-decide b =
    reword
    (and-decides
    (true-decides (formed_test b))
    (and-decides
    (true-decides (limits_test b.market.items b.market.arrived b.market.slack.p b.market.slack.q))
    (and-decides
    (true-decides (holders_test b.state.holder b.market.items b.market.arrived))
    (and-decides
    (true-decides (items_test b.state.price b.state.holder b.market.withdrawn b.market.items))
    (all-decides
    max_bidders
    (bidder_test b)
    (λ i. (row_test b i ≡ true) × (place_test b i (matching_of b i) ≡ true))
    (λ i. and-decides (true-decides (row_test b i)) (true-decides (place_test b i (matching_of b i)))))))))
    (λ h. record { formed = h.0; limits = h.1.0; holders = h.1.1.0; items = h.1.1.1.0; bidders = h.1.1.1.1 })
    (λ h. (h.formed, (h.limits, (h.holders, (h.items, h.bidders)))))
