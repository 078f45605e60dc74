-- What holds by item on every sound board.
use Rattle.std.specs.Prelude.{◌≡◌, ℕ, ◌+◌, ◌-◌, ◌<◌}
use Rattle.duality.specs.Matching.{IsMatching}
use Rattle.duality.specs.Cover.{Covers, Tight}
use Rattle.places.specs.Places.{Ones, HasPlaces, places_to, spread_weights, AtItem}
use Rattle.places.specs.Plan.{IsPlan}
use Rattle.places.specs.GreatestWeightWith.{greatest_with}
use Rattle.duality.specs.Greatest.{greatest_weight}
use Rattle.board.specs.Cells as place
use Rattle.board.specs.Live as placed
use Rattle.supply.specs.declared.record.Board.{Board}
use Rattle.supply.specs.Board.{auction_of, places_at, start_in}
use Rattle.supply.specs.ByItem.{withdrawn_at, weight_at, live, price_at, matching_of, matching_weight}
use Rattle.supply.specs.Sound.{Sound}

-- A place of item k + 1 has the edges of the item, live or not, and is withdrawn where the item is
pub record AsItem (b : Board) (k s : ℕ) : Type 0 where
  pub below : s < b.market.items
  pub edges : (i : ℕ) → i < b.market.arrived → place.weight_at (auction_of b) i s ≡ weight_at b i k
  pub withdrawn : place.withdrawn_at (auction_of b) s ≡ withdrawn_at b k
  pub live : (i : ℕ) → i < b.market.arrived → placed.live (auction_of b) i s ≡ live b i k

abbrev pub PlacesAsItem : Type 0
PlacesAsItem = (b : Board) (k s : ℕ) → Sound b → k < b.items.count → AtItem (places_at b) k s → AsItem b k s

-- Every item has a first place
abbrev pub FirstPlace : Type 0
FirstPlace = (b : Board) (k : ℕ) → Sound b → k < b.items.count → AtItem (places_at b) k (start_in b.items k)

-- Over places, with the weights by item: what soundness says of matching, prices and gains
pub record OverPlaces (b : Board) : Type 0 where
  pub some : HasPlaces b.items.count (places_at b)
  pub matches : IsMatching b.market.arrived (places_to (places_at b) b.items.count) (spread_weights (places_at b) b.items.count (live b))
      (placed.matching_of (auction_of b))
  pub tight : Tight b.market.arrived (places_to (places_at b) b.items.count) (spread_weights (places_at b) b.items.count (live b))
      (b.market.slack.q + b.market.slack.p) (placed.matching_of (auction_of b)) (place.price_at (auction_of b)) (place.gain_at (auction_of b))
  pub covers : Covers b.market.arrived (places_to (places_at b) b.items.count) (spread_weights (places_at b) b.items.count (live b))
      (b.market.slack.q - b.market.slack.p) (place.price_at (auction_of b)) (place.gain_at (auction_of b))
  -- The matching, read by item, is a plan, and weighs the same
  pub plans : IsPlan b.market.arrived b.items.count (places_at b) (live b) (matching_of b)
  pub weighs : matching_weight b ≡ placed.matching_weight (auction_of b)
  -- The greatest weight by item is that by place
  pub greatest : greatest_with b.market.arrived b.items.count (places_at b) (live b) ≡
      greatest_weight b.market.arrived b.market.items (placed.live (auction_of b))

abbrev pub SoundOverPlaces : Type 0
SoundOverPlaces = (b : Board) → Sound b → OverPlaces b

-- Where every item has one place, places are items, and a board says by item what its auction says by place
pub record AsAuction (b : Board) : Type 0 where
  pub items : b.market.items ≡ b.items.count
  pub start : (k : ℕ) → k < b.items.count → start_in b.items k ≡ k
  pub withdrawn : (k : ℕ) → k < b.items.count → withdrawn_at b k ≡ place.withdrawn_at (auction_of b) k
  pub price : (k : ℕ) → k < b.items.count → price_at b k ≡ place.price_at (auction_of b) k
  pub live : (i k : ℕ) → k < b.items.count → live b i k ≡ placed.live (auction_of b) i k
  pub matching : (i : ℕ) → i < b.market.arrived → matching_of b i ≡ placed.matching_of (auction_of b) i

abbrev pub OnesAsAuction : Type 0
OnesAsAuction = (b : Board) → Sound b → Ones b.items.count (places_at b) → AsAuction b
