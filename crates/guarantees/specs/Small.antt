-- Small sheets come out exact (document 02, R-8): "Village kitchens enter worths in pounds."
use Rattle.std.specs.Prelude.{◌≡◌, ◌↔◌, List, [], ◌∷◌, ◌++◌, ℕ, ◌+◌, ◌-◌, ◌*◌, ◌≤◌, ◌<◌, replicate, set}
use Rattle.duality.specs.Matching.{weight_of}
use Rattle.places.specs.Plan.{IsPlan}
use Rattle.board.specs.Limits.{max_items, max_bidders}
use Rattle.board.specs.Cells.{scaled}
use Rattle.supply.specs.declared.record.Board.{Board}
use Rattle.supply.specs.Board.{places_at}
use Rattle.supply.specs.ByItem.{live, withdrawn_at, gain_at, price_at, matching_of, matching_weight}
use Rattle.supply.specs.Sound.{Sound}
use Rattle.replay.specs.TextDemand1.{TextFinished}
use Rattle.replay.specs.ReplayLaws.{TextReached}
use Rattle.hungarian.specs.Exact.{greatest_on}
use Rattle.history.specs.Output.{bidder_lines, item_lines, last_lines, sum_of}
use Rattle.history.specs.Plan.{sheet_of}

-- "Where 2 × p times the greatest worth of a plan on the live sheet, line `E`, is below q + p"
abbrev pub Small : Board → Type 0
Small b = 2 * b.market.slack.p * greatest_on b < b.market.slack.q + b.market.slack.p

-- "the quick plan must be shown to have greatest worth": the board's own plan is one on its live sheet, is worth the greatest worth, and no plan on that
-- sheet is worth more
pub record QuickIsBest (b : Board) : Type 0 where
  pub plan : IsPlan b.market.arrived b.items.count (places_at b) (live b) (matching_of b)
  pub greatest : matching_weight b ≡ greatest_on b
  pub best : (other : ℕ → ℕ) → IsPlan b.market.arrived b.items.count (places_at b) (live b) other → weight_of b.market.arrived (live b) other ≤ matching_weight b

-- The quick plan is a best one on every sound board, also one that no history reaches, of which P holds
abbrev pub BestWhere : (Board → Type 0) → Type 0
BestWhere P = (b : Board) → Sound b → P b → QuickIsBest b

abbrev pub SmallIsExact : Type 0
SmallIsExact = BestWhere Small

-- The same as a bound on the slack, for whoever picks one: a sheet whose greatest worth is e is small exactly at slacks below 1/(2 × e - 1), so at 1/q up to q/2
pub record BySlack (b : Board) : Type 0 where
  pub below : Small b ↔ (b.market.slack.p * (2 * greatest_on b - 1) < b.market.slack.q)
  pub one : b.market.slack.p ≡ 1 → Small b ↔ (2 * greatest_on b ≤ b.market.slack.q)

abbrev pub SmallBySlack : Type 0
SmallBySlack = (b : Board) → Sound b → BySlack b

-- Of what is printed, of every text that is carried out to its end: where the number in line `E` is so small, the worth in line `T` is that number
abbrev pub SmallPrinted : Type 0
SmallPrinted =
    (s : List ℕ) (b : Board) (entries bids : ℕ) → TextFinished s b entries bids → Small b →
    sheet_of s ≡
    bidder_lines (matching_of b) (gain_at b) b.market.arrived
    ++ (item_lines (withdrawn_at b) (price_at b) b.items.count
    ++ last_lines (greatest_on b) (sum_of b) bids (greatest_on b))

-- ---- "is below": where the two are equal the quick plan may be worth less

-- Slack 1/3. One item, at price 4, is held by bidder 1, of weight 1, with gain 0; bidder 2, of weight 2, is unplaced
unfoldable pub sharp : Board
sharp =
    record {
      items = record { count = 1; places = set (replicate max_items 0) 0 1 };
      market = record { items = 1; slack = record { p = 1; q = 3 }; arrived = 2; withdrawn = replicate max_items 0 };
      state = record { price = set (replicate max_items (scaled 0)) 0 (scaled 4); holder = set (replicate max_items 0) 0 1; gain = replicate max_bidders (scaled 0) };
      weights = set (set (replicate (max_bidders * max_items) 0) 0 1) max_items 2;
    }

-- K, 1, 1, 3; A, 1, 1; A, 1, 2
abbrev pub sharp_text : List ℕ
sharp_text = (75 ∷ 9 ∷ 49 ∷ 9 ∷ 49 ∷ 9 ∷ 51 ∷ 10 ∷ []) ++ ((65 ∷ 9 ∷ 49 ∷ 9 ∷ 49 ∷ 10 ∷ []) ++ (65 ∷ 9 ∷ 49 ∷ 9 ∷ 50 ∷ 10 ∷ []))

-- P, 1, 1, 0; P, 2, 0, 0; Y, 1, 4; T, 1, 4, 1; E, 2
abbrev pub sharp_printed : List ℕ
sharp_printed =
    (80 ∷ 9 ∷ 49 ∷ 9 ∷ 49 ∷ 9 ∷ 48 ∷ 10 ∷ []) ++
    ((80 ∷ 9 ∷ 50 ∷ 9 ∷ 48 ∷ 9 ∷ 48 ∷ 10 ∷ []) ++
    ((89 ∷ 9 ∷ 49 ∷ 9 ∷ 52 ∷ 10 ∷ []) ++ ((84 ∷ 9 ∷ 49 ∷ 9 ∷ 52 ∷ 9 ∷ 49 ∷ 10 ∷ []) ++ (69 ∷ 9 ∷ 50 ∷ 10 ∷ []))))

pub record SmallIsSharp : Type 0 where
  pub sound : Sound sharp
  pub equal : 2 * sharp.market.slack.p * greatest_on sharp ≡ sharp.market.slack.q + sharp.market.slack.p
  pub less : matching_weight sharp < greatest_on sharp
  -- So with "at most" in the place of "below" the statement is false
  pub false : BestWhere (λ b. 2 * b.market.slack.p * greatest_on b ≤ b.market.slack.q + b.market.slack.p) → ⊥
  -- A text's lines reach that board, and `T` is printed with 1, `E` with 2
  pub text : TextReached sharp_text sharp 1
  pub printed : sheet_of sharp_text ≡ sharp_printed
