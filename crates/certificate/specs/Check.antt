-- What the check answers, on all inputs.
use Rattle.std.specs.Prelude.{◌≡◌, Bool, true, not, ◌&&◌, ◌||◌, List, ◌∷◌, ◌++◌, ℕ, suc, ◌+◌, ◌-◌, ◌*◌, ◌≤◌, ◌<◌, length, eqb, leb, Result, Ok, Err}
use Rattle.duality.specs.Matching.{weight_of}
use Rattle.places.specs.Total.{total_with}
use Rattle.duality.specs.Decide.{all_below}
use Rattle.duality.specs.Lists.{cells}
use Rattle.supply.specs.declared.record.Board.{Board}
use Rattle.refusals.specs.declared.Refusal.{Refusal}
use Rattle.refusals.specs.declared.Refusal.TheVariants.{Slack, Uneven, Clash, Price, Bare, Spoilt}
use Rattle.refusals.specs.declared.Told.{Told}
use Rattle.refusals.specs.Told.{refused}
use Rattle.supply.specs.Board.{places_at}
use Rattle.supply.specs.ByItem.{withdrawn_at, live}
use Rattle.board.specs.declared.units.Pence.{Pence}
use Rattle.board.specs.declared.units.Scaled.{Scaled}
use Rattle.board.specs.Cells.{pence, scaled}
use Rattle.supply.specs.Sound.{Sound}
use Rattle.board.specs.Ranges.{SlackIn, slack_test}
use Rattle.supply.specs.SoundTest.{sound_test}
use Rattle.refusals.specs.Demand1.{Check, check_for, first_of, Verdict}
use Rattle.refusals.specs.Each.{cell_checks}
use Rattle.board.specs.Lent.{Lists}
use Rattle.certificate.specs.declared.Totals.{Totals}
use Rattle.board.specs.Limits.{max_price}
use Rattle.matching.specs.Clash.{Clashes, clash_checks}

-- ---- The rows of the table, in its words. The lists are read by cell: bidder i + 1 is cell i, item k + 1 is cell k.

-- "a list to be checked has another length": a cell per bidder, per item, per bidder
pub record Even (b : Board) (l : Lists) : Type 0 where
  pub plan : length l.plan ≡ b.market.arrived
  pub prices : length l.prices ≡ b.items.count
  pub gains : length l.gains ≡ b.market.arrived

-- "above 2,000,000,000 (document 02, R-7), or a withdrawn kettle's not 0"
pub data PriceBad (b : Board) (prices : ℕ → ℕ) (k : ℕ) : Type 0 where
  high : max_price < prices k → PriceBad b prices k
  gone : withdrawn_at b k ≡ true → 0 < prices k → PriceBad b prices k

-- "a live entry not covered"
pub record Uncovered (b : Board) (p q : ℕ) (prices gains : ℕ → ℕ) (i : ℕ) : Type 0 where
  pub item : ℕ
  pub below : item < b.items.count
  pub edge : 0 < live b i item
  pub short : gains i + prices item < (q - p) * live b i item

pub data CheckMet (b : Board) (l : Lists) (p q : ℕ) : Refusal → Type 0 where
  -- "the board handed in is not sound"
  spoilt : (Sound b → ⊥) → CheckMet b l p q Spoilt
  -- "p or q outside its range", here with p from 0
  slack : (SlackIn 0 p q → ⊥) → CheckMet b l p q Slack
  uneven : (Even b l → ⊥) → CheckMet b l p q Uneven
  -- The place is the bidder's number
  clash : {i : ℕ} → i < b.market.arrived → Clashes b (cells l.plan) i → CheckMet b l p q (Clash (suc i))
  -- The place is the item's number, "or k + batch for a gain"
  price : {k : ℕ} → k < b.items.count → PriceBad b (cells l.prices) k → CheckMet b l p q (Price (suc k))
  gain : (i : ℕ) → i < b.market.arrived → max_price < cells l.gains i → CheckMet b l p q (Price (b.items.count + suc i))
  bare : {i : ℕ} → i < b.market.arrived → Uncovered b p q (cells l.prices) (cells l.gains) i → CheckMet b l p q (Bare (suc i))

-- Prices or gains that are all within the limit
abbrev pub Capped : List ℕ → Type 0
Capped l = (k : ℕ) → k < length l → cells l k ≤ max_price

-- ---- The checks: "13, 2, 9, 10, 11, 12, lowest place first"

unfoldable pub even_test : ℕ → ℕ → ℕ → ℕ → ℕ → Bool
even_test bidders items plan prices gains = eqb plan bidders && (eqb prices items && eqb gains bidders)

-- Refusal 10 is that of the crate matching, `clash_checks`

-- Refusal 11: the prices of n items, of which some are withdrawn, and the gains of n bidders
unfoldable pub price_test : (ℕ → Bool) → (ℕ → ℕ) → ℕ → Bool
price_test withdrawn prices k = leb (prices k) max_price && (not (withdrawn k) || eqb (prices k) 0)

abbrev pub price_checks : (ℕ → Bool) → (ℕ → ℕ) → ℕ → List Check
price_checks withdrawn prices n = cell_checks (λ k. Price (suc k)) (price_test withdrawn prices) n

abbrev pub gain_checks : ℕ → (ℕ → ℕ) → ℕ → List Check
gain_checks items gains n = cell_checks (λ i. Price (items + suc i)) (λ i. leb (gains i) max_price) n

-- Every live edge of a bidder is covered: its live weights by item, and its gain y
unfoldable pub covered_test : ℕ → (ℕ → ℕ) → ℕ → ℕ → (ℕ → ℕ) → ℕ → Bool
covered_test items row p q prices y = all_below items (λ k. leb ((q - p) * row k) (y + prices k))

-- Refusal 12: prices and gains against the live weights w of n bidders
abbrev pub bare_checks : ℕ → (ℕ → ℕ → ℕ) → ℕ → ℕ → (ℕ → ℕ) → (ℕ → ℕ) → ℕ → List Check
bare_checks items w p q prices gains n = cell_checks (λ i. Bare (suc i)) (λ i. covered_test items (w i) p q prices (gains i)) n

-- The lists themselves: "10, 11, 12". Of so many bidders and items, the places of each, which are withdrawn, and the live weights w
unfoldable pub list_checks : ℕ → ℕ → (ℕ → ℕ) → (ℕ → Bool) → (ℕ → ℕ → ℕ) → Lists → ℕ → ℕ → List Check
list_checks bidders items count withdrawn w l p q =
    clash_checks items count w (cells l.plan) bidders ++
    (price_checks withdrawn (cells l.prices) items ++
    (gain_checks items (cells l.gains) bidders ++
    bare_checks items w p q (cells l.prices) (cells l.gains) bidders))

-- The checks after that of soundness, and all
unfoldable pub check_rest : Board → Lists → ℕ → ℕ → List Check
check_rest b l p q =
    check_for Slack (not (slack_test 0 p q)) ∷
    (check_for Uneven (not (even_test b.market.arrived b.items.count (length l.plan) (length l.prices) (length l.gains))) ∷
    list_checks b.market.arrived b.items.count (places_at b) (withdrawn_at b) (live b) l p q)

abbrev pub check_checks : Board → Lists → ℕ → ℕ → List Check
check_checks b l p q = check_for Spoilt (not (sound_test b)) ∷ check_rest b l p q

-- ---- "It answers the plan's worth and the sum of prices and gains"; "the check and exact level count a kettle's price once per place" (document 02, R-6)

-- The matching's weight, and the sum of prices and gains; or the refusal
abbrev pub Checked : Type 0
Checked = Result (Pence × Scaled) Refusal

unfoldable pub check_by : Board → Lists → Verdict → Checked
check_by b l (Ok tt) =
    Ok (pence (weight_of b.market.arrived (live b) (cells l.plan)), scaled (total_with b.market.arrived b.items.count (places_at b) (cells l.prices) (cells l.gains)))
check_by b l (Err r) = Err r

-- The lists and the board are only read
unfoldable pub check_of : Board → Lists → ℕ → ℕ → Checked
check_of b l p q = check_by b l (first_of (check_checks b l p q))

-- ---- What is told: number 0 with the two totals, or the refusal without them

abbrev pub totals : ℕ → ℕ → Totals
totals weight sum = record { number = 0; place = 0; weight = weight; total = sum }

abbrev pub without_totals : Told → Totals
without_totals t = record { number = t.number; place = t.place; weight = 0; total = 0 }

abbrev pub checked_told : Checked → Totals
checked_told (Ok (w, s)) = totals w.0 s.0
checked_told (Err r) = without_totals (refused r)
