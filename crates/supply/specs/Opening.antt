-- Open (document 02, R-6): "The opening call is lent the counts, a cell per kettle." "1, 2", then "9 for counts of another length, then 16".
use Rattle.std.specs.Prelude.{◌≡◌, not, List, [], ◌∷◌, ◌++◌, ℕ, suc, ◌≤◌, ◌<◌, length, replicate, eqb, ltb, Result, Err, Ok}
use Rattle.duality.specs.Sums.{sum_to}
use Rattle.duality.specs.Lists.{cells}
use Rattle.refusals.specs.declared.Refusal.{Refusal}
use Rattle.refusals.specs.declared.Refusal.TheVariants.{Count, Slack, Uneven, Places}
use Rattle.refusals.specs.declared.Told.{Told}
use Rattle.refusals.specs.Told.{served, refused}
use Rattle.refusals.specs.Demand1.{Check, check_for, first_of, Verdict}
use Rattle.refusals.specs.Each.{cell_checks}
use Rattle.board.specs.Limits.{max_items}
use Rattle.board.specs.Ranges.{SlackIn, within_test, Within, slack_test}
use Rattle.board.specs.Lent.{written}
use Rattle.board.specs.Opening as place
use Rattle.supply.specs.declared.record.Board.{Board}
use Rattle.supply.specs.declared.record.Items.{Items}
use Rattle.supply.specs.Board.{max_places, on_items}

-- Counts that a record can hold: one for each of 64 items at most, each within the limit
pub record Counts (counts : List ℕ) : Type 0 where
  pub few : length counts ≤ max_items
  pub each : (k : ℕ) → k < length counts → cells counts k ≤ max_places

-- The items that a list of counts stands for
unfoldable pub items_of : List ℕ → Items
items_of counts = record { count = length counts; places = written (length counts) (cells counts) (replicate max_items 0) }

-- A board of so many items, each with its places, nothing arrived
unfoldable pub opened : ℕ → ℕ → List ℕ → Board
opened p q counts = on_items (items_of counts) (place.opened (sum_to (length counts) (cells counts)) p q)

pub data OpenMet (items p q : ℕ) (counts : List ℕ) : Refusal → Type 0 where
  -- "kettles to open not 1 to 64"
  count : (Within 1 max_items items → ⊥) → OpenMet items p q counts Count
  -- "p or q outside its range"
  slack : (SlackIn 1 p q → ⊥) → OpenMet items p q counts Slack
  -- "9 for counts of another length"
  uneven : (length counts ≡ items → ⊥) → OpenMet items p q counts Uneven
  -- "16 places: a count outside 1 to 8 at that kettle"
  places : {k : ℕ} → k < length counts → (Within 1 max_places (cells counts k) → ⊥) → OpenMet items p q counts (Places (suc k))
  -- "else over 64 in all at place 0"
  over : max_items < sum_to (length counts) (cells counts) → OpenMet items p q counts (Places 0)

-- 16 at each item
abbrev pub count_checks : List ℕ → List Check
count_checks counts = cell_checks (λ k. Places (suc k)) (λ k. within_test max_places (cells counts k)) (length counts)

unfoldable pub open_checks : ℕ → ℕ → ℕ → List ℕ → List Check
open_checks items p q counts =
    check_for Count (not (within_test max_items items)) ∷
    (check_for Slack (not (slack_test 1 p q)) ∷
    (check_for Uneven (not (eqb (length counts) items)) ∷
    (count_checks counts ++ (check_for (Places 0) (ltb max_items (sum_to (length counts) (cells counts))) ∷ []))))

-- What opening answers, and the board
pub record Opening : Type 0 where
  pub board : Board
  pub answer : Verdict

unfoldable pub open_by : ℕ → ℕ → List ℕ → Verdict → Opening
open_by p q counts (Ok tt) = record { board = opened p q counts; answer = Ok tt }
open_by p q counts (Err r) = record { board = opened 0 0 []; answer = Err r }

-- A refused opening has no board to keep; what comes beside the refusal is all 0
unfoldable pub open_of : ℕ → ℕ → ℕ → List ℕ → Opening
open_of items p q counts = open_by p q counts (first_of (open_checks items p q counts))

-- An opened board, or a refusal beside a board that is all 0
abbrev pub answered : Result Board Refusal → Opening
answered (Ok b) = record { board = b; answer = Ok tt }
answered (Err r) = record { board = opened 0 0 []; answer = Err r }

-- What is told: nothing but that it served, or the refusal
abbrev pub opened_told : Verdict → Told
opened_told (Ok tt) = served 0
opened_told (Err r) = refused r

-- Opening gives the board c, and tells t
pub record OpenAnswers (items p q : ℕ) (counts : List ℕ) (c : Board) (t : Told) : Type 0 where
  pub board : (open_of items p q counts).board ≡ c
  pub tells : opened_told (open_of items p q counts).answer ≡ t
