-- The three lists that a caller lends: for a matching, prices and gains.
use Rattle.std.specs.Prelude.{◌≡◌, Bool, ◌&&◌, List, ℕ, zero, suc, ◌<◌, set, leb}
use Rattle.duality.specs.Lists.{cells}
use Rattle.board.specs.declared.record.State.{State}
use Rattle.board.specs.declared.lent.Columns.{Columns}
use Rattle.board.specs.Limits.{max_items, max_bidders}
use Rattle.board.specs.Cells.{scaled_at}
use Rattle.board.specs.Live.{held_by}

-- A list with its first n cells set to f 0 .. f (n - 1). "Further cells keep what they held"
unfoldable pub written : ℕ → (ℕ → ℕ) → List ℕ → List ℕ
written zero f l = l
written (suc n) f l = set (written n f l) n (f n)

-- A matching, prices and gains as a caller lends them
pub record Lists : Type 0 where
  pub plan : List ℕ
  pub prices : List ℕ
  pub gains : List ℕ

abbrev pub lists : List ℕ → List ℕ → List ℕ → Lists
lists plan prices gains = record { plan = plan; prices = prices; gains = gains }

-- "a cell per batch, per kettle, per batch": whether there are so many
unfoldable pub room_test : ℕ → ℕ → ℕ → ℕ → ℕ → Bool
room_test bidders items plan prices gains = leb bidders plan && (leb items prices && leb bidders gains)

-- What a state's holders say: each bidder's cell of the matching
abbrev pub Matched : List ℕ → ℕ → List ℕ → Type 0
Matched holder items matching = (i : ℕ) → cells matching i ≡ held_by holder items i

-- A state as plain numbers
pub record ColumnsOf (s : State) (items : ℕ) (c : Columns) : Type 0 where
  pub plan : Matched s.holder items c.plan
  pub prices : (k : ℕ) → k < max_items → cells c.prices k ≡ scaled_at s.price k
  pub gains : (i : ℕ) → i < max_bidders → cells c.gains i ≡ scaled_at s.gain i

-- Plain numbers written into three lists
abbrev pub written_lists : ℕ → ℕ → Columns → Lists → Lists
written_lists bidders items c l =
    lists (written bidders (cells c.plan) l.plan) (written items (cells c.prices) l.prices) (written bidders (cells c.gains) l.gains)
