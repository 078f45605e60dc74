-- Demand 1 for texts: "each line is tested and carried out before the next", and the text is refused at the first line that is not of the form or
-- whose call refuses.
use Rattle.std.specs.Prelude.{◌≡◌, ◌↔◌, List, [], ℕ, suc, ◌+◌, ◌-◌, ◌<◌, ◌≤◌, length, set, Ok, Err}
use Rattle.refusals.specs.declared.Refusal.{Refusal}
use Rattle.refusals.specs.declared.Refusal.TheVariants.{Unknown, Order}
use Rattle.refusals.specs.declared.Told.{Told}
use Rattle.refusals.specs.Codes.{code_of}
use Rattle.refusals.specs.Told.{told, served, refused, refused_at}
use Rattle.supply.specs.declared.record.Board.{Board}
use Rattle.board.specs.declared.record.Edge.{Edge}
use Rattle.board.specs.Ranges.{Within}
use Rattle.supply.specs.Opening.{opened, OpenAnswers}
use Rattle.bidding.specs.Rule.{done}
use Rattle.auction.specs.Arrive.{ArriveAnswers}
use Rattle.auction.specs.Withdraw.{WithdrawAnswers}
use Rattle.auction.specs.Histories.{once_per_place}
use Rattle.replay.specs.Replay.{opens, places, arrives, withdraws, at_line, ones, finished, stopped, replay_of, Ending}
use Rattle.replay.specs.Says.{Says}

-- ---- What a text is, line by line

-- Where a text stands after some of its lines: its board is being opened, by the lines `K` and `P`, or calls have been made. In the first case: the items,
-- the slack, the last kettle that a `P` line named (0 for none), and the counts so far
pub data Stage : Type 0 where
  beginning : ℕ → ℕ → ℕ → ℕ → List ℕ → Stage
  running : Stage

-- Lines 1 to n were carried out, call by call. Where the next line starts; where the text stands; the board that the calls left; the entries that the lines
-- had, once per place; the sum of the bids that the calls returned
pub data Lines (s : List ℕ) : ℕ → ℕ → Stage → Board → ℕ → ℕ → Type 0 where
  -- "First line `K`, kettles, p, q"; "others have one place"
  first : {k p q next : ℕ} {b : Board} → Says s 0 (opens k p q) next → OpenAnswers k p q (ones k) b (served 0) → Lines s 1 next (beginning k p q 0 (ones k)) b 0 0
  -- "After `K`, lines `P`, kettle, places may follow, in rising kettle order": the board is the one that opening gives with those counts
  placed : {n at next items p q low k c e m : ℕ} {counts : List ℕ} {b d : Board} → Lines s n at (beginning items p q low counts) b e m →
      Says s at (places k c) next → Within 1 items k → low < k → OpenAnswers items p q (set counts (k - 1) c) d (served 0) →
      Lines s (suc n) next (beginning items p q k (set counts (k - 1) c)) d e m
  -- "then any number of `A` .. or `W`"
  arrived : {n at next e m k : ℕ} {g : Stage} {b c : Board} {edges : List Edge} → Lines s n at g b e m →
      Says s at (arrives edges) next → ArriveAnswers b edges c (served k) → Lines s (suc n) next running c (e + once_per_place b.items edges) (m + k)
  withdrew : {n at next e m k : ℕ} {g : Stage} {b c : Board} {items : List ℕ} → Lines s n at g b e m →
      Says s at (withdraws items) next → WithdrawAnswers b items c (served k) → Lines s (suc n) next running c e (m + k)

-- While the board is being opened, the line is no `P` line. (Later such a line is not of the form, whatever it says)
abbrev pub NoPlaces : List ℕ → ℕ → Stage → Type 0
NoPlaces s at g =
    (items p q low : ℕ) (counts : List ℕ) → g ≡ beginning items p q low counts → (k c next : ℕ) → Says s at (places k c) next → ⊥

-- A line is refused, after the lines before it were carried out: its number, the board and the bids of those lines, and the refusal. "A line's form
-- (14) is tested before its meaning"
pub data LineRefused (s : List ℕ) : ℕ → Board → ℕ → Refusal → Type 0 where
  -- The first line is not of the form: "an empty text is 14 at line 1"
  unopened : ((k p q next : ℕ) → Says s 0 (opens k p q) next → ⊥) → LineRefused s 1 (opened 0 0 []) 0 (Refusal.Line 1)
  -- It is, and opening refuses
  opening : {k p q next : ℕ} {r : Refusal} → Says s 0 (opens k p q) next → OpenAnswers k p q (ones k) (opened 0 0 []) (refused r) →
      LineRefused s 1 (opened 0 0 []) 0 r
  -- "A `P` line's kettle can meet 4, then 7, before 16"
  unknown : {n at next items p q low k c e m : ℕ} {counts : List ℕ} {b : Board} → Lines s n at (beginning items p q low counts) b e m →
      Says s at (places k c) next → (Within 1 items k → ⊥) → LineRefused s (suc n) b m (Unknown 0)
  unordered : {n at next items p q low k c e m : ℕ} {counts : List ℕ} {b : Board} → Lines s n at (beginning items p q low counts) b e m →
      Says s at (places k c) next → Within 1 items k → k ≤ low → LineRefused s (suc n) b m (Order 0)
  -- Opening refuses the counts: 16 at that line, or "over 64 in all .. (line 1 of a text ..)"
  miscounted : {n at next items p q low k c e m line : ℕ} {counts : List ℕ} {b : Board} {r : Refusal} → Lines s n at (beginning items p q low counts) b e m →
      Says s at (places k c) next → Within 1 items k → low < k → OpenAnswers items p q (set counts (k - 1) c) (opened 0 0 []) (refused r) →
      line ≡ at_line r (suc n) → LineRefused s line b m r
  -- A later line is not of the form. A further `K` is not
  malformed : {n at e m : ℕ} {g : Stage} {b : Board} → Lines s n at g b e m → at < length s →
      ((edges : List Edge) (next : ℕ) → Says s at (arrives edges) next → ⊥) → ((items : List ℕ) (next : ℕ) → Says s at (withdraws items) next → ⊥) →
      NoPlaces s at g → LineRefused s (suc n) b m (Refusal.Line (suc n))
  -- It is, and its call refuses
  arrival : {n at next e m : ℕ} {g : Stage} {b : Board} {edges : List Edge} {r : Refusal} → Lines s n at g b e m →
      Says s at (arrives edges) next → ArriveAnswers b edges b (refused r) → LineRefused s (suc n) b m r
  withdrawal : {n at next e m : ℕ} {g : Stage} {b : Board} {items : List ℕ} {r : Refusal} → Lines s n at g b e m →
      Says s at (withdraws items) next → WithdrawAnswers b items b (refused r) → LineRefused s (suc n) b m r

-- A text is refused: at a line, or as a whole. "15 comes before all else"
pub data TextRefused (s : List ℕ) : ℕ → Board → ℕ → Refusal → Type 0 where
  -- "text above 65,536 bytes"
  long : 65536 < length s → TextRefused s 0 (opened 0 0 []) 0 Refusal.Long
  by-line : {n m : ℕ} {b : Board} {r : Refusal} → length s ≤ 65536 → LineRefused s n b m r → TextRefused s n b m r

-- A text is finished: all its lines were carried out
pub record TextFinished (s : List ℕ) (b : Board) (entries bids : ℕ) : Type 0 where
  pub lines : ℕ
  pub stage : Stage
  pub short : length s ≤ 65536
  pub carried : Lines s lines (length s) stage b entries bids

-- ---- What the replay answers

-- What is told: the bids in all, or the refusal at its line with the bids so far
abbrev pub ending_told : Ending → ℕ → Told
ending_told (Ok tt) bids = served bids
ending_told (Err s) bids = refused_at s.refusal s.line bids

-- A replay leaves the board b, and tells t
pub record ReplayAnswers (s : List ℕ) (b : Board) (t : Told) : Type 0 where
  pub answer : Ending
  pub bids : ℕ
  pub outcome : replay_of s ≡ done (record { board = b; bids = bids; answer = answer })
  pub tells : ending_told answer bids ≡ t

pub record TextDemand1 (s : List ℕ) : Type 0 where
  -- Refused r at line n exactly when the lines before were carried out and line n is not of the form (14), or is and its call refuses r; 15 at 0
  -- exactly when the text is above 65,536 bytes
  pub refuses : (b : Board) (bids : ℕ) (r : Refusal) (n : ℕ) → (replay_of s ≡ stopped b bids r n) ↔ TextRefused s n b bids r
  -- Finished exactly when neither, with the board and the bids of all its lines
  pub finishes : (b : Board) (bids : ℕ) → (replay_of s ≡ finished b bids) ↔ ((entries : ℕ) × TextFinished s b entries bids)
  -- In numbers
  pub numbered : (b : Board) (number line bids : ℕ) → 0 < number →
      ReplayAnswers s b (told number line bids) ↔ ((r : Refusal) × ((code_of r).number ≡ number) × TextRefused s line b bids r)
  pub served : (b : Board) (bids : ℕ) → ReplayAnswers s b (served bids) ↔ ((entries : ℕ) × TextFinished s b entries bids)

abbrev pub TextsDemand1 : Type 0
TextsDemand1 = (s : List ℕ) → TextDemand1 s
