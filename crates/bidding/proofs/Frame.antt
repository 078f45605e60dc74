-- What soundness says of a board's form, apart from what its matching, prices and gains say of the live edges; and the two together.
use mathlib.Core.Path.{◌≡◌, refl, sym, ap, subst, subst₃, fun_ext}
use mathlib.Core.Logic.{◌↔◌, ◌≢◌, ◌⊎◌, inl, inr, ⊎_elim, by_cases}
use mathlib.Core.Bool.{Bool, true, false, cond}
use mathlib.Core.List.{List}
use Prim.Native.Nat.{ℕ, zero, suc, ◌+◌, ◌-◌, ◌*◌, ◌≤◌, ◌<◌}
use native.Mathlib.Nat.{lt_irrefl, mul-le-mul, le_refl}
use native.Mathlib.Decide.{ℕ_discrete, dec_le, dec_lt}
use native.Mathlib.Omega.{arith}
use lib.ListN.{length, get_or, set, get_or-eq_default}
use lib.Seq.{get_or-set_same, get_or-set_other, set_out}
use Rattle.board.proofs.Filed.{other_row, new_row}
use Rattle.duality.specs.Sums.{upd}
use Rattle.duality.specs.Steps.{Open}
use Rattle.duality.proofs.Sums.{upd-all}
use Rattle.duality.proofs.Bid.{SettledBut}
use Rattle.board.specs.declared.record.Auction.{Auction}
use Rattle.board.specs.declared.units.Scaled.{Scaled}
use Rattle.board.specs.Limits.{max_items, max_bidders, max_weight}
use Rattle.board.specs.Cells.{scaled, scaled_at, price_at, gain_at, withdrawn_at, row_at, weight_at}
use Rattle.board.specs.Live.{live, matching_of}
use Rattle.board.specs.Sound.{Formed, Unused}
use Rattle.board.specs.Ranges.{SlackIn}
use Rattle.bidding.specs.Moves.{entered}
use Rattle.bidding.specs.Waiting.{SoundBut}
use Rattle.bidding.proofs.Matchings.{Names, named}

-- A board's form
pub record Framed (b : Auction) : Type 0 where
  pub formed : Formed b
  pub items : (1 ≤ b.market.items) × (b.market.items ≤ max_items)
  pub arrived : b.market.arrived ≤ max_bidders
  pub slack : SlackIn 1 b.market.slack.p b.market.slack.q
  pub weights : (i k : ℕ) → i < b.market.arrived → k < b.market.items → weight_at b i k ≤ max_weight
  pub flags : (k : ℕ) → k < b.market.items → get_or b.market.withdrawn k 0 ≤ 1
  pub unused : Unused b
  pub names : Names b.state.holder b.market.arrived b.market.items (matching_of b)
  pub withdrawn : (k : ℕ) → k < b.market.items → withdrawn_at b k ≡ true → price_at b k ≡ 0

-- A matching, prices and gains over its live edges. A bidder counts as waiting where it cannot be that it does not: so nothing needs to be decided
abbrev pub SettledAs : (ℕ → Type 0) → Auction → (ℕ → ℕ → ℕ) → (ℕ → ℕ) → (ℕ → ℕ) → (ℕ → ℕ) → Type 0
SettledAs waits b w m y g =
    SettledBut b.market.arrived b.market.items w (b.market.slack.q - b.market.slack.p) (b.market.slack.q + b.market.slack.p) (λ i. ¬ ¬ waits i) m y g

-- Its own
abbrev pub SettledFor : (ℕ → Type 0) → Auction → Type 0
SettledFor waits b = SettledAs waits b (live b) (matching_of b) (price_at b) (gain_at b)

-- One more that waits
pub waits-or : (P : Type 0) (i x : ℕ) → (¬ ¬ (P ⊎ (i ≡ x))) ↔ ((i ≡ x) ⊎ (¬ ¬ P))
waits-or P i x =
    (λ q. by_cases (ℕ_discrete i x) (λ e. inl e) (λ n. inr (λ m. q (⊎_elim m n))), λ r n. ⊎_elim (λ e. n (inr e)) (λ q. q (λ v. n (inl v))) r)

module _ {waits : ℕ → Type 0} {b : Auction} where
  pub framed : SoundBut waits b → Framed b
  framed s =
      record {
        formed = s.formed;
        items = s.items;
        arrived = s.arrived;
        slack = s.slack;
        weights = s.weights;
        flags = s.flags;
        unused = s.unused;
        names = named s.holders;
        withdrawn = s.withdrawn;
      }

  pub settled-for : SoundBut waits b → SettledFor waits b
  settled-for s =
      record {
        matches = s.matches;
        tight = s.tight;
        covers = λ i k l lk hw. by_cases (dec_le ((b.market.slack.q - b.market.slack.p) * live b i k) (gain_at b i + price_at b k))
            (λ c. inr c)
            (λ n. inl (λ rests. n (s.covers i k l rests lk hw)));
        away = λ i l q. by_cases (ℕ_discrete (matching_of b i) 0) (λ e. e) (λ n. absurd (q (λ v. n (s.away i l v))));
      }

  pub sound-but : Framed b → SettledFor waits b → SoundBut waits b
  sound-but f s =
      record {
        formed = f.formed;
        items = f.items;
        arrived = f.arrived;
        slack = f.slack;
        weights = f.weights;
        flags = f.flags;
        unused = f.unused;
        holders = f.names.has;
        matches = s.matches;
        tight = s.tight;
        withdrawn = f.withdrawn;
        covers = λ i k l rests lk hw. ⊎_elim (λ q. absurd (q rests)) (λ c. c) (s.covers i k l lk hw);
        away = λ i l v. s.away i l (λ n. n v);
      }

  -- The same, of what its cells are equal to
  pub sound-as : Framed b → {w : ℕ → ℕ → ℕ} {m y g : ℕ → ℕ} → live b ≡ w → matching_of b ≡ m → price_at b ≡ y → gain_at b ≡ g → SettledAs waits b w m y g →
      SoundBut waits b
  sound-as f {w} ew em ey eg s =
      sound-but f (subst (λ w. SettledAs waits b w (matching_of b) (price_at b) (gain_at b)) (sym ew)
      (subst₃ (λ m y g. SettledAs waits b w m y g) (sym em) (sym ey) (sym eg) s))

-- ---- The cells of prices and gains after one is changed
pub scaled-other : (ys : List Scaled) (k v j : ℕ) → j ≢ k → scaled_at (set ys k (scaled v)) j ≡ scaled_at ys j
scaled-other ys k v j ne = ap (λ (s : Scaled). s.0) (get_or-set_other ys k j (scaled v) (scaled 0) ne)

pub scaled-set : (ys : List Scaled) (k v : ℕ) → k < length ys → scaled_at (set ys k (scaled v)) ≡ upd k v (scaled_at ys)
scaled-set ys k v l =
    fun_ext (upd-all (λ j u. scaled_at (set ys k (scaled v)) j ≡ u) k v (scaled_at ys)
    (ap (λ (s : Scaled). s.0) (get_or-set_same ys k (scaled v) (scaled 0) l))
    (scaled-other ys k v))

-- A cell that is cleared, also one past the end
pub scaled-clear : (ys : List Scaled) (k : ℕ) → scaled_at (set ys k (scaled 0)) ≡ upd k 0 (scaled_at ys)
scaled-clear ys k =
    by_cases (dec_lt k (length ys))
    (λ l. scaled-set ys k 0 l)
    (λ g. rw (set_out ys k (scaled 0) (omega arith)) (fun_ext (upd-all (λ j u. scaled_at ys j ≡ u) k 0 (scaled_at ys)
    (ap (λ (s : Scaled). s.0) (get_or-eq_default ys (scaled 0) (omega arith)))
    (λ j ne. refl))))

-- The rows after one has come in: an earlier bidder's is as it was
pub row_kept : (b : Auction) (row : List ℕ) (i : ℕ) → length row ≡ max_items → i ≢ b.market.arrived → row_at (entered b row) i ≡ row_at b i
unfolding entered
row_kept b row i n ne = other_row b.weights row b.market.arrived i n ne

pub row_new : (b : Auction) (row : List ℕ) → length row ≡ max_items → Formed b → b.market.arrived < max_bidders → row_at (entered b row) b.market.arrived ≡ row
unfolding entered
row_new b row n f l = new_row b.weights row b.market.arrived n (omega (arith, f.rows, mul-le-mul l (le_refl max_items)))

-- An open edge has a weight
pub open-edge : (p q w y : ℕ) → Open p q w y → 0 < w
open-edge p q zero y o = absurd (omega arith)
open-edge p q (suc w) y o = omega arith

-- A live edge's item is not withdrawn, and the record has its weight
pub live-is : (t : Bool) (w : ℕ) → 0 < cond t 0 w → (t ≡ false) × (cond t 0 w ≡ w)
live-is true w h = absurd (lt_irrefl 0 h)
live-is false w h = (refl, refl)
