-- Who has which item: the test of the items' cells, and the one pass that finds each bidder's cell of the matching.
use mathlib.Core.Path.{◌≡◌, refl, sym, ◌∙◌}
use mathlib.Core.Bool.{true, false, not, ◌&&◌}
use mathlib.Core.List.{List}
use Rattle.std.specs.Prelude.{Some, None}
use mathlib.Core.Logic.{by_cases}
use Prim.Native.Nat.{ℕ, zero, suc, ◌+◌, ◌≤◌, ◌<◌}
use native.Mathlib.Nat.{suc_inj}
use native.Mathlib.Decide.{ℕ_discrete}
use native.Mathlib.Numerals.{add-one}
use native.Mathlib.Omega.{arith}
use lib.ListN.{get_or, set, length, replicate, length-set, length-replicate, get_or-replicate}
use lib.Dec.{eqb}
use lib.Seq.{get_or-set_same, get_or-set_other}
use Rattle.duality.specs.Decide.{Decides}
use Rattle.duality.proofs.Below.{one_more}
use Rattle.duality.proofs.Decide.{lt-decides, eq-decides, ne-decides, and-decides, all-decides, reword, clash, true-is, false-is}
use Rattle.board.specs.Limits.{max_bidders}
use Rattle.board.specs.Live.{held_by}
use Rattle.board.specs.SoundTest.{holder_test, holders_test}
use Rattle.board.specs.SoundPass.{PlacingOf}
use Rattle.board.proofs.LiveLaws.{held-here, held-before, held-names}

-- Whoever one of the first m items' cells names has arrived, and has that item of these and no other
abbrev pub Holders : List ℕ → ℕ → ℕ → Type 0
Holders holder m arrived = (k i : ℕ) → k < m → get_or holder k 0 ≡ suc i → (i < arrived) × (held_by holder m i ≡ suc k)

module _ (holder : List ℕ) (items arrived : ℕ) where
  holder-decides : (k c : ℕ) → Decides (holder_test holder items arrived k c) ((i : ℕ) → c ≡ suc i → (i < arrived) × (held_by holder items i ≡ suc k))
  unfolding holder_test
  holder-decides k zero = record { sound = λ t i e. absurd (omega arith); complete = λ h. refl }
  holder-decides k (suc i) =
      reword
      (and-decides (lt-decides i arrived) (eq-decides (held_by holder items i) (suc k)))
      (λ h j e. rw (← suc_inj e) h)
      (λ h. h i refl)

  pub holders-decide : Decides (holders_test holder items arrived) (Holders holder items arrived)
  unfolding holders_test
  holders-decide =
      reword
      (all-decides items _ _ (λ k. holder-decides k (get_or holder k 0)))
      (λ h k i l e. h k l i e)
      (λ h k l i e. h k i l e)

-- A cell that names a bidder that has an item already, and one that does not
taken-decides : (cell item : ℕ) → Decides (not (eqb cell 0) && not (eqb item 0)) ((cell ≡ 0 → ⊥) × (item ≡ 0 → ⊥))
taken-decides cell item = and-decides (ne-decides cell 0) (ne-decides item 0)

not_taken : (cell item : ℕ) → (not (eqb cell 0) && not (eqb item 0)) ≡ false → (cell ≡ 0 → ⊥) → item ≡ 0
not_taken cell zero e named = refl
not_taken cell (suc k) e named = absurd (clash _ ((taken-decides cell (suc k)).complete (named, λ z. omega arith)) e)

-- What is known once the cells of the first k items have been read. `item` has a cell for each bidder's number.
pub record Placed (holder : List ℕ) (arrived k : ℕ) (item : List ℕ) : Type 0 where
  pub size : length item ≡ max_bidders + 1
  pub holders : Holders holder k arrived
  pub items : (i : ℕ) → i < max_bidders → get_or item (suc i) 0 ≡ held_by holder k i

pub placed-none : (holder : List ℕ) (arrived : ℕ) → Placed holder arrived 0 (replicate (max_bidders + 1) 0)
unfolding held_by
placed-none holder arrived =
    record {
      size = length-replicate {A = ℕ} (max_bidders + 1) 0;
      holders = λ k i l e. absurd (omega arith);
      items = λ i l. get_or-replicate (max_bidders + 1) (suc i) 0 0 (omega arith);
    }

module _ (holder : List ℕ) (items arrived k : ℕ) (item : List ℕ) (small : arrived ≤ max_bidders) (p : Placed holder arrived k item) where
  -- One more cell, that names nobody or a bidder that has no item yet
  pub placed-more : (cell : ℕ) → cell ≡ get_or holder k 0 → cell ≤ arrived → (not (eqb cell 0) && not (eqb (get_or item cell 0) 0)) ≡ false →
      Placed holder arrived (k + 1) (set item cell (k + 1))
  placed-more cell read low test =
      rw
      add-one
      record {
        size = length-set item cell (suc k) ∙ p.size;
        holders = λ j i l e. one_more k (λ j. get_or holder j 0 ≡ suc i → (i < arrived) × (held_by holder (suc k) i ≡ suc j)) (earlier i) (here i) j l e;
        items = λ i l. by_cases (ℕ_discrete cell (suc i)) (same i) (other i l);
      }
    where
      free : (cell ≡ 0 → ⊥) → get_or item cell 0 ≡ 0
      free = not_taken cell (get_or item cell 0) test

      here : (i : ℕ) → get_or holder k 0 ≡ suc i → (i < arrived) × (held_by holder (suc k) i ≡ suc k)
      here i e = (omega arith, held-here holder k i e)

      earlier : (i j : ℕ) → j < k → get_or holder j 0 ≡ suc i → (i < arrived) × (held_by holder (suc k) i ≡ suc j)
      earlier i j l e =
          let r = p.holders j i l e in
          (r.0, held-before holder k i (λ x. omega (arith, rw (read ∙ x) at (free (λ z. omega arith)), p.items i (omega arith), r.1)) ∙ r.1)

      same : (i : ℕ) → cell ≡ suc i → get_or (set item cell (suc k)) (suc i) 0 ≡ held_by holder (suc k) i
      same i e = rw (← e) (get_or-set_same item cell (suc k) 0 (omega (arith, p.size))) ∙ sym (held-here holder k i (sym read ∙ e))

      other : (i : ℕ) → i < max_bidders → (cell ≡ suc i → ⊥) → get_or (set item cell (suc k)) (suc i) 0 ≡ held_by holder (suc k) i
      other i l ne =
          get_or-set_other item cell (suc i) (suc k) 0 (λ x. ne (sym x)) ∙ (p.items i l ∙ sym (held-before holder k i (λ x. ne (read ∙ x))))

  unplaced : (Holders holder items arrived → ⊥) → PlacingOf holder items arrived None
  unplaced h = sym (false-is _ (holders-decide holder items arrived) h)

  -- One more cell, that names a bidder that has not arrived
  pub placed-absent : k < items → (cell : ℕ) → cell ≡ get_or holder k 0 → arrived < cell →
      PlacingOf holder items arrived None
  placed-absent l zero read high = absurd (omega arith)
  placed-absent l (suc i) read high = unplaced (λ h. omega (arith, (h k i l (sym read)).0))

  -- One more cell, that names a bidder that has an item already
  pub placed-twice : k < items → (cell : ℕ) → cell ≡ get_or holder k 0 → cell ≤ arrived →
      (not (eqb cell 0) && not (eqb (get_or item cell 0) 0)) ≡ true → PlacingOf holder items arrived None
  placed-twice l zero read low test = absurd (((taken-decides 0 (get_or item 0 0)).sound test).0 refl)
  placed-twice l (suc i) read low test = unplaced (λ h. go h (held_by holder k i) refl)
    where
      go : Holders holder items arrived → (c : ℕ) → held_by holder k i ≡ c → ⊥
      go h zero e = ((taken-decides (suc i) (get_or item (suc i) 0)).sound test).1 (p.items i (omega arith) ∙ e)
      go h (suc j) e =
          let r = held-names holder k i j e in
          omega (arith, r.0, (h k i l (sym read)).1, (h j i (omega (arith, r.0)) r.1).1)

-- All cells read
pub placed-all : (holder : List ℕ) (items arrived : ℕ) (item : List ℕ) → Placed holder arrived items item → PlacingOf holder items arrived (Some item)
placed-all holder items arrived item p =
    record { apart = sym (true-is (holders-decide holder items arrived) p.holders); held = p.items }
