-- What is settled, as a matching: its weight is the total of prices and gains.
use mathlib.Core.Path.{◌≡◌, refl, sym, ap, ◌∙◌}
use mathlib.Core.List.{List}
use mathlib.Core.Logic.{by_cases}
use Prim.Native.Nat.{ℕ, zero, suc, ◌≤◌, ◌<◌}
use native.Mathlib.Decide.{dec_lt}
use native.Mathlib.Nat.{suc_inj, one-mul}
use native.Mathlib.Omega.{arith}
use lib.ListN.{get_or}
use Rattle.duality.specs.Lists.{cells}
use Rattle.duality.specs.Cover.{Tight, total}
use Rattle.duality.specs.Matching.{IsMatching}
use Rattle.duality.specs.StrongDuality.{Equal}
use Rattle.duality.proofs.Tightness.{tightness}
use Rattle.duality.proofs.GreatestWeight.{greatest-weight}
use Rattle.board.specs.Limits.{max_items, max_bidders}
use Rattle.board.specs.Live.{held_by}
use Rattle.board.specs.Lent.{Matched}
use Rattle.board.proofs.LiveLaws.{held-names, held_none}
use Rattle.hungarian.specs.Settled.{Once, Settled}
use Rattle.hungarian.specs.Solved.{Turned, Solved, SolvedIsGreatest, SolvedForFewer}

-- Whoever holds an item is one of so many bidders
pub once-few : {holder : ℕ → ℕ} {n : ℕ} → n ≤ max_bidders → Once holder n → (k : ℕ) → holder k ≤ max_bidders
once-few {holder} {n} few once k = go (holder k) refl
  where
    go : (c : ℕ) → holder k ≡ c → c ≤ max_bidders
    go zero e = omega arith
    go (suc i) e = omega (arith, (once.known k i e).1)

-- A matching that is read off the holders, each of whom holds one item
pub turned_by : (holder matching : List ℕ) {n : ℕ} → Once (cells holder) n → Matched holder max_items matching → Turned (cells holder) (cells matching) max_items
turned_by holder matching once m =
    record {
      placed = λ i k e. held-names holder max_items i k (sym (m i) ∙ e);
      held = λ k i l h. m i ∙ go i k l h (held_by holder max_items i) refl;
    }
  where
    go : (i k : ℕ) → k < max_items → get_or holder k 0 ≡ suc i → (c : ℕ) → held_by holder max_items i ≡ c → held_by holder max_items i ≡ suc k
    go i k l h zero e = absurd (held_none holder max_items i k e l h)
    go i k l h (suc j) e = e ∙ ap suc (once.once j k i (held-names holder max_items i j e).1 h)

pub solved : {w : ℕ → ℕ → ℕ} {price gain holder matching : ℕ → ℕ} {n weight : ℕ} → Settled w price gain holder n → Turned holder matching max_items
    → weight ≡ total n max_items price gain → Solved n max_items w matching price gain weight
solved {w} {price} {gain} {holder} {matching} {n} {weight} s t e =
    record {
      matches = matches;
      covers = λ i k l lk hw. omega (arith, s.covers i k l lk);
      tight = tight;
      weighs = e ∙ tightness n max_items w 1 matching price gain matches tight ∙ one-mul _;
      totals = e;
    }
  where
    matches : IsMatching n max_items w matching
    matches =
        record {
          along = λ i k l q. let (lk, h) = t.placed i k q in (lk, (s.tight k i h).edge);
          once = λ h i k l₁ l₂ q₁ q₂. suc_inj (sym (t.placed h k q₁).1 ∙ (t.placed i k q₂).1);
        }

    unheld : (k : ℕ) → k < max_items → ((i : ℕ) → i < n → matching i ≡ suc k → ⊥) → (c : ℕ) → holder k ≡ c → price k ≡ 0
    unheld k l none zero h = s.unheld k l h
    unheld k l none (suc i) h = absurd (none i (s.held.known k i h).1 (t.held k i l h))

    tight : Tight n max_items w 1 matching price gain
    tight =
        record {
          placed = λ i k l q. omega (arith, (s.tight k i (t.placed i k q).1).even);
          unplaced = λ i l z. by_cases (dec_lt 0 (gain i))
              (λ g. let (k, h) = s.placed i l g in absurd (omega (arith, t.held k i (s.held.known k i h).0 h)))
              (λ g. omega arith);
          unheld = λ k l none. unheld k l none (holder k) refl;
        }

pub solved-is-greatest : SolvedIsGreatest
solved-is-greatest n m w matching price gain weight s =
    record {
      equal = equal;
      greatest = s.totals ∙ (greatest-weight n m w).equal matching price gain equal;
      unwanted = λ k l none. s.tight.unheld k l (λ i li q. absurd (omega (arith, none i li, (s.matches.along i k li q).1)));
    }
  where
    equal : Equal n m w matching price gain
    equal = record { matches = s.matches; covers = s.covers; same = sym s.weighs ∙ s.totals }

pub solved-for-fewer : SolvedForFewer
solved-for-fewer n m fewer w matching price gain weight l none s =
    record {
      matches = matches;
      covers = λ i k li lk. s.covers i k li (omega arith);
      tight = tight;
      weighs = s.weighs;
      totals = s.weighs ∙ sym (tightness n fewer w 1 matching price gain matches tight ∙ one-mul _);
    }
  where
    matches : IsMatching n fewer w matching
    matches =
        record {
          along = λ i k li q. let (lk, edge) = s.matches.along i k li q in
              (by_cases (dec_lt k fewer) (λ x. x) (λ x. absurd (omega (arith, none i k li (omega arith) lk))), edge);
          once = s.matches.once;
        }

    tight : Tight n fewer w 1 matching price gain
    tight = record { placed = s.tight.placed; unplaced = s.tight.unplaced; unheld = λ k lk. s.tight.unheld k (omega arith) }
