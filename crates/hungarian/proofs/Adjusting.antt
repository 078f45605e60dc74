-- The pass over the items in which prices and gains are adjusted.
use mathlib.Core.Path.{◌≡◌, sym, ap, ◌∙◌}
use mathlib.Core.Bool.{Bool, true, false}
use mathlib.Core.List.{List}
use mathlib.Core.Logic.{by_cases}
use Prim.Native.Nat.{ℕ, suc, ◌+◌, ◌-◌, ◌≤◌, ◌<◌, ◌^◌}
use native.Mathlib.Decide.{ℕ_discrete}
use native.Mathlib.Omega.{arith}
use borrow.Author.Count.{below_more}
use lib.ListN.{set, length, length-set}
use lib.Seq.{get_or-set_same, get_or-set_other}
use Rattle.duality.specs.Lists.{cells}
use Rattle.board.specs.Limits.{max_items, max_bidders}
use Rattle.hungarian.specs.Settled.{Holds}
use Rattle.hungarian.specs.Insertion.{Adjustable, Adjusted}
use Rattle.hungarian.proofs.Cells.{earlier, never, risen-visited, risen-unvisited}

-- After n items
pub record Adjusting (price gain holder : ℕ → ℕ) (visited : ℕ → Bool) (excess : ℕ → ℕ) (fall : ℕ) (price' gain' : List ℕ) (n : ℕ) : Type 0 where
  pub near : n ≤ max_items
  pub long : length price' ≡ max_items
  pub long₂ : length gain' ≡ max_bidders
  pub adjusted : Adjusted price gain holder visited excess fall (cells price') (cells gain') n

-- A visited item's cell names its holder, one of the bidders, and there is room for the change
pub record Room (holder : ℕ → ℕ) (visited : ℕ → Bool) (excess : ℕ → ℕ) (fall : ℕ) (price' gain' : List ℕ) (n : ℕ) : Type 0 where
  pub held : Holds holder n (holder n - 1)
  pub bidder : holder n - 1 < max_bidders
  pub price : cells price' n + (fall - excess n) < 2 ^ 32
  pub gain : fall - excess n ≤ cells gain' (holder n - 1)

module _ {price gain holder : ℕ → ℕ} {visited : ℕ → Bool} {excess : ℕ → ℕ} {fall : ℕ} {price' gain' : List ℕ} {n : ℕ} (able : Adjustable price gain holder visited excess fall)
    (p : Adjusting price gain holder visited excess fall price' gain' n) (l : n < max_items) where
  -- An unvisited item is passed over
  pub adjust-unvisited : visited n ≡ false → Adjusting price gain holder visited excess fall price' gain' (n + 1)
  adjust-unvisited u =
      record {
        near = omega arith;
        long = p.long;
        long₂ = p.long₂;
        adjusted = record {
          prices = below_more _ n p.adjusted.prices (p.adjusted.further n (omega arith) ∙ sym (risen-unvisited price visited excess fall n u));
          further = λ k h. p.adjusted.further k (omega arith);
          gains = λ k i h v. below_more (λ k. visited k ≡ true → Holds holder k i → cells gain' i ≡ gain i - (fall - excess k)) n
              (λ k h. p.adjusted.gains k i h) (λ v. never v u) k h v;
          others = λ i f. p.adjusted.others i (λ k h. f k (omega arith));
        };
      }

  -- At a visited one the price rises, and the holder's gain falls
  module _ (v : visited n ≡ true) where
    abbrev i : ℕ
    i = holder n - 1

    held : Holds holder n i
    held = omega (arith, (able.held n v).1)

    same-gain : cells gain' i ≡ gain i
    same-gain = p.adjusted.others i (λ k h x y. absurd (omega (arith, able.once.once k n i y held)))

    pub room : Room holder visited excess fall price' gain' n
    room =
        record {
          held = held;
          bidder = (able.once.known n i held).1;
          price = omega (arith, p.adjusted.further n (omega arith), able.small n v);
          gain = omega (arith, same-gain, able.enough n i v held);
        }

    pub adjust-visited : Adjusting price gain holder visited excess fall (set price' n (cells price' n + (fall - excess n))) (set gain' i (cells gain' i - (fall - excess n))) (n + 1)
    adjust-visited =
        record {
          near = omega arith;
          long = length-set price' n _ ∙ p.long;
          long₂ = length-set gain' i _ ∙ p.long₂;
          adjusted = record {
            prices = below_more _ n
                (λ k h. get_or-set_other price' n k _ 0 (λ e. absurd (omega arith)) ∙ p.adjusted.prices k h)
                (get_or-set_same price' n _ 0 (omega (arith, p.long)) ∙ omega (arith, p.adjusted.further n (omega arith), risen-visited price visited excess fall n v));
            further = λ k h. get_or-set_other price' n k _ 0 (λ e. absurd (omega arith)) ∙ p.adjusted.further k (omega arith);
            gains = λ k j h x y. by_cases (ℕ_discrete j i)
                (λ (e : j ≡ i). rw (e, able.once.once k n i (y ∙ ap suc e) held) (get_or-set_same gain' i _ 0 (omega (arith, p.long₂, room.bidder)) ∙ omega (arith, same-gain)))
                (λ ne. get_or-set_other gain' i j _ 0 ne ∙ p.adjusted.gains k j (earlier holder n i k j held y ne h) x y);
            others = λ j f. get_or-set_other gain' i j _ 0 (λ e. f n (omega arith) v (held ∙ ap suc (sym e))) ∙ p.adjusted.others j (λ k h. f k (omega arith));
          };
        }
