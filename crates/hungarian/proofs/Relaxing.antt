-- The pass over the items left when a bidder's edges are looked at.
use mathlib.Core.Path.{◌≡◌, refl, sym, ◌∙◌}
use mathlib.Core.List.{List}
use mathlib.Core.Logic.{◌≢◌, ◌⊎◌, inl, inr, ⊎_elim, by_cases}
use Prim.Native.Nat.{ℕ, ◌+◌, ◌-◌, ◌≤◌, ◌<◌}
use native.Mathlib.Decide.{dec_lt}
use native.Mathlib.Omega.{arith}
use borrow.Author.Count.{below_more}
use Rattle.duality.specs.Lists.{cells}
use Rattle.board.specs.Limits.{max_items}
use Rattle.hungarian.specs.Reach.{Picks, RelaxedAt, ItemList, Swept}

-- One item more
module _ {w : ℕ → ℕ → ℕ} {price : ℕ → ℕ} {bidder level : ℕ} {left excess₀ parent₀ excess parent excess' parent' : List ℕ} {low cell fall cell' fall' count n : ℕ}
    (p : Swept w price bidder level left excess₀ parent₀ excess parent low cell fall n) (all : ItemList left count) (near : n < count)
    (r : RelaxedAt (cells left n) (level + price (cells left n) - w bidder (cells left n)) bidder excess parent excess' parent')
    (who : Picks (cells excess' (cells left n)) fall n cell cell') (what : Picks (cells excess' (cells left n)) fall (cells excess' (cells left n)) fall fall') where
  apart : (j : ℕ) → j < n → cells left j ≢ cells left n
  apart j l e = absurd (omega (arith, all.once j n (omega arith) near e))

  old : (cells excess (cells left n) ≡ cells excess₀ (cells left n)) × (cells parent (cells left n) ≡ cells parent₀ (cells left n))
  old = p.further (cells left n) apart

  less : (fall' ≤ cells excess' (cells left n)) × (fall' ≤ fall)
  less =
      by_cases (dec_lt (cells excess' (cells left n)) fall)
      (λ x. (omega (arith, what.0 x), omega (arith, what.0 x)))
      (λ x. let z = what.1 (omega arith) in (omega arith, omega arith))

  there : (j : ℕ) → j < n → (cells excess' (cells left j) ≡ cells excess (cells left j)) × (cells parent' (cells left j) ≡ cells parent (cells left j))
  there j l = r.others (cells left j) (apart j l)

  abbrev Found : ℕ → ℕ → Type 0
  Found c f = ((c ≡ max_items) × (f ≡ low)) ⊎ ((c < n + 1) × (cells excess' (cells left c) ≡ f) × (f < low))

  found : Found cell' fall'
  found =
      by_cases (dec_lt (cells excess' (cells left n)) fall)
      (λ x. rw (who.0 x, what.0 x) (inr (omega arith, refl, omega (arith, p.below))))
      (λ x. let y : fall ≤ cells excess' (cells left n) = omega arith in rw (who.1 y, what.1 y) (⊎_elim
      (λ f. inl f)
      (λ f. inr (omega (arith, f.0), (there cell f.0).0 ∙ f.1, f.2))
      p.found))

  pub swept-more : Swept w price bidder level left excess₀ parent₀ excess' parent' low cell' fall' (n + 1)
  swept-more =
      record {
        long = r.long ∙ p.long;
        long₂ = r.long₂ ∙ p.long₂;
        lesser = below_more _ n
            (λ j l. rw ((there j l).0, (there j l).1) (p.lesser j l))
            (rw (← old.0, ← old.1) r.here);
        further = λ k none.
            let a = r.others k (λ e. none n (omega arith) (sym e)) in
            let b = p.further k (λ j l. none j (omega arith)) in
            (a.0 ∙ b.0, a.1 ∙ b.1);
        least = below_more _ n (λ j l. rw (there j l).0 (omega (arith, p.least j l, less.1))) less.0;
        below = omega (arith, less.1, p.below);
        found = found;
      }
