-- Reached bidders, and what is known of them and of prices while a bidder is inserted.
use mathlib.Core.Path.{◌≡◌, refl, sym, ap, ◌∙◌}
use mathlib.Core.List.{List}
use Prim.Native.Nat.{ℕ, zero, suc, ◌+◌, ◌*◌, ◌≤◌, ◌<◌}
use native.Mathlib.Omega.{arith}
use Rattle.board.specs.Limits.{max_items, max_weight}
use Rattle.hungarian.specs.Weights.{matrix_at}
use Rattle.hungarian.specs.Settled.{Holds}
use Rattle.hungarian.specs.Tree.{Tree, Visited, Unvisited, excess_at, InTree, as-root, as-holder}
use Rattle.hungarian.specs.Search.{Inserting, Extends}
use Rattle.hungarian.proofs.Cells.{never}
use Rattle.duality.proofs.Below.{one_more}

pub reached-as : {gain holder : ℕ → ℕ} {t : Tree} {i j level other : ℕ} → i ≡ j → level ≡ other → InTree gain holder t i level → InTree gain holder t j other
reached-as e f q = rw (← e, ← f) q

-- A bidder that is reached is so in every tree that this one grows to
pub still-reached : {gain holder : ℕ → ℕ} {t r : Tree} {i level : ℕ} → Extends t r → InTree gain holder t i level → InTree gain holder r i level
still-reached x (as-root e f) = as-root (e ∙ sym x.root) f
still-reached x (as-holder k v h f) = as-holder k (x.visited k v) h (omega (arith, x.excess k v))

module _ {weights : List ℕ} {price gain holder : ℕ → ℕ} {root : ℕ} (s : Inserting weights price gain holder root) where
  -- The edges of the settled bidders and of the root are covered, and no gain or price is above the limit
  pub all-covered : (i k : ℕ) → i < suc root → k < max_items → matrix_at weights i k ≤ gain i + price k
  all-covered i k l lk = one_more root (λ i. matrix_at weights i k ≤ gain i + price k) (λ i l. s.settled.covers i k l lk) (s.covers k lk) i l

  pub all-low : (i : ℕ) → i < suc root → gain i ≤ max_weight
  all-low = one_more root (λ i. gain i ≤ max_weight) s.settled.low s.low

  pub cheap : (k : ℕ) → k < max_items → price k ≤ max_weight
  cheap k lk = go (holder k) refl
    where
      go : (c : ℕ) → holder k ≡ c → price k ≤ max_weight
      go zero e = omega (arith, s.settled.unheld k lk e)
      go (suc i) e = omega (arith, (s.settled.tight k i e).even, s.light (i * max_items + k))

module _ {weights : List ℕ} {price gain holder : ℕ → ℕ} {t : Tree} (s : Inserting weights price gain holder t.root) where
  -- A reached bidder is the root or a settled one
  pub inside : {i level : ℕ} → InTree gain holder t i level → i < suc t.root
  inside (as-root e f) = omega arith
  inside {i} (as-holder k v h f) = omega (arith, (s.settled.held.known k i h).1)

  -- What it holds is visited
  pub held-visited : {i level : ℕ} (k : ℕ) → InTree gain holder t i level → Holds holder k i → Visited t k
  held-visited {i} k (as-root e f) h = absurd (omega (arith, (s.settled.held.known k i h).1))
  held-visited {i} k (as-holder j v g f) h = rw (s.settled.held.once k j i h g) v

  -- It has one level
  pub one-level : {i level other : ℕ} → InTree gain holder t i level → InTree gain holder t i other → level ≡ other
  one-level (as-root e f) (as-root e₂ f₂) = f ∙ sym f₂
  one-level {i} (as-root e f) (as-holder k v h f₂) = absurd (omega (arith, (s.settled.held.known k i h).1))
  one-level {i} (as-holder k v h f) (as-root e₂ f₂) = absurd (omega (arith, (s.settled.held.known k i h).1))
  one-level {i} (as-holder k v h f) (as-holder j v₂ h₂ f₂) = f ∙ ap (λ (x : ℕ). gain i + excess_at t x) (s.settled.held.once k j i h h₂) ∙ sym f₂

  -- Who holds an unvisited item is not reached
  pub not-reached : {i level : ℕ} (k : ℕ) → Unvisited t k → Holds holder k i → InTree gain holder t i level → ⊥
  not-reached k u h q = never (held-visited k q h) u
