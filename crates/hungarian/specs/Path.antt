-- Alternating paths.
use Rattle.std.specs.Prelude.{◌≡◌, ◌≢◌, ℕ, ◌<◌}
use Rattle.board.specs.Limits.{max_items}
use Rattle.hungarian.specs.Settled.{Holds}

-- Item k + 1 goes to bidder i + 1, and every other item stays with its holder
pub record Given (k i : ℕ) (before after : ℕ → ℕ) : Type 0 where
  pub here : Holds after k i
  pub others : (j : ℕ) → j ≢ k → after j ≡ before j

-- "the trail runs from a batch over a tight entry to a kettle, and from a held kettle to its holder": the holders after a shift along an alternating
-- path that starts at bidder i + 1
pub data Path (Tight : ℕ → ℕ → Type 0) (Idle : ℕ → Type 0) (before : ℕ → ℕ) : ℕ → (ℕ → ℕ) → Type 0 where
  -- It ends at a bidder of gain 0, which is released, to be left out
  released : {i : ℕ} {after : ℕ → ℕ} → Idle i → ((k : ℕ) → after k ≡ before k) → Path Tight Idle before i after
  -- It ends at a free item, which goes to the bidder
  free : {i : ℕ} {after : ℕ → ℕ} (k : ℕ) → k < max_items → Tight i k → before k ≡ 0 → Given k i before after → Path Tight Idle before i after
  -- It goes on from the holder of an item. The rest of the path moves the holder, and touches neither this item nor what bidder i + 1 holds; then the
  -- item goes to the bidder
  onward : {i : ℕ} {after : ℕ → ℕ} (k j : ℕ) (rest : ℕ → ℕ) → Tight i k → Holds before k j → Path Tight Idle before j rest
      → i ≢ j → Holds rest k j → ((x : ℕ) → Holds before x i → Holds rest x i) → Given k i rest after → Path Tight Idle before i after
