-- Tests that decide a statement.
use Rattle.std.specs.Prelude.{◌≡◌, Bool, true, ◌&&◌, ℕ, zero, suc}

-- A test is true exactly when the statement holds
pub record Decides (t : Bool) (P : Type 0) : Type 0 where
  pub sound : t ≡ true → P
  pub complete : P → t ≡ true

-- The test holds at each number below a bound
unfoldable pub all_below : ℕ → (ℕ → Bool) → Bool
all_below zero f = true
all_below (suc n) f = all_below n f && f n
