-- What is within its range: a number, a slack; and the tests of it.
use Rattle.std.specs.Prelude.{ℕ, ◌≤◌, ◌<◌, leb, ltb, Bool, ◌&&◌}
use Rattle.board.specs.Limits.{max_q}

-- A number from a to z
pub record Within (a z x : ℕ) : Type 0 where
  pub low : a ≤ x
  pub high : x ≤ z

-- "kettle not 1 to k", "not 1 to 1,000,000"
unfoldable pub within_test : ℕ → ℕ → Bool
within_test z x = leb 1 x && leb x z

-- "The slack is p/q with 1 ≤ p < q ≤ 1,000" (the check has p from 0)
pub record SlackIn (least p q : ℕ) : Type 0 where
  pub low : least ≤ p
  pub below : p < q
  pub high : q ≤ max_q

-- p or q within its range, p from `least` on
unfoldable pub slack_test : ℕ → ℕ → ℕ → Bool
slack_test least p q = leb least p && (ltb p q && leb q max_q)
