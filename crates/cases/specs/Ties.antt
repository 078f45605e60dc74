-- Choices among two items of equal utility, and the second utility beside each, worked on the rule itself.
use Rattle.std.specs.Prelude.{ℕ, zero, suc}
use Rattle.bidding.specs.Rule.{Chosen, Second}

-- The numbers of two items, by index
abbrev pub two : ℕ → ℕ → ℕ → ℕ
two first second zero = first
two first second (suc k) = second

pub record Ties : Type 0 where
  -- Document 02, R-1: "at 1/10 with kettle 1 priced 0 and worth 50, and kettle 2 priced 100 and worth 60, kettle 2 is now taken", and kettle 1 is not
  pub heavier : Chosen 1 10 2 (two 50 60) (two 0 100) 1
  pub lighter : Chosen 1 10 2 (two 50 60) (two 0 100) 0 → ⊥
  -- The same where the larger worth stands at the lower number
  pub below : Chosen 1 10 2 (two 60 50) (two 100 0) 0
  -- "Case 5 stands": "Entries 50 and 50 on kettles 1 and 2: kettle 1"
  pub lower : Chosen 1 2 2 (two 50 50) (two 0 0) 0
  -- Utility goes before worth: 10 × 60 - 101 is less than 10 × 50
  pub utility : Chosen 1 10 2 (two 50 60) (two 0 101) 0
  -- "equality is not open": at 1/2, kettle 2 priced 100 and worth 100 has the utility of kettle 1, and more worth, and is not taken
  pub shut : Chosen 1 2 2 (two 50 100) (two 0 100) 0
  -- Document 02, R-7, "the greatest utility of any other open place of that batch": of two equal ones the other's, so that the lead is 0
  pub even : Second 1 10 2 (two 50 60) (two 0 100) 1 500
  -- 10 × 60 - 101 beside 10 × 50: the lead is 1
  pub lead : Second 1 10 2 (two 50 60) (two 0 101) 0 499
  -- "0 if none": an entry that is not open is no second, whatever its utility
  pub alone : Second 1 2 2 (two 50 100) (two 0 100) 0 0
