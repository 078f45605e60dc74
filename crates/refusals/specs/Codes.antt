-- Refusals: their numbers and places.
use Rattle.std.specs.Prelude.{◌≡◌, ℕ}
use Rattle.refusals.specs.declared.Refusal.{Refusal}
use Rattle.refusals.specs.declared.Refusal.TheVariants.{Count, Slack, Full, Unknown, Gone, Worth, Order, Short, Uneven, Clash, Price, Bare, Spoilt, Line, Long, Places, Large}

-- "A refusal returns number and place"
pub record Code : Type 0 where
  pub number : ℕ
  pub place : ℕ

abbrev pub code : ℕ → ℕ → Code
code n i = record { number = n; place = i }

-- The table's rows: number, and place
abbrev pub code_of : Refusal → Code
code_of Count = code 1 0
code_of Slack = code 2 0
code_of Full = code 3 0
code_of (Unknown i) = code 4 i
code_of (Gone i) = code 5 i
code_of (Worth i) = code 6 i
code_of (Order i) = code 7 i
code_of Short = code 8 0
code_of Uneven = code 9 0
code_of (Clash i) = code 10 i
code_of (Price i) = code 11 i
code_of (Bare i) = code 12 i
code_of Spoilt = code 13 0
code_of (Line i) = code 14 i
code_of Long = code 15 0
-- Document 02, R-6: 16 "places"
code_of (Places i) = code 16 i
-- Document 02, R-9: 17 "large". "It and every later number without a stated place have place 0"
code_of Large = code 17 0

-- No two refusals have number and place in common
abbrev pub CodesApart : Type 0
CodesApart = (r s : Refusal) → code_of r ≡ code_of s → r ≡ s

-- P of the refusal that has this number and place
pub record Coded (P : Refusal → Type 0) (c : Code) : Type 0 where
  pub refusal : Refusal
  pub coded : code_of refusal ≡ c
  pub holds : P refusal
