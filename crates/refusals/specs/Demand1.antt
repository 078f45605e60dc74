-- A call's checks in order, and demand 1 of any call.
use Rattle.std.specs.Prelude.{◌≡◌, Bool, cond, List, [], ◌∷◌, ◌++◌, map, ◌↔◌, Result, Ok, Err}
use Rattle.refusals.specs.declared.Refusal.{Refusal}
use Rattle.refusals.specs.Codes.{Code, code_of, Coded}

-- A refusal with the test of whether it is met. A call's checks stand in the call's order
pub record Check : Type 0 where
  pub refusal : Refusal
  pub test : Bool

abbrev pub check_for : Refusal → Bool → Check
check_for r t = record { refusal = r; test = t }

-- Numbers and places of the checks, in their order
abbrev pub codes_of : List Check → List Code
codes_of checks = map (λ (c : Check). code_of c.refusal) checks

-- Whether a call is served: `Ok tt`, or the refusal
abbrev pub Verdict : Type 0
Verdict = Result (Unit {0}) Refusal

-- The verdict: the first refusal whose test is true
unfoldable pub first_of : List Check → Verdict
first_of [] = Ok tt
first_of (c ∷ rest) = cond c.test (Err c.refusal) (first_of rest)

-- ---- Demand 1. Met is the call's rows in the table's words.

-- No refusal of the checks is met
pub data Unmet (Met : Refusal → Type 0) : List Check → Type 0 where
  none : Unmet Met []
  also : {c : Check} {rest : List Check} → (Met c.refusal → ⊥) → Unmet Met rest → Unmet Met (c ∷ rest)

-- A refusal of the checks is met, and nothing before it is
pub record Leads (Met : Refusal → Type 0) (checks : List Check) (r : Refusal) : Type 0 where
  pub before : List Check
  pub test : Bool
  pub after : List Check
  pub stands : checks ≡ before ++ (check_for r test ∷ after)
  pub met : Met r
  pub unmet : Unmet Met before

-- "If a call meets a condition in the table of refusals, it gives that number by the stated order of checks, and the board and each lent list stay byte
-- for byte as they were; otherwise it is served." Answers r is that the call answers refusal r and leaves all as it was; Serves is that it serves.
pub record Demand1 (Met : Refusal → Type 0) (checks : List Check) (Answers : Refusal → Type 0) (Serves : Type 0) : Type 0 where
  pub refuses : (r : Refusal) → Answers r → Leads Met checks r
  pub refused_by : (r : Refusal) → Leads Met checks r → Answers r
  pub serves : Serves → Unmet Met checks
  pub served_by : Unmet Met checks → Serves
  -- In numbers: the answer is number n at place i exactly when that row of the table is the first that is met
  pub numbered : (c : Code) → Coded Answers c ↔ Coded (Leads Met checks) c
