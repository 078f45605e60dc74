-- What an answer is told as, in numbers: "Where an answer is an enum, a definition states this paper's number and values for each of its cases."
-- Each call's own definition stands beside the call, and is made of these.
use Rattle.std.specs.Prelude.{◌≡◌, ℕ}
use Rattle.refusals.specs.declared.Refusal.{Refusal}
use Rattle.refusals.specs.declared.Told.{Told}
use Rattle.refusals.specs.Codes.{code_of}

abbrev pub told : ℕ → ℕ → ℕ → Told
told n i v = record { number = n; place = i; value = v }

-- A call that serves has number 0 and place 0
abbrev pub served : ℕ → Told
served v = told 0 0 v

-- "A refusal returns number and place"; of a text the place is the line
abbrev pub refused_at : Refusal → ℕ → ℕ → Told
refused_at r line v = told (code_of r).number line v

abbrev pub refused : Refusal → Told
refused r = refused_at r (code_of r).place 0

-- What is told names one answer: no two refusals are told alike, no refusal is told as a call that served, and neither are two values
pub record ToldApart : Type 0 where
  pub refusals : (r s : Refusal) → refused r ≡ refused s → r ≡ s
  pub apart : (v : ℕ) (r : Refusal) (line w : ℕ) → served v ≡ refused_at r line w → ⊥
  pub values : (v w : ℕ) → served v ≡ served w → v ≡ w
