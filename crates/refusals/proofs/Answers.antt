-- What is told names one answer.
use mathlib.Core.Path.{◌≡◌, ap}
use Prim.Native.Nat.{ℕ, ◌<◌}
use native.Mathlib.Omega.{arith}
use Rattle.refusals.specs.declared.Refusal.{Refusal}
use Rattle.refusals.specs.declared.Refusal.TheVariants.{Count, Slack, Full, Unknown, Gone, Worth, Order, Short, Uneven, Clash, Price, Bare, Spoilt, Line, Long, Places, Large}
use Rattle.refusals.specs.declared.Told.{Told}
use Rattle.refusals.specs.Codes.{Code, code, code_of}
use Rattle.refusals.specs.Told.{served, refused_at, refused, ToldApart}
use Rattle.refusals.proofs.Verdicts.{codes-apart}

-- The numbers of the table begin at 1
pub numbered : (r : Refusal) → 0 < (code_of r).number
numbered Count = omega arith
numbered Slack = omega arith
numbered Full = omega arith
numbered (Unknown i) = omega arith
numbered (Gone i) = omega arith
numbered (Worth i) = omega arith
numbered (Order i) = omega arith
numbered Short = omega arith
numbered Uneven = omega arith
numbered (Clash i) = omega arith
numbered (Price i) = omega arith
numbered (Bare i) = omega arith
numbered Spoilt = omega arith
numbered (Line i) = omega arith
numbered Long = omega arith
numbered (Places i) = omega arith
numbered Large = omega arith

abbrev code_in : Told → Code
code_in t = code t.number t.place

pub refused-apart : (r s : Refusal) → refused r ≡ refused s → r ≡ s
refused-apart r s e = codes-apart r s (ap code_in e)

pub served-apart : {A : Type 0} (v : ℕ) (r : Refusal) (line w : ℕ) → served v ≡ refused_at r line w → A
served-apart v r line w e = let z : 0 ≡ (code_of r).number = ap (λ (t : Told). t.number) e in absurd (omega (arith, numbered r))

pub told-apart : ToldApart
told-apart = record { refusals = refused-apart; apart = served-apart; values = λ v w e. ap (λ (t : Told). t.value) e }
