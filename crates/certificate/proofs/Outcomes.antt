-- The check's outcome, as the code comes to it.
use Rattle.std.specs.Prelude.{Err, Ok}
use mathlib.Core.Path.{◌≡◌, refl, ap, ap₂}
use mathlib.Core.List.{List}
use Prim.Native.Nat.{ℕ}
use native.Mathlib.Omega.{arith}
use Rattle.supply.specs.declared.record.Board.{Board}
use Rattle.board.specs.declared.units.Pence.{Pence}
use Rattle.board.specs.declared.units.Scaled.{Scaled}
use Rattle.refusals.specs.declared.Refusal.{Refusal}
use Rattle.board.specs.Cells.{pence, scaled}
use Rattle.supply.specs.Board.{places_at}
use Rattle.supply.specs.ByItem.{withdrawn_at, live}
use Rattle.refusals.specs.Demand1.{Check, Verdict}
use Rattle.board.specs.Lent.{Lists}
use Rattle.refusals.specs.Codes.{code}
use Rattle.refusals.specs.Told.{refused}
use Rattle.refusals.proofs.Verdicts.{codes-apart}
use Rattle.refusals.proofs.Answers.{numbered}
use Rattle.certificate.specs.declared.Totals.{Totals}
use Rattle.certificate.specs.Check.{Checked, check_by, list_checks, totals, without_totals, checked_told}

-- The refusals 10, 11 and 12 of a board
abbrev pub lists_of : Board → Lists → ℕ → ℕ → List Check
lists_of b = list_checks b.market.arrived b.items.count (places_at b) (withdrawn_at b) (live b)

-- What is told of an answer names the answer
pub checked-totals : (c : Checked) (weight sum : ℕ) → checked_told c ≡ totals weight sum → c ≡ Ok (pence weight, scaled sum)
checked-totals (Ok (w, s)) weight sum e = ap₂ (λ w s. Ok (w, s)) (ap pence (ap (λ (t : Totals). t.weight) e)) (ap scaled (ap (λ (t : Totals). t.total) e))
checked-totals (Err r) weight sum e = let z = ap (λ (t : Totals). t.number) e in absurd (omega (arith, numbered r))

pub checked_refused : (c : Checked) (r : Refusal) → checked_told c ≡ without_totals (refused r) → c ≡ Err r
checked_refused (Ok (w, s)) r e = let z = ap (λ (t : Totals). t.number) e in absurd (omega (arith, numbered r))
checked_refused (Err s) r e = ap Err (codes-apart s r (ap (λ (t : Totals). code t.number t.place) e))

module _ (b : Board) (l : Lists) where
  -- Totals come of no refusal
  pub by-totals : (v : Verdict) (weight : Pence) (sum : Scaled) → check_by b l v ≡ Ok (weight, sum) → v ≡ Ok tt
  unfolding check_by
  by-totals (Ok tt) weight sum e = refl
  by-totals (Err r) weight sum e = let z : ◌≡◌ {A = ℕ} 0 1 = cc in absurd (omega arith)
