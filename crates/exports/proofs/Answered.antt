-- An outcome is told as its answer is told.
use mathlib.Core.Path.{◌≡◌, ap, ◌∙◌}
use mathlib.Core.List.{List}
use Prim.Native.Nat.{ℕ}
use Rattle.std.specs.Prelude.{Result}
use Rattle.refusals.specs.declared.Refusal.{Refusal}
use Rattle.refusals.specs.Demand1.{Verdict}
use Rattle.bidding.specs.Rule.{Outcome, done}
use Rattle.board.specs.Lent.{Lists}
use Rattle.auction.specs.ReadOut.{ReadOutcome, read_out_told}
use Rattle.auction.specs.ReadOut as calls
use Rattle.history.specs.Plan.{PlanOutcome, Planned}
use Rattle.history.specs.Plan as plan
use Rattle.refusals.specs.declared.Told.{Told}
use Rattle.history.specs.Demand1.{planned_told}
use Rattle.layout.specs.Stored.{RowLists}
use Rattle.page.specs.Writing.{WriteOutcome, wrote, written_told}
use Rattle.page.specs.Reading.{RowsOutcome, read, read_told}
use Rattle.exports.specs.Answers.{answered, told_lists, read_out_answer, told_bytes, plan_answer, write_answer, told_rows, read_answer}

pub told-done : {A B : Type 0} (f : A → B) {x : A} {y : B} {o : Outcome A} → done x ≡ o → y ≡ f x → done y ≡ answered f o
told-done f e t = ap done t ∙ ap (answered f) e

pub told-lists : (a : Verdict) (t : Told) (l : Lists) {o : ReadOutcome} → calls.outcome a l ≡ o → t ≡ read_out_told a → told_lists t l ≡ read_out_answer o
told-lists a t l e h = ap (λ x. told_lists x l) h ∙ ap read_out_answer e

pub told-bytes : (a : Planned) (t : Told) (out : List ℕ) {o : PlanOutcome} → plan.planned a out ≡ o → t ≡ planned_told a → told_bytes t out ≡ plan_answer o
told-bytes a t out e h = ap (λ x. told_bytes x out) h ∙ ap plan_answer e

pub told-page : (a : Result ℕ Refusal) (t : Told) (page : List ℕ) {o : WriteOutcome} → wrote a page ≡ o → t ≡ written_told a → told_bytes t page ≡ write_answer o
told-page a t page e h = ap (λ x. told_bytes x page) h ∙ ap write_answer e

pub told-rows : (a : Result ℕ Refusal) (t : Told) (l : RowLists) {o : RowsOutcome} → read a l ≡ o → t ≡ read_told a → told_rows t l ≡ read_answer o
told-rows a t l e h = ap (λ x. told_rows x l) h ∙ ap read_answer e
