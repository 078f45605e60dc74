-- What comes of a text and a lent list is what the text's lines are, and the list's room.
use Rattle.std.specs.Prelude.{Ok, Err}
use Rattle.replay.specs.Replay.{halted}
use mathlib.Core.Path.{◌≡◌, refl, sym, ap, subst, ◌∙◌}
use mathlib.Core.Bool.{Bool, true, false}
use mathlib.Core.List.{List, ◌++◌}
use Prim.Native.Nat.{ℕ, ◌<◌}
use native.Mathlib.Omega.{arith}
use lib.ListN.{length, drop}
use lib.Dec.{ltb}
use borrow.Author.Tests.{ltb-true, ltb-false}
use Rattle.refusals.specs.declared.Refusal.{Refusal}
use Rattle.refusals.specs.declared.AtLine.{AtLine}
use Rattle.refusals.specs.declared.Told.{Told}
use Rattle.refusals.specs.Codes.{code_of}
use Rattle.refusals.specs.Told.{told, served, refused_at}
use Rattle.refusals.proofs.Answers.{served-apart}
use Rattle.supply.specs.declared.record.Board.{Board}
use Rattle.bidding.specs.Rule.{done}
use Rattle.replay.specs.declared.Replayed.{Replayed}
use Rattle.replay.specs.ReplayLaws.{replayed}
use Rattle.replay.specs.TextDemand1.{TextFinished}
use Rattle.replay.proofs.Texts.{TextFate, stops, ends, replay-fate, refused-text, finished-text}
use Rattle.history.specs.Output.{output_of}
use Rattle.history.specs.Plan.{PlanOutcome, planned, plan_of, printed, printed_by, sheet_of, Planned}
use Rattle.history.specs.Demand1.{planned_told, PlanRefused, text, short, PlanWritten, PlanAnswers, PlansDemand1, SheetsDemand1}
use Rattle.history.proofs.Plans.{fit-short, fit_written, plan-stopped, plan-finished}

-- ---- From what the text is to the outcome

module _ (s out : List ℕ) where
  refused-plan : {r : Refusal} {n : ℕ} → PlanRefused s out r n → plan_of s out ≡ done (planned (halted r n) out)
  refused-plan (text {n} {bids} {b} {r} t) = sym (plan-stopped s out (replayed b bids (halted r n)) (sym (refused-text t)) r n refl)
  refused-plan (short {bids = bids} {b = b} t l) = sym (plan-finished s out (replayed b bids (Ok tt)) (sym (finished-text t)) _ _ refl (sym (fit-short (output_of b bids) out l)))

  written-plan : {n : ℕ} {after : List ℕ} → PlanWritten s out n after → plan_of s out ≡ done (planned (Ok n) after)
  written-plan {n} {after} w =
      let b = w.board in
      let bids = w.bids in
      sym (plan-finished s out (replayed b bids (Ok tt)) (sym (finished-text w.finished)) _ _ refl
      (ap (planned (Ok n)) w.list ∙ ap (λ (k : ℕ). planned (Ok n) (output_of b bids ++ drop k out)) w.bytes
      ∙ ap (λ (k : ℕ). planned (Ok k) (output_of b bids ++ drop (length (output_of b bids)) out)) w.bytes ∙ sym (fit_written (output_of b bids) out w.fits)))

  -- ---- From the outcome to what the text is

  data PlanFate : PlanOutcome → Type 0 where
    refuses : {r : Refusal} {n : ℕ} → PlanRefused s out r n → PlanFate (planned (halted r n) out)
    writes : {n : ℕ} {after : List ℕ} → PlanWritten s out n after → PlanFate (planned (Ok n) after)

  abbrev Fated : Type 0
  Fated = (o : PlanOutcome) × (plan_of s out ≡ done o) × PlanFate o

  by-room : {b : Board} {entries bids : ℕ} → TextFinished s b entries bids → (x : Bool) → ltb (length out) (length (output_of b bids)) ≡ x → Fated
  by-room {b} {entries} {bids} t true q = let p = short t (ltb-true _ _ q) in (_, refused-plan p, refuses p)
  by-room {b} {entries} {bids} t false q =
      let p : PlanWritten s out (length (output_of b bids)) (output_of b bids ++ drop (length (output_of b bids)) out) =
      record { board = b; entries = entries; bids = bids; finished = t; fits = ltb-false _ _ q; bytes = refl; list = refl } in
      (_, written-plan p, writes p)

  by-fate : {r : Replayed} → TextFate s r → Fated
  by-fate (stops t) = let p : PlanRefused s out _ _ = text t in (_, refused-plan p, refuses p)
  by-fate (ends {m = m} {b = b} t) = by-room t (ltb (length out) (length (output_of b m))) refl

  plan-fate : {o : PlanOutcome} → plan_of s out ≡ done o → PlanFate o
  plan-fate {o} e =
      let u = by-fate (replay-fate s).2 in
      let h = sym u.1 ∙ e in
      let q : u.0 ≡ o = cc in
      subst PlanFate q u.2

  refused-fate : {o : PlanOutcome} {r : Refusal} {n : ℕ} {after : List ℕ} → o ≡ planned (halted r n) after → PlanFate o → PlanRefused s out r n × (after ≡ out)
  refused-fate {o} {r} {n} {after} e (refuses {r = q} {n = k} p) =
      let a : ◌≡◌ {A = Planned} (halted q k) (halted r n) = ap (λ (o : PlanOutcome). o.answer) e in
      let t : ◌≡◌ {A = AtLine} (record { refusal = q; line = k }) (record { refusal = r; line = n }) = cc in
      let same-r : q ≡ r = ap (λ (t : AtLine). t.refusal) t in
      let same-n : k ≡ n = ap (λ (t : AtLine). t.line) t in
      (rw (same-r, same-n) at p, sym (ap (λ (o : PlanOutcome). o.out) e))
  refused-fate {o} {r} {n} {after} e (writes {n = k} p) =
      let a : ◌≡◌ {A = Planned} (Ok k) (halted r n) = ap (λ (o : PlanOutcome). o.answer) e in
      let z : ◌≡◌ {A = ℕ} 0 1 = cc in
      absurd (omega arith)

  written-fate : {o : PlanOutcome} {n : ℕ} {after : List ℕ} → o ≡ planned (Ok n) after → PlanFate o → PlanWritten s out n after
  written-fate {o} {n} {after} e (writes {n = k} {after = l} p) =
      let a : ◌≡◌ {A = Planned} (Ok k) (Ok n) = ap (λ (o : PlanOutcome). o.answer) e in
      let same-n : k ≡ n = cc in
      let same-l : l ≡ after = ap (λ (o : PlanOutcome). o.out) e in
      rw (same-n, same-l) at p
  written-fate {o} {n} {after} e (refuses {r = q} {n = k} p) =
      let a : ◌≡◌ {A = Planned} (halted q k) (Ok n) = ap (λ (o : PlanOutcome). o.answer) e in
      let z : ◌≡◌ {A = ℕ} 0 1 = cc in
      absurd (omega arith)

  -- ---- In numbers

  told-refused : {number line : ℕ} {after : List ℕ} → 0 < number → (a : PlanAnswers s out after (told number line 0)) (x : Planned) → a.answer ≡ x →
      (r : Refusal) × ((code_of r).number ≡ number) × PlanRefused s out r line × (after ≡ out)
  told-refused {number} {line} {after} h a (Ok n) e =
      let z = ap (λ (t : Told). t.number) (sym (ap planned_told e) ∙ a.tells) in absurd (omega arith)
  told-refused {number} {line} {after} h a (Err t) e =
      let u : refused_at t.refusal t.line 0 ≡ told number line 0 = sym (ap planned_told e) ∙ a.tells in
      let same-n : t.line ≡ line = ap (λ (t : Told). t.place) u in
      let w = refused-fate refl (plan-fate (a.outcome ∙ ap (λ (x : Planned). done (planned x after)) e)) in
      (t.refusal, ap (λ (t : Told). t.number) u, subst (λ (k : ℕ). PlanRefused s out t.refusal k) same-n w.0, w.1)

  told-written : {n : ℕ} {after : List ℕ} (a : PlanAnswers s out after (served n)) (x : Planned) → a.answer ≡ x → PlanWritten s out n after
  told-written {n} {after} a (Ok k) e =
      let same-n : k ≡ n = ap (λ (t : Told). t.value) (sym (ap planned_told e) ∙ a.tells) in
      let w = written-fate refl (plan-fate (a.outcome ∙ ap (λ (x : Planned). done (planned x after)) e)) in
      subst (λ (k : ℕ). PlanWritten s out k after) same-n w
  told-written {n} {after} a (Err t) e = served-apart n t.refusal t.line 0 (sym (sym (ap planned_told e) ∙ a.tells))

pub plans-demand-1 : PlansDemand1
plans-demand-1 s out =
    record {
      refuses = λ r n after. (λ e. refused-fate s out refl (plan-fate s out e), λ u. refused-plan s out u.0 ∙ ap (λ (l : List ℕ). done (planned (halted r n) l)) (sym u.1));
      writes = λ n after. (λ e. written-fate s out refl (plan-fate s out e), written-plan s out);
      numbered = λ number line after h. (
        λ a. told-refused s out h a a.answer refl,
        λ u. record {
          answer = halted u.0 line;
          outcome = refused-plan s out u.2 ∙ ap (λ (l : List ℕ). done (planned (halted u.0 line) l)) (sym u.3);
          tells = ap (λ (k : ℕ). told k line 0) u.1;
        },
      );
      served = λ n after. (λ a. told-written s out a a.answer refl, λ w. record { answer = Ok n; outcome = written-plan s out w; tells = refl });
    }

pub sheets-demand-1 : SheetsDemand1
unfolding sheet_of printed printed_by
sheets-demand-1 s = record { plans = λ b entries bids t. ap printed (finished-text t); refuses = λ n b bids r t. ap printed (refused-text t) }
