-- The worked refusals and answers hold: the calls by computation, the texts by demand 1.
use Rattle.std.specs.Prelude.{Err}
use mathlib.Core.Path.{◌≡◌, refl, sym, ap, ◌∙◌}
use mathlib.Core.List.{List, []}
use Prim.Native.Nat.{ℕ}
use native.Mathlib.Omega.{arith}
use lib.ListN.{get_or}
use Rattle.text.specs.Print.{decimal}
use Rattle.refusals.specs.declared.Refusal.{Refusal}
use Rattle.refusals.specs.Demand1.{first_of}
use Rattle.supply.specs.Opening.{opened}
use Rattle.auction.proofs.CallVerdicts.{arrive-spoilt, arrive-full, withdraw-spoilt, read-out-by}
use Rattle.certificate.specs.Check.{checked_told}
use Rattle.cases.proofs.Outcomes.{check-spoilt}
use Rattle.replay.specs.Replay.{opens}
use Rattle.replay.specs.Says.{Says, opening}
use Rattle.replay.specs.TextDemand1.{TextRefused, LineRefused}
use Rattle.history.proofs.Demand1.{sheets-demand-1}
use Rattle.cases.specs.FullBoard.{full}
use Rattle.cases.specs.Refused.{refusals, FullAnswers, TextLimit, Answers, Worked}
use Rattle.cases.proofs.FullBoard.{full-sound, full-unsound}
use Rattle.cases.proofs.Table.{all-played, computed-refusals}

full-answers : FullAnswers
unfolding full first_of
full-answers =
    record {
      at_most = λ edges. record { answer = Err Refusal.Full; outcome = arrive-full (full 3) edges full-sound (omega arith); tells = refl };
      arrives = λ edges. record { answer = Err Refusal.Spoilt; outcome = arrive-spoilt (full 4) edges full-unsound; tells = refl };
      withdraws = λ items. record { answer = Err Refusal.Spoilt; outcome = withdraw-spoilt (full 4) items full-unsound; tells = refl };
      reads = λ l. let e = read-out-by (full 4) l {r = Refusal.Spoilt} (rw full-unsound) in record { lists = rw e; tells = rw e };
      checks = λ l p q. sym (ap checked_told (check-spoilt (full 4) l p q full-unsound));
    }

text-limit : TextLimit
unfolding decimal
text-limit =
    record {
      above = λ s e. (sheets-demand-1 s).refuses 0 (opened 0 0 []) 0 Refusal.Long (TextRefused.long (omega (arith, e)));
      most = λ s e a. (sheets-demand-1 s).refuses 1 (opened 0 0 []) 0 (Refusal.Line 1) (TextRefused.by-line (omega (arith, e)) (LineRefused.unopened (λ k p q next w. no-opening s k p q next a w)));
    }
  where
    no-opening : (s : List ℕ) (k p q next : ℕ) → get_or s 0 0 ≡ 65 → Says s 0 (opens k p q) next → ⊥
    no-opening s k p q next a (opening c w) = omega (arith, a, c)

answers : Answers
answers =
    record {
      opened = refl;
      arrived = refl;
      arrived_refused = refl;
      withdrawn = refl;
      withdrawn_refused = refl;
      read_out_served = refl;
      ended = refl;
      stopped = refl;
      planned = refl;
      planned_refused = refl;
      checked = refl;
      checked_refused = refl;
    }

pub worked : Worked
worked = record { refusals = all-played refusals ∙ computed-refusals; boards = full-answers; texts = text-limit; answers = answers }
