-- What is told of an answer names the answer.
use Rattle.refusals.specs.Demand1.{Verdict}
use mathlib.Core.Path.{◌≡◌, refl, sym, ap}
use Prim.Native.Nat.{ℕ}
use Rattle.refusals.specs.declared.Refusal.{Refusal}
use Rattle.refusals.specs.declared.Told.{Told}
use Rattle.refusals.specs.Told.{served, refused}
use Rattle.refusals.proofs.Answers.{refused-apart, served-apart}
use Rattle.std.specs.Prelude.{Result, Ok, Err}
use Rattle.supply.specs.Opening.{opened_told}
use Rattle.auction.specs.Arrive.{arrived_told}
use Rattle.auction.specs.Withdraw.{withdrawn_told}
use Rattle.auction.specs.ReadOut.{read_out_told}

abbrev value_in : Told → ℕ
value_in t = t.value

pub opened-refused : (a : Verdict) (r : Refusal) → opened_told a ≡ refused r → a ≡ Err r
opened-refused (Ok tt) r e = served-apart 0 r _ _ e
opened-refused (Err s) r e = ap Err (refused-apart s r e)

pub opened-ready : (a : Verdict) → opened_told a ≡ served 0 → a ≡ (Ok tt)
opened-ready (Ok tt) e = refl
opened-ready (Err s) e = served-apart 0 s _ _ (sym e)

pub arrived_refused : (a : Result ℕ Refusal) (r : Refusal) → arrived_told a ≡ refused r → a ≡ Err r
arrived_refused (Ok n) r e = served-apart n r _ _ e
arrived_refused (Err s) r e = ap Err (refused-apart s r e)

pub arrived-bids : (a : Result ℕ Refusal) (n : ℕ) → arrived_told a ≡ served n → a ≡ Ok n
arrived-bids (Ok m) n e = ap Ok (ap value_in e)
arrived-bids (Err s) n e = served-apart n s _ _ (sym e)

pub withdrawn_refused : (a : Result ℕ Refusal) (r : Refusal) → withdrawn_told a ≡ refused r → a ≡ Err r
withdrawn_refused (Ok n) r e = served-apart n r _ _ e
withdrawn_refused (Err s) r e = ap Err (refused-apart s r e)

pub withdrawn-bids : (a : Result ℕ Refusal) (n : ℕ) → withdrawn_told a ≡ served n → a ≡ Ok n
withdrawn-bids (Ok m) n e = ap Ok (ap value_in e)
withdrawn-bids (Err s) n e = served-apart n s _ _ (sym e)

pub read-refused : (a : Result (Unit {0}) Refusal) (r : Refusal) → read_out_told a ≡ refused r → a ≡ Err r
read-refused (Ok tt) r e = served-apart 0 r _ _ e
read-refused (Err s) r e = ap Err (refused-apart s r e)

pub read-written : (a : Result (Unit {0}) Refusal) → read_out_told a ≡ served 0 → a ≡ (Ok tt)
read-written (Ok tt) e = refl
read-written (Err s) e = served-apart 0 s _ _ (sym e)
