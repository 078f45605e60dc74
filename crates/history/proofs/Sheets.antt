-- What the program prints, from what a text is answered.
use Rattle.std.specs.Prelude.{Ok, Err}
use mathlib.Core.Path.{◌≡◌, sym, ◌∙◌, ap}
use mathlib.Core.List.{List, ◌++◌}
use Prim.Native.Nat.{ℕ, ◌≤◌}
use native.Mathlib.Omega.{arith}
use lib.ListN.{length, take, drop, length-append}
use lib.Seq.{length-take-le, take_at}
use Rattle.text.specs.Print.{Put}
use Rattle.text.proofs.Puts.{front}
use Rattle.refusals.specs.declared.AtLine.{AtLine}
use Rattle.refusals.specs.Codes.{code_of}
use Rattle.bidding.specs.Rule.{done}
use Rattle.replay.specs.declared.Replayed.{Replayed}
use Rattle.replay.specs.Replay.{replay_of}
use Rattle.history.specs.Output.{output_of, refusal_line}
use Rattle.history.specs.Plan.{printed_by, printed, sheet_of, AtFront, SheetWritten}

pub at_front : (bytes before after : List ℕ) (n : ℕ) → n ≡ length bytes → after ≡ bytes ++ drop n before → AtFront bytes before after n
at_front bytes before after n long e =
    let h : n ≤ length after = rw e (rw length-append (omega (arith, long))) in
    record {
      fits = h;
      long = sym (length-take-le n after h);
      bytes = ap (λ (l : List ℕ). take n l) e ∙ take_at bytes (drop n before) n (sym long);
      list = e;
    }

-- What was put there
pub put-front : {out after bytes : List ℕ} {n : ℕ} → n ≤ length out → Put out after 0 bytes n → AtFront bytes out after n
put-front {out} {after} {bytes} {n} room p =
    let long : n ≡ length bytes = omega (arith, p.moved) in
    at_front bytes out after n long (front (omega (arith, long)) p ∙ ap (λ (k : ℕ). bytes ++ drop k out) (sym long))

module _ (s : List ℕ) (r : Replayed) (e : done r ≡ replay_of s) where
  pub sheet-finished : {out after : List ℕ} {n : ℕ} → r.answer ≡ Ok tt → AtFront (output_of r.board r.bids) out after n → SheetWritten s out after n
  unfolding sheet_of printed printed_by
  sheet-finished f w =
      let q : output_of r.board r.bids ≡ sheet_of s = ap (printed_by r.board r.bids) (sym f) ∙ ap printed e in
      rw (← q) w

  pub sheet-refused : {out after : List ℕ} {number n : ℕ} (stop : AtLine) → r.answer ≡ Err stop → number ≡ (code_of stop.refusal).number →
      AtFront (refusal_line number stop.line) out after n → SheetWritten s out after n
  unfolding sheet_of printed printed_by
  sheet-refused {number = number} stop f c w =
      let q : refusal_line number stop.line ≡ sheet_of s = ap (λ (k : ℕ). refusal_line k stop.line) c ∙ (ap (printed_by r.board r.bids) (sym f) ∙ ap printed e) in
      rw (← q) w
