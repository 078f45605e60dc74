-- Laws of what fits a lent list, and of a text's two outcomes.
use Rattle.std.specs.Prelude.{Ok}
use mathlib.Core.Path.{◌≡◌, sym, ◌∙◌, ap}
use mathlib.Core.List.{List, ◌++◌}
use Prim.Native.Nat.{ℕ, ◌≤◌, ◌<◌}
use native.Mathlib.Omega.{arith}
use lib.ListN.{length, take, drop, replicate, length-replicate}
use lib.Seq.{length-take-le}
use borrow.Author.Tests.{lt-ltb, le-ltb}
use Rattle.text.specs.Print.{Put}
use Rattle.text.proofs.Puts.{front-taken}
use Rattle.refusals.specs.declared.Refusal.{Refusal}
use Rattle.replay.specs.declared.Replayed.{Replayed}
use Rattle.bidding.specs.Rule.{done}
use Rattle.supply.specs.Sound.{Sound}
use Rattle.replay.specs.Replay.{replay_of, Ending, halted}
use Rattle.auction.proofs.Histories.{history-demand-2}
use Rattle.replay.specs.ReplayLaws.{TextReached}
use Rattle.replay.specs.TextDemand1.{ending_told}
use Rattle.replay.proofs.ReplayLaws.{replay-reached}
use Rattle.history.specs.Limits.{max_output}
use Rattle.history.specs.Output.{output_of}
use Rattle.history.specs.Plan.{planned, fitted, ended_by, plan_from, plan_of, Planned}

-- ---- What fits

pub fit-short : (bytes out : List ℕ) → length out < length bytes → fitted bytes out ≡ planned (halted Refusal.Short 0) out
unfolding fitted
fit-short bytes out h = rw (lt-ltb (length out) (length bytes) h)

pub fit_written : (bytes out : List ℕ) → length bytes ≤ length out → fitted bytes out ≡ planned (Ok (length bytes)) (bytes ++ drop (length bytes) out)
unfolding fitted
fit_written bytes out h = rw (le-ltb (length out) (length bytes) h)

-- a page's first bytes
pub page-short : (page out : List ℕ) (n : ℕ) → n ≤ length page → length out < n → planned (halted Refusal.Short 0) out ≡ fitted (take n page) out
page-short page out n room h = sym (fit-short (take n page) out (omega (arith, length-take-le n page room)))

pub page-written : (page out new : List ℕ) (n : ℕ) → n ≤ length page → n ≤ length out → new ≡ take n page ++ drop n out →
    planned (Ok n) new ≡ fitted (take n page) out
page-written page out new n room h e =
    let long = length-take-le n page room in
    ap (planned (Ok n)) e
    ∙ (ap (λ (k : ℕ). planned (Ok k) (take n page ++ drop k out)) (sym long)
    ∙ sym (fit_written (take n page) out (omega (arith, long))))

-- a page that was put
pub page-put : {m bytes : List ℕ} {n : ℕ} (out new : List ℕ) (a : Planned) → Put (replicate max_output 0) m 0 bytes n → n ≤ max_output →
    planned a new ≡ fitted (take n m) out → planned a new ≡ fitted bytes out
page-put {bytes = bytes} {n = n} out new a p room e =
    e ∙ ap (λ (z : List ℕ). fitted z out) (front-taken (rw length-replicate (omega (arith, p.moved))) p)

-- ---- A text

-- A finished text is a history
pub text-reached : (s : List ℕ) (r : Replayed) → replay_of s ≡ done r → r.answer ≡ Ok tt → TextReached s r.board r.bids
text-reached s r e f = replay-reached s r.board r.bids (record { answer = r.answer; bids = r.bids; outcome = e; tells = ap (λ (x : Ending). ending_told x r.bids) f })

module _ (s out : List ℕ) (r : Replayed) (e : done r ≡ replay_of s) where
  pub plan-stopped : (q : Refusal) (n : ℕ) → r.answer ≡ halted q n → done (planned (halted q n) out) ≡ plan_of s out
  unfolding plan_of plan_from ended_by
  plan-stopped q n a = ap (λ (x : Ending). done (ended_by out r.board r.bids x)) (sym a) ∙ ap (plan_from out) e

  pub plan-finished : (a : Planned) (new : List ℕ) → r.answer ≡ Ok tt → planned a new ≡ fitted (output_of r.board r.bids) out → done (planned a new) ≡ plan_of s out
  unfolding plan_of plan_from ended_by
  plan-finished a new f w = ap done w ∙ (ap (λ (x : Ending). done (ended_by out r.board r.bids x)) (sym f) ∙ ap (plan_from out) e)

  -- a text that is finished leaves a sound board
  pub finished-sound : r.answer ≡ Ok tt → Sound r.board
  finished-sound f = let h = text-reached s r (sym e) f in (history-demand-2 r.board h.entries r.bids h.reached).sound
