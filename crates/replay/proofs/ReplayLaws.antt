-- Every text has an outcome, which is the one that its lines say; a finished one is a history.
use Rattle.std.specs.Prelude.{Ok, Err}
use mathlib.Core.Path.{◌≡◌, refl, sym, ap, subst, ◌∙◌}
use mathlib.Core.Bool.{Bool, true, false, cond, ◌&&◌}
use mathlib.Core.List.{List}
use Prim.Native.Nat.{ℕ, suc, ◌-◌, ◌<◌}
use native.Mathlib.Nat.{suc_inj}
use lib.ListN.{set}
use lib.Dec.{eqb}
use native.Mathlib.Omega.{arith}
use Rattle.refusals.specs.declared.Refusal.{Refusal}
use Rattle.refusals.specs.declared.AtLine.{AtLine}
use Rattle.refusals.specs.declared.Told.{Told}
use Rattle.refusals.specs.Codes.{code_of}
use Rattle.refusals.specs.Told.{told, served, refused_at}
use Rattle.refusals.proofs.Answers.{served-apart}
use Rattle.supply.specs.declared.record.Board.{Board}
use Rattle.supply.specs.Opening.{Opening, OpenAnswers}
use Rattle.bidding.specs.Rule.{done}
use Rattle.auction.specs.Arrive.{arrival}
use Rattle.auction.specs.Withdraw.{withdrawal}
use Rattle.auction.specs.Histories.{Reached}
use Rattle.auction.proofs.Told.{opened-ready, arrived-bids, withdrawn-bids}
use Rattle.replay.specs.declared.Replayed.{Replayed}
use Rattle.replay.specs.Replay.{at_line, ones, replay_of, Ending, halted}
use Rattle.replay.specs.ReplayLaws.{replayed, ReplayEnds, LinesReached, LinesOpen, ReplayReached, RefusedBefore}
use Rattle.replay.specs.TextDemand1.{Stage, beginning, Lines, first, placed, arrived, withdrew, LineRefused, TextRefused, TextFinished, ending_told, ReplayAnswers, TextsDemand1}
use Rattle.auction.proofs.Opening.{opening-ready}
use Rattle.replay.proofs.ReplayLines.{unfinished}
use Rattle.replay.proofs.Texts.{TextFate, stops, ends, replay-fate, refused-text, finished-text}

pub replay_ends : ReplayEnds
replay_ends s = let u = replay-fate s in (u.0, u.1)

-- ---- Exactly

module _ (s : List ℕ) where
  -- What the text comes to is its fate
  fated : {r : Replayed} → replay_of s ≡ done r → TextFate s r
  fated {r} e =
      let u = replay-fate s in
      let h = sym u.1 ∙ e in
      let q : u.0 ≡ r = cc in
      subst (TextFate s) q u.2

  refused-fate : {b : Board} {bids n : ℕ} {r : Refusal} {x : Replayed} → x ≡ replayed b bids (halted r n) → TextFate s x → TextRefused s n b bids r
  refused-fate {b} {bids} {n} {r} e (stops {n = k} {m = m} {b = c} {r = q} t) =
      let a : ◌≡◌ {A = Ending} (halted q k) (halted r n) = ap (λ (x : Replayed). x.answer) e in
      let s : ◌≡◌ {A = AtLine} (record { refusal = q; line = k }) (record { refusal = r; line = n }) = cc in
      let same-r : q ≡ r = ap (λ (s : AtLine). s.refusal) s in
      let same-n : k ≡ n = ap (λ (s : AtLine). s.line) s in
      let same-b : c ≡ b = ap (λ (x : Replayed). x.board) e in
      let same-m : m ≡ bids = ap (λ (x : Replayed). x.bids) e in
      rw (same-r, same-n, same-b, same-m) at t
  refused-fate e (ends t) = unfinished (sym (ap (λ (x : Replayed). x.answer) e))

  finished-fate : {b : Board} {bids : ℕ} {x : Replayed} → x ≡ replayed b bids (Ok tt) → TextFate s x → (entries : ℕ) × TextFinished s b entries bids
  finished-fate {b} {bids} e (ends {e = k} {m = m} {b = c} t) =
      let same-b : c ≡ b = ap (λ (x : Replayed). x.board) e in
      let same-m : m ≡ bids = ap (λ (x : Replayed). x.bids) e in
      (k, rw (same-b, same-m) at t)
  finished-fate e (stops t) = unfinished (ap (λ (x : Replayed). x.answer) e)

  -- What is told names how the text ends
  told-refused : {b : Board} {number line bids : ℕ} → 0 < number → (a : ReplayAnswers s b (told number line bids)) (x : Ending) → a.answer ≡ x →
      (r : Refusal) × ((code_of r).number ≡ number) × TextRefused s line b bids r
  told-refused {b} h a (Ok tt) e =
      let z = ap (λ (t : Told). t.number) (sym (ap (λ (x : Ending). ending_told x a.bids) e) ∙ a.tells) in absurd (omega arith)
  told-refused {b} {number} {line} {bids} h a (Err s) e =
      let t : refused_at s.refusal s.line a.bids ≡ told number line bids = sym (ap (λ (x : Ending). ending_told x a.bids) e) ∙ a.tells in
      let same-n : s.line ≡ line = ap (λ (t : Told). t.place) t in
      let same-m : a.bids ≡ bids = ap (λ (t : Told). t.value) t in
      let w = refused-fate (ap (λ (x : Ending). replayed b a.bids x) e) (fated a.outcome) in
      (s.refusal, ap (λ (t : Told). t.number) t, rw (same-n, same-m) at w)

  told-finished : {b : Board} {bids : ℕ} (a : ReplayAnswers s b (served bids)) (x : Ending) → a.answer ≡ x → (entries : ℕ) × TextFinished s b entries bids
  told-finished {b} {bids} a (Ok tt) e =
      let same-m : a.bids ≡ bids = ap (λ (t : Told). t.value) (sym (ap (λ (x : Ending). ending_told x a.bids) e) ∙ a.tells) in
      let w = finished-fate (ap (λ (x : Ending). replayed b a.bids x) e) (fated a.outcome) in
      subst (λ (m : ℕ). (entries : ℕ) × TextFinished s b entries m) same-m w
  told-finished {b} {bids} a (Err s) e = served-apart bids s.refusal s.line _ (sym (sym (ap (λ (x : Ending). ending_told x a.bids) e) ∙ a.tells))

pub texts-demand-1 : TextsDemand1
texts-demand-1 s =
    record {
      refuses = λ b bids r n. (λ e. refused-fate s refl (fated s e), refused-text);
      finishes = λ b bids. (λ e. finished-fate s refl (fated s e), λ u. finished-text u.1);
      numbered = λ b number line bids h. (
        λ a. told-refused s h a a.answer refl,
        λ u. record { answer = halted u.0 line; bids = bids; outcome = refused-text u.2; tells = ap (λ (k : ℕ). told k line bids) u.1 },
      );
      served = λ b bids. (
        λ a. told-finished s a a.answer refl,
        λ u. record { answer = Ok tt; bids = bids; outcome = finished-text u.1; tells = refl },
      );
    }

-- ---- A history

-- Opening, as a line has it, is the start of a history
opens-reached : (items p q : ℕ) (counts : List ℕ) {b : Board} → OpenAnswers items p q counts b (served 0) → Reached b 0 0
opens-reached items p q counts u =
    let h = opening-ready items p q counts (opened-ready _ u.tells) in
    subst (λ (b : Board). Reached b 0 0) (sym (ap (λ (o : Opening). o.board) h) ∙ u.board) (Reached.opens items p q counts h)

-- While the board is being opened nothing has been accepted and no bid made
nothing_yet : {s : List ℕ} {n at items p q low e m : ℕ} {counts : List ℕ} {b : Board} → Lines s n at (beginning items p q low counts) b e m → (e ≡ 0) × (m ≡ 0)
nothing_yet (first w u) = (refl, refl)
nothing_yet (placed t w known above u) = nothing_yet t

pub lines-open : LinesOpen
lines-open s n at items p q low counts b entries bids (first w u) = u
lines-open s n at items p q low counts b entries bids (placed t w known above u) = u

pub lines-reached : LinesReached
lines-reached s n at g b entries bids (first {k} {p} {q} w u) = opens-reached k p q (ones k) u
lines-reached s n at g b entries bids (placed {items = items} {p = p} {q = q} {k = k} {c = c} {counts = counts} t w known above u) =
    let z = nothing_yet t in rw (z.0, z.1) (opens-reached items p q (set counts (k - 1) c) u)
lines-reached s n at g b entries bids (arrived {k = k} {c = c} {edges = edges} t w u) =
    let h = arrived-bids u.answer k u.tells in
    Reached.arrives edges (arrival c (Ok k)) (lines-reached s _ _ _ _ _ _ t) (u.outcome ∙ ap (λ a. done (arrival c a)) h)
lines-reached s n at g b entries bids (withdrew {k = k} {c = c} {items = items} t w u) =
    let h = withdrawn-bids u.answer k u.tells in
    Reached.withdraws items (withdrawal c (Ok k)) (lines-reached s _ _ _ _ _ _ t) (u.outcome ∙ ap (λ a. done (withdrawal c a)) h)

pub replay-reached : ReplayReached
replay-reached s b bids a =
    let u = ((texts-demand-1 s).served b bids).0 a in
    record { entries = u.0; lines = u.1; reached = lines-reached s _ _ _ b u.0 bids u.1.carried }

-- What is told at a line after the first is told at the line itself
own_line : (x : Refusal) (k n : ℕ) → at_line x (suc k) ≡ suc (suc n) → k ≡ suc n
own_line x k n e = go (eqb (code_of x).number 16 && eqb (code_of x).place 0) e
  where
    go : (t : Bool) → cond t 1 (suc k) ≡ suc (suc n) → k ≡ suc n
    go true e = absurd (omega arith)
    go false e = suc_inj e

-- The lines before one that is refused
before-line : {s : List ℕ} {line m : ℕ} {b : Board} {r : Refusal} (n : ℕ) → LineRefused s line b m r → line ≡ suc (suc n) →
    (at : ℕ) × (g : Stage) × (entries : ℕ) × Lines s (suc n) at g b entries m
before-line n (LineRefused.unopened f) e = absurd (omega arith)
before-line n (LineRefused.opening w u) e = absurd (omega arith)
before-line n (LineRefused.unknown t w f) e = (_, _, _, rw (suc_inj e) at t)
before-line n (LineRefused.unordered t w known l) e = (_, _, _, rw (suc_inj e) at t)
before-line n (LineRefused.miscounted {n = k} {r = x} t w known above u line) e = (_, _, _, rw (own_line x k n (sym line ∙ e)) at t)
before-line n (LineRefused.malformed t l f g np) e = (_, _, _, rw (suc_inj e) at t)
before-line n (LineRefused.arrival t w u) e = (_, _, _, rw (suc_inj e) at t)
before-line n (LineRefused.withdrawal t w u) e = (_, _, _, rw (suc_inj e) at t)

pub refused-before : RefusedBefore
refused-before s n b bids r t = before-line n t refl
