-- Laws of the page of the board that a text reaches.
use Rattle.std.specs.Prelude.{Err, Ok, Result}
use mathlib.Core.Path.{◌≡◌, sym, ◌∙◌, ap}
use mathlib.Core.List.{List}
use Prim.Native.Nat.{ℕ, ◌≤◌}
use native.Mathlib.Omega.{arith}
use lib.ListN.{length}
use Rattle.refusals.specs.declared.Refusal.{Refusal}
use Rattle.refusals.specs.declared.AtLine.{AtLine}
use Rattle.refusals.specs.Codes.{code_of}
use Rattle.supply.specs.declared.record.Board.{Board}
use Rattle.supply.specs.Sound.{Sound}
use Rattle.bidding.specs.Rule.{done}
use Rattle.replay.specs.declared.Replayed.{Replayed}
use Rattle.replay.specs.Replay.{replay_of}
use Rattle.replay.proofs.Texts.{refused-text, finished-text}
use Rattle.layout.specs.Limits.{max_page}
use Rattle.page.specs.Rows.{board_page}
use Rattle.page.specs.Writing.{WriteOutcome, wrote, page_over, write_page_of}
use Rattle.page.proofs.WriteLaws.{write-room}
use Rattle.history.specs.Output.{refusal_line}
use Rattle.history.specs.Plan.{AtFront}
use Rattle.history.specs.Wall.{wall_by, wall_from, wall_of, WallWritten, WallsDemand1}
use Rattle.history.proofs.Sheets.{at_front}

-- ---- A sound board's page, in a list with room for it
module _ (b : Board) (sound : Sound b) (out after : List ℕ) (room : max_page ≤ length out) (a : Result ℕ Refusal) (w : wrote a after ≡ write_page_of b out) where
  same : wrote a after ≡ wrote (Ok (length (board_page b))) (page_over b out)
  same = w ∙ write-room b out sound room

  pub board-put : (n : ℕ) → a ≡ Ok n → AtFront (board_page b) out after n
  board-put n e =
      let q : ◌≡◌ {A = Result ℕ Refusal} (Ok n) (Ok (length (board_page b))) = sym e ∙ ap (λ (o : WriteOutcome). o.answer) same in
      let long : n ≡ length (board_page b) = cc in
      at_front (board_page b) out after n long (ap (λ (o : WriteOutcome). o.page) same ∙ rw (← long))

  pub board-refused : (r : Refusal) → a ≡ Err r → ⊥
  board-refused r e =
      let q : ◌≡◌ {A = Result ℕ Refusal} (Err r) (Ok (length (board_page b))) = sym e ∙ ap (λ (o : WriteOutcome). o.answer) same in
      let z : ◌≡◌ {A = ℕ} 0 1 = cc in
      omega arith

-- ---- A text
module _ (s : List ℕ) (r : Replayed) (e : done r ≡ replay_of s) where
  pub wall-finished : {out after : List ℕ} {n : ℕ} → r.answer ≡ Ok tt → AtFront (board_page r.board) out after n → WallWritten s out after n
  unfolding wall_of wall_from wall_by
  wall-finished {out} {after} {n} f w =
      let q : board_page r.board ≡ wall_of s = ap (wall_by r.board) (sym f) ∙ ap wall_from e in
      rw (← q) w

  pub wall-refused : {out after : List ℕ} {number n : ℕ} (stop : AtLine) → r.answer ≡ Err stop → number ≡ (code_of stop.refusal).number →
      AtFront (refusal_line number stop.line) out after n → WallWritten s out after n
  unfolding wall_of wall_from wall_by
  wall-refused {number = number} stop f c w =
      let q : refusal_line number stop.line ≡ wall_of s = ap (λ (k : ℕ). refusal_line k stop.line) c ∙ (ap (wall_by r.board) (sym f) ∙ ap wall_from e) in
      rw (← q) w

pub walls-demand-1 : WallsDemand1
unfolding wall_of wall_from wall_by
walls-demand-1 s = record { pages = λ b entries bids t. ap wall_from (finished-text t); refuses = λ n b bids r t. ap wall_from (refused-text t) }
