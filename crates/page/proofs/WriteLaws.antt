-- What writing a page answers, as the code comes to it, and demand 1 of it.
use Rattle.std.specs.Prelude.{Err, Ok}
use mathlib.Core.Path.{◌≡◌, refl, sym, ap}
use mathlib.Core.Bool.{true, false}
use mathlib.Core.List.{List}
use Prim.Native.Nat.{ℕ, ◌≤◌, ◌<◌}
use native.Mathlib.Omega.{arith}
use lib.ListN.{length}
use borrow.Author.Tests.{lt-ltb, le-ltb}
use Rattle.duality.proofs.Decide.{reword, lt-decides}
use Rattle.text.specs.Print.{Put}
use Rattle.text.proofs.Puts.{front}
use Rattle.refusals.specs.declared.Refusal.{Refusal}
use Rattle.refusals.specs.declared.Refusal.TheVariants.{Short, Spoilt}
use Rattle.refusals.specs.Demand1.{first_of, Verdict}
use Rattle.refusals.specs.Told.{served, refused}
use Rattle.refusals.proofs.Verdicts.{Decided, ends, next, demand-1}
use Rattle.refusals.proofs.Answers.{refused-apart, served-apart}
use Rattle.supply.specs.declared.record.Board.{Board}
use Rattle.supply.specs.Sound.{Sound}
use Rattle.supply.specs.SoundTest.{sound_test}
use Rattle.supply.proofs.SoundLaw.{sound-decides}
use Rattle.board.proofs.Tests.{no-decides}
use Rattle.layout.specs.declared.row.Row.{Row}
use Rattle.layout.specs.Limits.{page_bytes, max_page}
use Rattle.layout.specs.Page.{page_of}
use Rattle.layout.specs.Written.{rows_of}
use Rattle.layout.proofs.Written.{rows_same}
use Rattle.page.specs.Rows.{board_row, board_page}
use Rattle.page.specs.Writing.{wrote, WriteMet, write_checks, page_over, write_by, write_page_of, written_told}
use Rattle.page.specs.Demand1.{WriteDemand1}
use Rattle.page.proofs.Rows.{boards-fit}

module _ (b : Board) (page : List ℕ) where
  pub write-spoilt : sound_test b ≡ false → wrote (Err Spoilt) page ≡ write_page_of b page
  unfolding write_page_of write_by first_of
  write-spoilt e = rw e

  module _ (e : sound_test b ≡ true) where
    sound : Sound b
    sound = (sound-decides b).sound e

    pub write-short : length page < page_bytes b.market.arrived → wrote (Err Short) page ≡ write_page_of b page
    unfolding write_page_of write_by first_of
    write-short h = let q = lt-ltb (length page) (length (board_page b)) (omega (arith, (boards-fit b sound).bytes)) in rw (e, q)

    pub served-as : page_bytes b.market.arrived ≤ length page → write_page_of b page ≡ wrote (Ok (length (board_page b))) (page_over b page)
    unfolding write_page_of write_by first_of
    served-as h = let q = le-ltb (length page) (length (board_page b)) (omega (arith, (boards-fit b sound).bytes)) in rw (e, q)

    pub write-served : {after : List ℕ} {n : ℕ} (row : ℕ → Row) → page_bytes b.market.arrived ≤ length page → ((i : ℕ) → i < b.market.arrived → row i ≡ board_row b i) →
        Put page after 0 (page_of (rows_of row b.market.arrived)) n → wrote (Ok n) after ≡ write_page_of b page
    unfolding board_page
    write-served {after} {n} row h same p =
        let z : page_of (rows_of row b.market.arrived) ≡ board_page b = ap page_of (rows_same row (board_row b) b.market.arrived same) in
        let p : Put page after 0 (board_page b) n = rw (← z) p in
        let bytes : n ≡ length (board_page b) = omega (arith, p.moved) in
        let over : after ≡ page_over b page = front (omega (arith, (boards-fit b sound).bytes)) p in
        rw (bytes, over) (sym (served-as h))

-- ---- Demand 1
module _ (b : Board) (page : List ℕ) where
  unsound : WriteMet b page Spoilt → Sound b → ⊥
  unsound (WriteMet.spoilt f) = f

  short-met : WriteMet b page Short → length page < length (board_page b)
  short-met (WriteMet.short l) = l

  write-decided : Decided (WriteMet b page) (write_checks b (length page))
  write-decided =
      next (reword (no-decides (sound-decides b)) (λ f. WriteMet.spoilt f) unsound)
      (next (reword (lt-decides (length page) (length (board_page b))) (λ l. WriteMet.short l) short-met) ends)

pub write-demand-1 : WriteDemand1
unfolding write_page_of write_by
write-demand-1 b page =
    demand-1 (write-decided b page)
    (λ r. (λ e. record { page = rw e; tells = rw e }, λ a. by-refused r (first_of (write_checks b (length page))) a.tells))
    (λ e. record { page = rw e; tells = rw e }, λ a. by-served (first_of (write_checks b (length page))) a.tells)
  where
    by-refused : (r : Refusal) (v : Verdict) → written_told (write_by b page v).answer ≡ refused r → v ≡ Err r
    by-refused r (Ok tt) e = served-apart _ r _ _ e
    by-refused r (Err s) e = ap Err (refused-apart s r e)

    by-served : {n : ℕ} (v : Verdict) → written_told (write_by b page v).answer ≡ served n → v ≡ Ok tt
    by-served (Ok tt) e = refl
    by-served (Err s) e = served-apart _ s _ _ (sym e)

-- A sound board's page, with room for any
pub write-room : (b : Board) (page : List ℕ) → Sound b → max_page ≤ length page → write_page_of b page ≡ wrote (Ok (length (board_page b))) (page_over b page)
write-room b page s room =
    let fit = boards-fit b s in
    served-as b page ((sound-decides b).complete s) (omega (arith, fit.bytes, fit.most))
