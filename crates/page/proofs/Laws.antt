-- What the two calls answer, case by case, and that what was written reads back.
use Rattle.std.specs.Prelude.{Result, Err, Ok}
use mathlib.Core.Path.{◌≡◌, refl, sym, ◌∙◌, ap, subst}
use mathlib.Core.Bool.{Bool, true, false}
use mathlib.Core.Logic.{by_cases}
use mathlib.Core.List.{List}
use Prim.Native.Nat.{ℕ, ◌≤◌, ◌<◌}
use native.Mathlib.Decide.{dec_lt}
use native.Mathlib.Omega.{arith}
use lib.ListN.{length, take, drop, get_or}
use lib.Seq.{take_at}
use borrow.Author.Tests.{not-false}
use Rattle.duality.proofs.Decide.{clash, false-is}
use Rattle.refusals.specs.declared.Refusal.{Refusal}
use Rattle.refusals.specs.Demand1.{first_of, Verdict}
use Rattle.refusals.proofs.Verdicts.{served-next}
use Rattle.supply.specs.declared.record.Board.{Board}
use Rattle.board.specs.Limits.{max_text}
use Rattle.supply.specs.ByItem.{gain_at, matching_of}
use Rattle.board.specs.Lent.{written}
use Rattle.supply.specs.Sound.{Sound}
use Rattle.supply.specs.SoundTest.{sound_test}
use Rattle.supply.proofs.SoundLaw.{sound-decides}
use Rattle.board.proofs.Written.{written_as}
use Rattle.layout.specs.declared.row.Row.{Row}
use Rattle.layout.specs.Row.{unplaced}
use Rattle.layout.specs.Page.{IsPageOf}
use Rattle.layout.specs.Read.{Read, got, bad, read_of}
use Rattle.layout.specs.Stored.{RowLists, row_lists, rows_stored}
use Rattle.layout.proofs.Statements.{read-is-page, read-is-first-bad}
use Rattle.layout.proofs.Written.{length-rows, rows_at}
use Rattle.layout.proofs.Bytes.{page-most}
use Rattle.page.specs.Rows.{weight_held, board_row, board_rows, board_page}
use Rattle.page.specs.Writing.{WriteOutcome, wrote, write_checks, page_over, write_by, write_page_of}
use Rattle.page.specs.Reading.{RowsOutcome, Room, room_for, read, read_page_of}
use Rattle.page.specs.Laws.{WritesAs, WritesSaid, ReadsAs, ReadsSaid, ReadsBack}
use Rattle.page.proofs.Rows.{board-is-page, boards-fit}
use Rattle.page.proofs.ReadLaws.{read-long, read-line, read_short, read-served, room-decides}
use Rattle.page.proofs.WriteLaws.{write-spoilt, write-short, served-as}

-- ---- What reading answers
page-short : {s : List ℕ} {rows : List Row} → IsPageOf s rows → length s ≤ max_text
page-short {s} {rows} p = omega (arith, ap length p.is, page-most rows p.fit)

page-served : (s : List ℕ) (l : RowLists) (rows : List Row) → IsPageOf s rows → Room (length rows) l → read_page_of s l ≡ read (Ok (length rows)) (rows_stored (length rows) rows l)
page-served s l rows p room =
    let e : read_of s ≡ got rows = (read-is-page s rows).1 p in
    sym (read-served s l (page-short p) e ((room-decides (length rows) l).complete room) refl)

-- Each answer from what is so, and back by what is so of every text
reads_at : (s : List ℕ) (l : RowLists) {o : RowsOutcome} → ReadsAs s l o → read_page_of s l ≡ o
reads_at s l (ReadsAs.long h) = sym (read-long s l h)
reads_at s l (ReadsAs.line {j = j} h b) =
    sym (read-line s l h ((read-is-first-bad s j).1 b))
reads_at s l (ReadsAs.short {rows = rows} p f) =
    let e : read_of s ≡ got rows = (read-is-page s rows).1 p in
    sym (read_short s l (page-short p) e (sym (false-is _ (room-decides (length rows) l) f)))
reads_at s l (ReadsAs.rows {rows = rows} p room) = page-served s l rows p room

reads-one : (s : List ℕ) (l : RowLists) → (o : RowsOutcome) × ReadsAs s l o
reads-one s l = by_cases (dec_lt max_text (length s)) (λ h. (_, ReadsAs.long h)) (λ f. go (omega arith) (read_of s) refl)
  where
    go : length s ≤ max_text → (o : Read) → read_of s ≡ o → (o : RowsOutcome) × ReadsAs s l o
    go h (bad j) e = (_, ReadsAs.line h ((read-is-first-bad s j).0 e))
    go h (got rows) e =
        fit (room_for (length rows) (length l.plan) (length l.weights) (length l.gains)) refl
      where
        fit : (t : Bool) → room_for (length rows) (length l.plan) (length l.weights) (length l.gains) ≡ t → (o : RowsOutcome) × ReadsAs s l o
        fit true q = (_, ReadsAs.rows ((read-is-page s rows).0 e) ((room-decides (length rows) l).sound q))
        fit false q = (_, ReadsAs.short ((read-is-page s rows).0 e) (λ r. clash _ ((room-decides (length rows) l).complete r) q))

pub reads-said : ReadsSaid
reads-said s l o = (λ e. let (x, w) = reads-one s l in subst (ReadsAs s l) (sym (reads_at s l w) ∙ e) w, reads_at s l)

-- ---- What writing answers
writes_at : (b : Board) (page : List ℕ) {o : WriteOutcome} → WritesAs b page o → write_page_of b page ≡ o
writes_at b page (WritesAs.spoilt f) = sym (write-spoilt b page (sym (false-is _ (sound-decides b) f)))
writes_at b page (WritesAs.short s h) = sym (write-short b page ((sound-decides b).complete s) (omega (arith, (boards-fit b s).bytes)))
writes_at b page (WritesAs.bytes s h) = served-as b page ((sound-decides b).complete s) (omega (arith, (boards-fit b s).bytes))

writes_one : (b : Board) (page : List ℕ) → (o : WriteOutcome) × WritesAs b page o
writes_one b page = go (sound_test b) refl
  where
    go : (t : Bool) → sound_test b ≡ t → (o : WriteOutcome) × WritesAs b page o
    go false e = (_, WritesAs.spoilt (λ s. clash _ ((sound-decides b).complete s) e))
    go true e =
        let s = (sound-decides b).sound e in
        by_cases (dec_lt (length page) (length (board_page b))) (λ h. (_, WritesAs.short s h)) (λ f. (_, WritesAs.bytes s (omega arith)))

pub writes-said : WritesSaid
writes-said b page o = (λ e. let (x, w) = writes_one b page in subst (WritesAs b page) (sym (writes_at b page w) ∙ e) w, writes_at b page)

-- ---- What was written reads back
module _ (b : Board) (page : List ℕ) where
  -- a page is written of sound boards only
  write-open : {after : List ℕ} {n : ℕ} → write_page_of b page ≡ wrote (Ok n) after → Sound b × (n ≡ length (board_page b)) × (after ≡ page_over b page)
  unfolding write_page_of write_by
  write-open {after} {n} e = go (first_of (write_checks b (length page))) refl e
    where
      go : (v : Verdict) → first_of (write_checks b (length page)) ≡ v → write_by b page v ≡ wrote (Ok n) after →
          Sound b × (n ≡ length (board_page b)) × (after ≡ page_over b page)
      go (Ok tt) q e =
          let a : ◌≡◌ {A = Result ℕ Refusal} (Ok (length (board_page b))) (Ok n) = ap (λ (o : WriteOutcome). o.answer) e in
          let same : length (board_page b) ≡ n = cc in
          ((sound-decides b).sound (not-false _ (served-next _ _ q).0), sym same, sym (ap (λ (o : WriteOutcome). o.page) e))
      go (Err r) q e =
          let a : ◌≡◌ {A = Result ℕ Refusal} (Err r) (Ok n) = ap (λ (o : WriteOutcome). o.answer) e in
          let z : ◌≡◌ {A = ℕ} 0 1 = cc in
          absurd (omega arith)

board-rows : (b : Board) (i : ℕ) → i < b.market.arrived → get_or (board_rows b) i unplaced ≡ board_row b i
board-rows b i l = rows_at (board_row b) b.market.arrived unplaced i l

rows-board : (b : Board) (l : RowLists) → rows_stored b.market.arrived (board_rows b) l ≡
    row_lists (written b.market.arrived (matching_of b) l.plan) (written b.market.arrived (weight_held b) l.weights) (written b.market.arrived (gain_at b) l.gains)
rows-board b l =
    let n = b.market.arrived in
    let p = written_as n _ (matching_of b) l.plan (λ i m. ap (λ (r : Row). r.item) (board-rows b i m)) in
    let w = written_as n _ (weight_held b) l.weights (λ i m. ap (λ (r : Row). r.weight) (board-rows b i m)) in
    let g = written_as n _ (gain_at b) l.gains (λ i m. ap (λ (r : Row). r.gain) (board-rows b i m)) in
    rw (p, w, g)

pub reads-back : ReadsBack
reads-back b page after n l e room =
    let (sound, bytes, over) = write-open b page e in
    let front : take n after ≡ board_page b = ap (take n) over ∙ take_at (board_page b) (drop (length (board_page b)) page) n (sym bytes) in
    let count : length (board_rows b) ≡ b.market.arrived = length-rows (board_row b) b.market.arrived in
    ap (λ (s : List ℕ). read_page_of s l) front
    ∙ (page-served (board_page b) l (board_rows b) (board-is-page b sound) (rw count room)
    ∙ (rw count (ap (read (Ok b.market.arrived)) (rows-board b l))))
