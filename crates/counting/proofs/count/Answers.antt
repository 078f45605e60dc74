-- `count` meets its contract: what it is lent says what the board says.
use Rattle.std.specs.Prelude.{Ok}
use mathlib.Core.Path.{◌≡◌, sym, ap, ◌∙◌}
use mathlib.Core.Bool.{true, false}
use Prim.Native.Nat.{◌≤◌}
use Rattle.refusals.specs.Demand1.{first_of}
use Rattle.board.specs.Cells.{pence}
use Rattle.supply.specs.Board.{all_places}
use Rattle.supply.specs.ByItem.{live}
use Rattle.supply.specs.SoundTest.{sound_test}
use Rattle.counting.specs.Limits.{max_counted}
use Rattle.counting.specs.Rows.{RowsOf}
use Rattle.counting.specs.Call.{large_test, count_by, count_of}
use Rattle.counting.proofs.Outcomes.{countable, counts}
use Rattle.counting.proofs.count.Goals as goal

pub greatest_weight-requires : goal.greatest_weight-requires
greatest_weight-requires c =
    let sound = c.is_sound.ensures.sound.0 c.if-not-is_sound.false in
    let places : all_places c.args.board.now.items ≤ max_counted = rw sound.laid.all at (c.is_large.ensures.places c.if-is_large.false) in
    let lent : RowsOf c.args.board.now.items (live c.args.board.now) c.rows_of-rows.result = rw c.of.ensures at c.rows_of-rows.ensures in
    countable _ sound (c.is_large.ensures.bidders c.if-is_large.false) places lent

pub returns : goal.returns
unfolding count_of count_by first_of
returns c =
    let b = c.args.board.now in
    let sound = c.is_sound.ensures.sound.0 c.if-not-is_sound.false in
    let places : all_places b.items ≤ max_counted = rw sound.laid.all at (c.is_large.ensures.places c.if-is_large.false) in
    let lent : RowsOf b.items (live b) c.rows_of-rows.result = rw c.of.ensures at c.rows_of-rows.ensures in
    let test : sound_test b ≡ true = sym c.is_sound.ensures.test ∙ c.if-not-is_sound.false in
    let small : large_test b.market.arrived (all_places b.items) ≡ false = rw sound.laid.all at (sym c.is_large.ensures.test ∙ c.if-is_large.false) in
    rw (test, small) (ap (λ n. Ok (pence n)) (c.greatest_weight.ensures.count ∙
    counts _ sound (c.is_large.ensures.bidders c.if-is_large.false) places lent c.free_of-free.result c.free_of-free.ensures))
