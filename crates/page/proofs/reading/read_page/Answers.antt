-- `reading::read_page` meets its contract.
use mathlib.Core.Path.{sym, ◌∙◌}
use lib.ListN.{length}
use Rattle.layout.specs.Stored.{row_lists}
use Rattle.page.proofs.ReadLaws.{read-long, read-line, read_short, read-served, room-decides}
use Rattle.page.proofs.reading.read_page.Goals as goal

pub returns-then-text-gt-MAX_TEXT : goal.returns-then-text-gt-MAX_TEXT
returns-then-text-gt-MAX_TEXT c = read-long c.args.text.now _ c.if-text-gt-MAX_TEXT.true

pub returns-in-Err : goal.returns-in-Err
returns-in-Err c = read-line c.args.text.now (row_lists c.args.plan.now c.args.weights.now c.args.gains.now) c.if-text-gt-MAX_TEXT.false c.in-Err.ensures

pub returns-then-not-has_room_for : goal.returns-then-not-has_room_for
returns-then-not-has_room_for c =
    let e = c.in-Ok.ensures in
    let r = sym c.has_room_for.ensures ∙ c.if-not-has_room_for.true in
    let v = c.len.ensures.value in
    read_short c.args.text.now (row_lists c.args.plan.now c.args.weights.now c.args.gains.now) c.if-text-gt-MAX_TEXT.false e (rw v at r)

pub store_rows-requires : goal.store_rows-requires
store_rows-requires c =
    let r = sym c.has_room_for.ensures ∙ c.if-not-has_room_for.false in
    let v = c.len.ensures.value in
    let room = (room-decides (length c.in-Ok.rows.items) (row_lists c.args.plan.now c.args.weights.now c.args.gains.now)).sound (rw v at r) in
    rw c.as_slice.ensures.value (record { items = room.plan; weights = room.weights; gains = room.gains })

pub returns-else-not-has_room_for : goal.returns-else-not-has_room_for
returns-else-not-has_room_for c =
    let r = sym c.has_room_for.ensures ∙ c.if-not-has_room_for.false in
    let s = c.store_rows.ensures in
    rw c.len-in-Ok.ensures.value
    (read-served c.args.text.now (row_lists c.args.plan.now c.args.weights.now c.args.gains.now) c.if-text-gt-MAX_TEXT.false c.in-Ok.ensures
    (rw c.len.ensures.value at r) (rw c.as_slice.ensures.value at s))
