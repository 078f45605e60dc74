-- `writing::write_page` meets its contract.
use mathlib.Core.Path.{sym, ap, ◌∙◌}
use native.Mathlib.Omega.{arith}
use Rattle.board.proofs.LiveLaws.{held-within}
use Rattle.board.proofs.Lending.{holders-few}
use Rattle.supply.proofs.Shaping.{sound-fits}
use Rattle.supply.proofs.Lending.{plan-few}
use Rattle.layout.specs.Row.{row_fits}
use Rattle.text.proofs.Puts.{put-length}
use Rattle.page.proofs.Rows.{row_fits_lem, columns-row}
use Rattle.page.proofs.WriteLaws.{write-spoilt, write-short, write-served}
use borrow.Author.Rules.{rules}
use Rattle.page.proofs.writing.write_page.Goals as goal

pub returns-then-not-is_sound : goal.returns-then-not-is_sound
returns-then-not-is_sound c = write-spoilt c.args.board.now c.args.page.now (sym c.is_sound.ensures.test ∙ c.if-not-is_sound.true)

pub page_bytes-requires : goal.page_bytes-requires
page_bytes-requires c = (c.is_sound.ensures.sound.0 c.if-not-is_sound.false).auction.arrived

pub returns-then-page-page_bytes : goal.returns-then-page-page_bytes
returns-then-page-page_bytes c = write-short c.args.board.now c.args.page.now (sym c.is_sound.ensures.test ∙ c.if-not-is_sound.false) (omega (arith, c.if-page-page_bytes.true, c.page_bytes.ensures))

pub columns_of-by_place-requires : goal.columns_of-by_place-requires
columns_of-by_place-requires c = let s = c.is_sound.ensures.sound.0 c.if-not-is_sound.false in record { items = s.auction.items.1; holders = holders-few s.auction }

pub weights_held-weights-requires : goal.weights_held-weights-requires
weights_held-weights-requires c =
    let s = c.is_sound.ensures.sound.0 c.if-not-is_sound.false in
    let b = c.args.board.now in
    let few = held-within b.state.holder b.market.items in
    record { bidders = s.auction.arrived; plan = λ i l. omega (arith, s.auction.items.1, c.columns_of-by_place.ensures.plan i, few i) }

pub read_by_item-columns-requires : goal.read_by_item-columns-requires
read_by_item-columns-requires c =
    let s = c.is_sound.ensures.sound.0 c.if-not-is_sound.false in
    record { fits = sound-fits _ s; bidders = s.auction.arrived; plan = plan-few s c.columns_of-by_place.ensures }

pub put_page-bytes-requires : goal.put_page-bytes-requires
put_page-bytes-requires c =
    let s = c.is_sound.ensures.sound.0 c.if-not-is_sound.false in
    record { items = search rules; weights = search rules; gains = search rules; writable = record { few = s.auction.arrived; each = λ i l. ap row_fits (columns-row c.columns_of-by_place.result c.read_by_item-columns.result c.weights_held-weights.result s c.columns_of-by_place.ensures c.read_by_item-columns.ensures c.weights_held-weights.ensures i l) ∙ row_fits_lem s i l } }

pub shape_of-page : goal.shape_of-page
shape_of-page c = put-length c.put_page-bytes.ensures

pub returns : goal.returns
returns c =
    write-served c.args.board.now c.args.page.now (sym c.is_sound.ensures.test ∙ c.if-not-is_sound.false) _ (omega (arith, c.if-page-page_bytes.false, c.page_bytes.ensures)) (columns-row c.columns_of-by_place.result c.read_by_item-columns.result c.weights_held-weights.result (c.is_sound.ensures.sound.0 c.if-not-is_sound.false) c.columns_of-by_place.ensures c.read_by_item-columns.ensures c.weights_held-weights.ensures) c.put_page-bytes.ensures
