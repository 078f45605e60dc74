-- `write::put_page` meets its contract.
use Rattle.std.proofs.Common.{◌≡◌, ◌≤◌, length, arith, rules}
use Rattle.text.proofs.Outs.{puts_then, puts_as, put_back}
use Rattle.text.specs.Out.{last_position}
use Rattle.layout.specs.Written.{row_among, rows_of}
use Rattle.layout.specs.Page.{page_of}
use Rattle.layout.proofs.Fronts.{heading-bytes}
use Rattle.layout.proofs.Bytes.{page-most}
use Rattle.layout.proofs.Written.{page-more, page-whole, rows_fit}
use Rattle.layout.proofs.write.put_page.Goals as goal

pub loop-i-preserved : goal.loop-i-preserved
loop-i-preserved c =
    let a = c.args in
    puts_as (page-more (row_among a.items.now a.weights.now a.gains.now) c.loop-i.i) (puts_then c.loop-i.invariant c.put_entry.ensures)

pub returns : goal.returns
returns c =
    let a = c.args in
    let row = row_among a.items.now a.weights.now a.gains.now in
    let n : c.loop-i.i ≡ a.count = omega arith in
    let p = puts_as (page-whole row _ _ _ heading-bytes n) (puts_then c.put_all.ensures c.loop-i.invariant) in
    let few : length (page_of (rows_of row a.count)) ≤ last_position = omega (arith, page-most (rows_of row a.count) (rows_fit row a.count c.requires.writable)) in
    put_back p (search rules) few c.new-page.ensures.bytes c.new-page.ensures.at (search rules)
