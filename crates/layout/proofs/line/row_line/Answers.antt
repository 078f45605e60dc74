-- `line::row_line` meets its contract. The line fills the list.
use Rattle.std.proofs.Common.{arith, rules}
use Rattle.text.proofs.Outs.{put_back}
use Rattle.layout.proofs.Rows.{row-length, put_all}
use Rattle.layout.proofs.line.row_line.Goals as goal

pub returns : goal.returns
returns c =
    let n = row-length c.args.n c.args.row c.requires.number c.requires.fits in
    put_all n (put_back c.put_row.ensures (omega arith) (omega (arith, n)) c.new.ensures.bytes c.new.ensures.at (search rules))
