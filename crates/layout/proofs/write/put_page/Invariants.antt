-- `write::put_page` meets its contract. The invariant: the rows so far were put.
use Rattle.text.specs.Out.{Puts}
use Rattle.layout.specs.Page.{page_from}
use Rattle.layout.specs.Written.{row_among, rows_of}
use Rattle.layout.proofs.write.put_page.Given as goal

abbrev pub invariant-loop-i : goal.invariant-loop-i
invariant-loop-i l = Puts l.initial.page l.page (page_from 0 (rows_of (row_among l.items l.weights l.gains) l.i))
