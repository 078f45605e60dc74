-- The pages, by computation.
use mathlib.Core.Path.{refl}
use Rattle.text.specs.Print.{decimal}
use Rattle.layout.specs.Page.{padded, heading, row_line, breaks}
use Rattle.layout.specs.Read.{row_read, read_fixed, read_row, read_of}
use Rattle.cases.specs.Pages.{Pages}
use Rattle.cases.proofs.Text.{walls-print}

pub pages : Pages
unfolding decimal padded heading row_line breaks row_read read_fixed read_row read_of
pages =
    record {
      empty = refl;
      alone = refl;
      wall1 = walls-print.0;
      wall2 = walls-print.1;
      read1 = refl;
      read2 = refl;
      wall_tied = walls-print.2;
      read_tied = refl;
      most = refl;
      nothing = refl;
      feed_first = refl;
      twice = refl;
      zero = refl;
      left = refl;
      gained = refl;
      weighed = refl;
      worthless = refl;
      kettle = refl;
      heavy = refl;
      rich = refl;
      wide = refl;
      second = refl;
      carriage = refl;
      unclosed = refl;
      forty = refl;
      forty_one = refl;
      stops_short = refl;
      no_heading = refl;
    }
