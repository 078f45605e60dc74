-- The limits and columns of a page, each said once. Limits of numbers, items and weights are the board's.
use Rattle.std.specs.Prelude.{ℕ, ◌+◌, ◌*◌, ◌-◌, ◌/◌}
use Rattle.board.specs.Limits.{max_bidders}

-- "before each 40 batches"
abbrev pub rows_to_heading : ℕ
rows_to_heading = 40

-- "gains at most 2,000,000,000"
abbrev pub max_gain : ℕ
max_gain = 2000000000

-- "batch (3 columns), kettle (2, or `--`), worth (7, 0 if unplaced) and gain (10, 0 if unplaced)"
abbrev pub number_columns : ℕ
number_columns = 3

abbrev pub item_columns : ℕ
item_columns = 2

abbrev pub weight_columns : ℕ
weight_columns = 7

abbrev pub gain_columns : ℕ
gain_columns = 10

-- A line: each column with the byte that closes it, a blank or byte 10
abbrev pub line_bytes : ℕ
line_bytes = (number_columns + 1) + ((item_columns + 1) + ((weight_columns + 1) + (gain_columns + 1)))

abbrev pub blank : ℕ
blank = 32

abbrev pub dash : ℕ
dash = 45

-- "form feed (byte 12) before each heading but the first"
abbrev pub feed : ℕ
feed = 12

-- The bytes of a page of n rows (PageBytes): a line for the first heading and for each row; a line and a byte more for each further heading
abbrev pub page_bytes : ℕ → ℕ
page_bytes n = (1 + n) * line_bytes + ((n - 1) / rows_to_heading) * (1 + line_bytes)

-- No page is longer: 3,435 bytes
abbrev pub max_page : ℕ
max_page = page_bytes max_bidders
