-- Laws of the line of a row: it is a line, of so many bytes, and it reads back to its row.
use mathlib.Core.Path.{◌≡◌, refl, ◌∙◌, ap}
use Prim.Native.Nat.{ℕ, zero, suc, ◌≤◌}
use native.Mathlib.Omega.{arith}
use mathlib.Core.Bool.{Bool, true, false, ◌&&◌, false≢true}
use mathlib.Core.List.{List, [], ◌∷◌, ◌++◌, append_assoc, append-nil}
use lib.ListN.{length, length-append, drop_of_length-le}
use lib.Dec.{leb, eqb}
use borrow.Author.Tests.{leb-true, eqb-true, eq-eqb}
use Rattle.text.specs.Bytes.{newline, within}
use Rattle.text.specs.Number.{value_of}
use Rattle.text.specs.Print.{decimal, Put}
use Rattle.text.proofs.Numbers.{both, in-range}
use Rattle.text.proofs.Puts.{front}
use Rattle.text.proofs.Decimals.{value-decimal}
use Rattle.board.specs.Limits.{max_items, max_bidders, max_weight}
use Rattle.layout.specs.Limits.{max_gain, number_columns, item_columns, weight_columns, gain_columns, line_bytes, blank, feed}
use Rattle.layout.specs.declared.row.Row.{Row}
use Rattle.layout.specs.Row.{is_unplaced, is_placed, row_fits}
use Rattle.layout.specs.Page.{padded, page_line, item_text, heading, next_heading, row_line}
use Rattle.layout.specs.Lines.{line_count}
use Rattle.layout.specs.Read.{equal, row_read, is_row}
use Rattle.layout.proofs.Lines.{IsLine, count-append}
use Rattle.layout.proofs.Columns.{count-padded, decimal-width, count-decimal, count-item, length-padded, value-item, column-value, column-past}

-- ---- tests
pub equal-true : (xs ys : List ℕ) → equal xs ys ≡ true → xs ≡ ys
equal-true [] [] e = refl
equal-true [] (y ∷ ys) e = absurd (false≢true e)
equal-true (x ∷ xs) [] e = absurd (false≢true e)
equal-true (x ∷ xs) (y ∷ ys) e =
    let w = both (eqb x y) (equal xs ys) e in
    let h = eqb-true x y w.0 in
    let t = equal-true xs ys w.1 in
    cc

pub equal-same : (xs : List ℕ) → equal xs xs ≡ true
equal-same [] = refl
equal-same (x ∷ xs) = rw (equal, eq-eqb x x refl) (equal-same xs)

pub record Small (r : Row) : Type 0 where
  pub item : r.item ≤ max_items
  pub weight : r.weight ≤ max_weight
  pub gain : r.gain ≤ max_gain

pub fits-small : (r : Row) → row_fits r ≡ true → Small r
fits-small r e = go (is_unplaced r) refl
  where
    go : (t : Bool) → is_unplaced r ≡ t → Small r
    go true q =
        let (i, m) = both (eqb r.item 0) (eqb r.weight 0 && eqb r.gain 0) q in
        let (w, g) = both (eqb r.weight 0) (eqb r.gain 0) m in
        record {
          item = omega (arith, eqb-true r.item 0 i);
          weight = omega (arith, eqb-true r.weight 0 w);
          gain = omega (arith, eqb-true r.gain 0 g);
        }
    go false q =
        let p : is_placed r ≡ true = rw q at e in
        let (i, m) = both (within 1 max_items r.item) (within 1 max_weight r.weight && leb r.gain max_gain) p in
        let (w, g) = both (within 1 max_weight r.weight) (leb r.gain max_gain) m in
        record {
          item = (in-range 1 max_items r.item i).1;
          weight = (in-range 1 max_weight r.weight w).1;
          gain = leb-true r.gain max_gain g;
        }

-- ---- widths
item-width : (k : ℕ) → k ≤ max_items → length (item_text k) ≤ item_columns
item-width zero h = omega arith
item-width (suc k) h = decimal-width item_columns (suc k) (omega arith) (omega arith)

-- texts that have room in the columns of a line
pub record Narrow (a b c d : List ℕ) : Type 0 where
  pub number : length a ≤ number_columns
  pub item : length b ≤ item_columns
  pub weight : length c ≤ weight_columns
  pub gain : length d ≤ gain_columns

pub row-narrow : (n : ℕ) (r : Row) → n ≤ max_bidders → row_fits r ≡ true → Narrow (decimal n) (item_text r.item) (decimal r.weight) (decimal r.gain)
row-narrow n r h e = let s = fits-small r e in record {
  number = decimal-width number_columns n (omega arith) (omega arith);
  item = item-width r.item s.item;
  weight = decimal-width weight_columns r.weight (omega arith) (omega arith);
  gain = decimal-width gain_columns r.gain (omega arith) (omega arith);
}

line-length : (a b c d : List ℕ) → Narrow a b c d → length (page_line a b c d) ≡ line_bytes
line-length a b c d w =
    simp (length-append, length-padded number_columns a w.number, length-padded item_columns b w.item, length-padded weight_columns c w.weight, length-padded gain_columns d w.gain)

pub row-length : (n : ℕ) (r : Row) → n ≤ max_bidders → row_fits r ≡ true → length (row_line n r) ≡ line_bytes
unfolding row_line
row-length n r h e = line-length (decimal n) (item_text r.item) (decimal r.weight) (decimal r.gain) (row-narrow n r h e)

-- ---- lines
abbrev body_of : List ℕ → List ℕ → List ℕ → List ℕ → List ℕ
body_of a b c d = padded number_columns a ++ (blank ∷ (padded item_columns b ++ (blank ∷ (padded weight_columns c ++ (blank ∷ padded gain_columns d)))))

-- a line after bytes that are no byte 10
line-is : (front a b c d : List ℕ) → line_count front ≡ 0 → line_count a ≡ 0 → line_count b ≡ 0 → line_count c ≡ 0 → line_count d ≡ 0 → IsLine (front ++ page_line a b c d)
line-is front a b c d ef ea eb ec ed = record {
  body = front ++ body_of a b c d;
  plain = simp (count-append, ef, count-padded number_columns a ea, count-padded item_columns b eb, count-padded weight_columns c ec, count-padded gain_columns d ed);
  ended = simp append_assoc;
}

pub heading-line : IsLine heading
unfolding heading
heading-line = line-is [] (66 ∷ 65 ∷ 84 ∷ []) (75 ∷ 84 ∷ []) (87 ∷ 79 ∷ 82 ∷ 84 ∷ 72 ∷ []) (71 ∷ 65 ∷ 73 ∷ 78 ∷ []) refl refl refl refl refl

pub next-heading-line : IsLine next_heading
unfolding heading
next-heading-line = line-is (feed ∷ []) (66 ∷ 65 ∷ 84 ∷ []) (75 ∷ 84 ∷ []) (87 ∷ 79 ∷ 82 ∷ 84 ∷ 72 ∷ []) (71 ∷ 65 ∷ 73 ∷ 78 ∷ []) refl refl refl refl refl

pub row-line : (n : ℕ) (r : Row) → IsLine (row_line n r)
unfolding row_line
row-line n r =
    line-is [] (decimal n) (item_text r.item) (decimal r.weight) (decimal r.gain) refl
    (count-decimal n) (count-item r.item) (count-decimal r.weight) (count-decimal r.gain)

-- ---- the row that is read
line_row : (a b c d : List ℕ) → Narrow a b c d → row_read (page_line a b c d) ≡ record { item = value_of 0 b; weight = value_of 0 c; gain = value_of 0 d }
unfolding row_read
line_row a b c d w =
    let gains = padded gain_columns d ++ (newline ∷ []) in
    let weights = padded weight_columns c ++ (blank ∷ gains) in
    let items = padded item_columns b ++ (blank ∷ weights) in
    rw (
      column-past number_columns a blank items w.number,
      column-past item_columns b blank weights w.item,
      column-past weight_columns c blank gains w.weight,
      column-value item_columns b (blank ∷ weights) w.item,
      column-value weight_columns c (blank ∷ gains) w.weight,
      column-value gain_columns d (newline ∷ []) w.gain,
    )

pub row_reads : (n : ℕ) (r : Row) → n ≤ max_bidders → row_fits r ≡ true → row_read (row_line n r) ≡ r
unfolding row_line
row_reads n r h e =
    line_row (decimal n) (item_text r.item) (decimal r.weight) (decimal r.gain) (row-narrow n r h e)
    ∙ rw (value-item r.item, value-decimal r.weight, value-decimal r.gain)

pub is-row : (n : ℕ) (r : Row) → n ≤ max_bidders → row_fits r ≡ true → is_row n (row_line n r) ≡ true
is-row n r h e = rw (row_reads n r h e, e) (equal-same (row_line n r))

-- a line from its columns, each with the byte that closes it
pub row-parts : (n : ℕ) (r : Row) → (padded number_columns (decimal n) ++ (blank ∷ [])) ++ ((padded item_columns (item_text r.item) ++ (blank ∷ []))
    ++ ((padded weight_columns (decimal r.weight) ++ (blank ∷ [])) ++ (padded gain_columns (decimal r.gain) ++ (newline ∷ [])))) ≡ row_line n r
unfolding row_line
row-parts n r = simp append_assoc

-- what fills a list from its front is all of it
pub put_all : {l m bs : List ℕ} {n : ℕ} → length bs ≡ length l → Put l m 0 bs n → m ≡ bs
put_all {l} {m} {bs} {n} h p = front (omega arith) p ∙ (ap (λ (x : List ℕ). bs ++ x) (drop_of_length-le l {i = length bs} (omega arith)) ∙ append-nil bs)
