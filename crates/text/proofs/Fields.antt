-- The fields of a line, read one after the other: what a turn of the loop keeps, and what its end answers. Assumes nothing.
use mathlib.Core.Path.{◌≡◌, refl, sym, ◌∙◌, ap}
use Prim.Native.Nat.{ℕ, suc, ◌+◌, ◌-◌, ◌<◌, ◌≤◌}
use native.Mathlib.Nat.{zero-add, add-zero}
use native.Mathlib.Numerals.{add-one}
use native.Mathlib.Omega.{arith}
use mathlib.Core.Bool.{Bool, true, false}
use mathlib.Core.List.{List, []}
use lib.ListN.{length, get_or, set, replicate, length-set}
use lib.Seq.{sets, set_out}
use lib.Dec.{eqb}
use borrow.Author.Tests.{eqb-true, eqb-false}
use Rattle.std.proofs.Common.{Option, Some, None}
use Rattle.text.specs.Bytes.{tab, newline}
use Rattle.text.specs.Limits.{kept}
use Rattle.text.specs.Number.{number, field_at}
use Rattle.text.specs.Line.{Fields, all, bad, prepend, follow, fields_from, fields_at, bad_line, line_with}
use Rattle.text.specs.Reader.{tabbed_at, number_in, after_of}
use Rattle.text.specs.declared.scan.Field.{Field}
use Rattle.text.specs.declared.line.Line.{Line}
use Rattle.text.proofs.Lines.{at-newline, at-tab, tab-here, no-tab}
use Rattle.text.proofs.Numbers.{inside, grows}

-- a letter and `count` fields that were read, with those that follow
abbrev gather : ℕ → ℕ → List ℕ → Fields → Line
gather letter count numbers (all ns next) = record { letter = letter; next = next; count = count + length ns; numbers = sets numbers count ns }
gather letter count numbers bad = bad_line

gather_none : (letter : ℕ) (f : Fields) → gather letter 0 (replicate kept 0) f ≡ line_with letter f
gather_none letter (all ns next) = ap (λ (k : ℕ). record { letter = letter; next = next; count = k; numbers = sets (replicate kept 0) 0 ns }) (zero-add (length ns))
gather_none letter bad = refl

gather-more : (letter count : ℕ) (numbers : List ℕ) (v : ℕ) (f : Fields)
    → gather letter (count + 1) (set numbers count v) f ≡ gather letter count numbers (prepend v f)
gather-more letter count numbers v (all ns next) = let e : count + 1 + length ns ≡ count + suc (length ns) = omega arith in rw (e, add-one)
gather-more letter count numbers v bad = refl

-- the fields from `at` on were read as far as `i`: with those from there on they make the line
pub record Gathered (s : List ℕ) (at : ℕ) (letter : ℕ) (numbers : List ℕ) (count : ℕ) (i : ℕ) : Type 0 where
  pub room : length numbers ≡ kept
  pub few : count ≤ i
  pub rest : gather letter count numbers (fields_from (length s - count) s i) ≡ line_with letter (fields_at s at)

pub gathered_none : (s : List ℕ) (at letter : ℕ) → Gathered s at letter (replicate kept 0) 0 at
unfolding fields_at
gathered_none s at letter =
    let z : length s - 0 ≡ length s = omega arith in
    record {
      room = refl;
      few = omega arith;
      rest = gather_none letter (fields_from (length s - 0) s at) ∙ ap (λ (k : ℕ). line_with letter (fields_from k s at)) z;
    }

-- a number at a position stands after a tab there
after-tab : (s : List ℕ) (i v n : ℕ) → tabbed_at s i ≡ number v n → (get_or s i 0 ≡ tab) × (field_at s (i + 1) ≡ number v n)
after-tab s i v n e = go (eqb (get_or s i 0) tab) refl
  where
    go : (t : Bool) → eqb (get_or s i 0) tab ≡ t → (get_or s i 0 ≡ tab) × (field_at s (i + 1) ≡ number v n)
    go true q = let h = eqb-true (get_or s i 0) tab q in (h, sym (tab-here s i h) ∙ e)
    go false q =
        let f : None ≡ number v n = sym (no-tab s i (eqb-false (get_or s i 0) tab q)) ∙ e in
        absurd cc

-- what a reader answers, and where it stands then, say which field stood at its position
pub field_read : (o : Option Field) (i v n : ℕ) → Some v ≡ number_in o → n ≡ after_of o i → o ≡ number v n
field_read (Some f) i v n e h = let a : v ≡ f.number = cc in rw (a, h)
field_read None i v n e h = absurd cc

pub field_none : (o : Option Field) (i n : ℕ) → None ≡ number_in o → n ≡ after_of o i → (o ≡ None) × (n ≡ i)
field_none (Some f) i n e h = absurd cc
field_none None i n e h = (refl, h)

-- a field moves the reader on, in the text
pub falls : (s : List ℕ) (i v n : ℕ) → tabbed_at s i ≡ number v n → (i < length s) × (i < n)
falls s i v n e =
    let w = after-tab s i v n e in
    (inside s i (omega (arith, w.0)), omega (arith, grows s (i + 1) v n w.1))

module _ {s : List ℕ} {at letter : ℕ} {numbers : List ℕ} {count i : ℕ} (w : Gathered s at letter numbers count i) where
  -- the fields from here on, where a byte of the text stands here
  turn : (f : Fields) → i < length s → fields_from (suc (length s - (count + 1))) s i ≡ f → gather letter count numbers f ≡ line_with letter (fields_at s at)
  turn f h e =
      let z : length s - count ≡ suc (length s - (count + 1)) = omega (arith, w.few) in
      sym (ap (λ (k : ℕ). gather letter count numbers (fields_from k s i)) z ∙ ap (gather letter count numbers) e) ∙ w.rest

  follows : (f : Option Field) → get_or s i 0 ≡ tab → field_at s (i + 1) ≡ f
      → gather letter count numbers (follow f (λ n. fields_from (length s - (count + 1)) s n)) ≡ line_with letter (fields_at s at)
  follows f e g =
      rw (← g)
      (turn
      (follow (field_at s (i + 1)) (λ n. fields_from (length s - (count + 1)) s n))
      (inside s i (omega arith))
      (at-tab (length s - (count + 1)) s i e))

  -- one field more
  pub gathered-more : (v n : ℕ) → tabbed_at s i ≡ number v n → Gathered s at letter (set numbers count v) (count + 1) n
  gathered-more v n e =
      let g = after-tab s i v n e in
      record {
        room = length-set numbers count v ∙ w.room;
        few = omega (arith, w.few, grows s (i + 1) v n g.1);
        rest = gather-more letter count numbers v (fields_from (length s - (count + 1)) s n) ∙ follows (number v n) g.0 g.1;
      }

  -- one field more than are kept
  pub gathered-past : (v n : ℕ) → tabbed_at s i ≡ number v n → kept ≤ count → Gathered s at letter numbers (count + 1) n
  gathered-past v n e h = rw (set_out numbers count v (omega (arith, w.room))) at (gathered-more v n e)

  -- no field more: the line is closed here
  pub gathered-closed : get_or s i 0 ≡ newline → record { letter = letter; next = i + 1; count = count; numbers = numbers } ≡ line_with letter (fields_at s at)
  gathered-closed e =
      ap (λ (k : ℕ). record { letter = letter; next = i + 1; count = k; numbers = numbers }) (sym (add-zero count))
      ∙ turn (all [] (i + 1)) (inside s i (omega arith)) (at-newline (length s - (count + 1)) s i e)
