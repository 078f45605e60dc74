-- The items tried one after the other, as the code comes to them.
use mathlib.Core.Path.{◌≡◌, refl, sym, ap, ap₂, ◌∙◌}
use mathlib.Core.Logic.{by_cases}
use mathlib.Core.List.{List}
use Prim.Native.Nat.{ℕ, zero, suc, ◌+◌, ◌-◌, ◌*◌, ◌≤◌, ◌<◌, max}
use native.Mathlib.Decide.{ℕ_discrete}
use native.Mathlib.Numerals.{add-one}
use native.Mathlib.Omega.{arith}
use lib.ListN.{length, get_or, set, take, drop, length-drop}
use lib.Seq.{get_or-set_same, get_or-set_other, get_or-drop, take_all}
use Rattle.duality.specs.Sums.{upd}
use Rattle.duality.specs.Lists.{cells}
use Rattle.duality.specs.Greatest.{greatest_of}
use Rattle.duality.proofs.Sums.{upd_same, upd_other, upd-all}
use Rattle.board.specs.Limits.{max_weight}
use Rattle.counting.specs.Count.{if_free, count_with}
use Rattle.counting.specs.Limits.{max_counted}
use Rattle.counting.specs.Rows.{rows_at, Countable}
use Rattle.counting.proofs.Counts.{trying, tried}

-- ---- Only the free places of the items, and the weights of the bidders at them, count

greatest_of-as : {x y : ℕ} (m : ℕ) {f g : ℕ → ℕ} → x ≡ y → ((k : ℕ) → k < m → f k ≡ g k) → greatest_of x m f ≡ greatest_of y m g
greatest_of-as zero e h = e
greatest_of-as (suc m) e h = ap₂ max (greatest_of-as m e (λ k l. h k (omega arith))) (h m (omega arith))

pub count-as : (n m : ℕ) (f g : ℕ → ℕ) (v w : ℕ → ℕ → ℕ) → ((k : ℕ) → k < m → f k ≡ g k) → ((i k : ℕ) → i < n → k < m → v i k ≡ w i k) →
    count_with n m f v ≡ count_with n m g w
count-as zero m f g v w hf hw = refl
count-as (suc n) m f g v w hf hw =
    greatest_of-as m
    (count-as n m f g (λ i. v (suc i)) (λ i. w (suc i)) hf rest)
    (λ k l. ap₂ if_free (hf k l) (ap₂ ◌+◌ (hw 0 k (omega arith) l)
    (count-as n m (upd k (f k - 1) f) (upd k (g k - 1) g) (λ i. v (suc i)) (λ i. w (suc i)) (fewer k l) rest)))
  where
    rest : (i k : ℕ) → i < n → k < m → v (suc i) k ≡ w (suc i) k
    rest i k li lk = hw (suc i) k (omega arith) lk

    fewer : (k : ℕ) → k < m → (j : ℕ) → j < m → upd k (f k - 1) f j ≡ upd k (g k - 1) g j
    fewer k l j lj =
        by_cases (ℕ_discrete j k)
        (λ (e : j ≡ k). rw e (upd_same k (f k - 1) f ∙ ap (λ x. x - 1) (hf k l) ∙ sym (upd_same k (g k - 1) g)))
        (λ ne. upd_other k (f k - 1) f j ne ∙ hf j lj ∙ sym (upd_other k (g k - 1) g j ne))

-- ---- A loop over the items has come to item k + 1

pub record Tried (left items : ℕ) (rows free : List ℕ) (best : ℕ) (k : ℕ) : Type 0 where
  pub some : 0 < left
  pub greatest : best ≡
      greatest_of (count_with (left - 1) items (cells free) (λ i. rows_at rows (suc i))) k (trying (left - 1) items (cells free) (rows_at rows))
  pub most : best ≤ left * max_weight

-- ---- The rows of the rest

abbrev pub rest_of : List ℕ → List ℕ
rest_of rows = take (length rows - max_counted) (drop max_counted rows)

rest-is : (rows : List ℕ) → rest_of rows ≡ drop max_counted rows
rest-is rows = take_all (length rows - max_counted) (drop max_counted rows) (omega (arith, length-drop max_counted rows))

rest_at : (rows : List ℕ) (i k : ℕ) → rows_at (rest_of rows) i k ≡ rows_at rows (suc i) k
rest_at rows i k =
    let e : max_counted + (i * max_counted + k) ≡ suc i * max_counted + k = omega arith in
    ap (λ l. rows_at l i k) (rest-is rows) ∙ get_or-drop max_counted rows (i * max_counted + k) 0 ∙ ap (λ c. get_or rows c 0) e

pub countable-rest : {left items : ℕ} {rows : List ℕ} → Countable left items rows → 0 < left → Countable (left - 1) items (rest_of rows)
countable-rest {left} {items} {rows} h some =
    record {
      bidders = omega (arith, h.bidders);
      items = h.items;
      size = omega (arith, h.size, ap length (rest-is rows), length-drop max_counted rows);
      light = λ i k li lk. omega (arith, rest_at rows i k, h.light (suc i) k (omega arith) lk);
    }

-- ---- Item by item

-- The count of the rest, with any places free
rest-counts : (n items : ℕ) (rows free : List ℕ) → count_with n items (cells free) (rows_at (rest_of rows)) ≡ count_with n items (cells free) (λ i. rows_at rows (suc i))
rest-counts n items rows free =
    count-as n items (cells free) (cells free) (rows_at (rest_of rows)) (λ i. rows_at rows (suc i)) (λ k l. refl) (λ i k li lk. rest_at rows i k)

module _ {left items : ℕ} {rows free : List ℕ} where
  -- None
  pub tried-none : {best : ℕ} → 0 < left → best ≡ count_with (left - 1) items (cells free) (rows_at (rest_of rows)) → best ≤ (left - 1) * max_weight →
      Tried left items rows free best 0
  tried-none some e most = record { some = some; greatest = e ∙ rest-counts (left - 1) items rows free; most = omega arith }

  module _ {best : ℕ} {k : ℕ} (t : Tried left items rows free best k) (l : k < items) where
    -- Item k + 1, of which no place is free
    pub tried-full : get_or free k 0 ≡ 0 → Tried left items rows free best (k + 1)
    tried-full e =
        let f : trying (left - 1) items (cells free) (rows_at rows) k ≡ 0 = ap (λ n. if_free n (rows_at rows 0 k + count_with (left - 1) items (upd k (cells free k - 1) (cells free)) (λ i. rows_at rows (suc i)))) e in
        record { some = t.some; greatest = rw add-one (omega (arith, t.greatest, f)); most = t.most }

    -- Item k + 1, of which one is
    pub tried-free : {weight next : ℕ} → Countable left items rows → length free ≡ max_counted → 0 < get_or free k 0 →
        weight ≡ count_with (left - 1) items (cells (set free k (get_or free k 0 - 1))) (rows_at (rest_of rows)) → weight ≤ (left - 1) * max_weight →
        next ≡ max best (get_or rows k 0 + weight) → Tried left items rows free next (k + 1)
    tried-free {weight} {next} h size some e most g =
        let x : weight ≡ count_with (left - 1) items (upd k (cells free k - 1) (cells free)) (λ i. rows_at rows (suc i)) = e ∙ rest-counts (left - 1) items rows (set free k (cells free k - 1)) ∙ fewer in
        let f : trying (left - 1) items (cells free) (rows_at rows) k ≡ rows_at rows 0 k + weight = tried (cells free k) _ some ∙ ap (λ y. rows_at rows 0 k + y) (sym x) in
        let z : 0 * max_counted + k ≡ k = omega arith in
        let first : rows_at rows 0 k ≡ get_or rows k 0 = ap (λ c. get_or rows c 0) z in
        record {
          some = t.some;
          greatest = rw add-one (omega (arith, t.greatest, f, first, g));
          most = omega (arith, t.most, t.some, first, g, h.light 0 k t.some l);
        }
      where
        fewer : count_with (left - 1) items (cells (set free k (cells free k - 1))) (λ i. rows_at rows (suc i)) ≡
            count_with (left - 1) items (upd k (cells free k - 1) (cells free)) (λ i. rows_at rows (suc i))
        fewer =
            count-as (left - 1) items _ _ (λ i. rows_at rows (suc i)) (λ i. rows_at rows (suc i))
            (λ j lj. upd-all (λ j v. cells (set free k (cells free k - 1)) j ≡ v) k (cells free k - 1) (cells free)
            (get_or-set_same free k (cells free k - 1) 0 (omega (arith, h.items))) (λ j ne. get_or-set_other free k j (cells free k - 1) 0 ne) j)
            (λ i k li lk. refl)
