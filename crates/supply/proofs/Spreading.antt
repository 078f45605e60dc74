-- A row by place, and the places that a list of items names.
use mathlib.Core.Path.{◌≡◌, refl, sym, ap, ◌∙◌}
use mathlib.Core.Logic.{by_cases}
use mathlib.Core.List.{List, [], ◌∷◌, ◌++◌, append_assoc}
use Prim.Native.Nat.{ℕ, zero, suc, ◌+◌, ◌-◌, ◌≤◌, ◌<◌}
use native.Mathlib.Nat.{add-zero, not-suc-le-zero}
use native.Mathlib.Numerals.{add-one}
use native.Mathlib.Decide.{dec_lt}
use native.Mathlib.Omega.{arith}
use lib.ListN.{length, get_or, set, take, replicate, length-append, length-replicate}
use lib.Seq.{take-suc-set, get_or-append-add}
use Rattle.duality.specs.Lists.{cells}
use Rattle.duality.proofs.Below.{one_more}
use Rattle.places.specs.Places.{AtItem}
use Rattle.places.proofs.Counts.{sum_to-grows}
use Rattle.board.specs.Limits.{max_items}
use Rattle.board.specs.Ranges.{Within}
use Rattle.board.proofs.Filling.{blank}
use Rattle.board.proofs.Written.{written-length, written_in, written-past}
use Rattle.supply.specs.declared.record.Items.{Items}
use Rattle.supply.specs.Board.{places_in, all_places, start_in, item_at}
use Rattle.supply.specs.Shape.{Fits}
use Rattle.supply.specs.Spread.{spread_row, numbers_from, places_of_item, places_named, Listable}
use Rattle.supply.proofs.Shaping.{starts-in, spread_to}

-- ---- A row by place
pub row-length : (items : Items) (row : List ℕ) → length (spread_row items row) ≡ max_items
unfolding spread_row
row-length items row = written-length _ _ _ ∙ length-replicate {A = ℕ} max_items 0

-- A place has the weight of its item
pub row-cell : (items : Items) (row : List ℕ) → Fits items → (s : ℕ) → s < all_places items → get_or (spread_row items row) s 0 ≡ get_or row (item_at items s) 0
unfolding spread_row
row-cell items row f s l = written_in (all_places items) (λ s. get_or row (item_at items s) 0) (replicate max_items 0) f.all s l

-- Past the places all is 0
pub row-past : (items : Items) (row : List ℕ) (s : ℕ) → all_places items ≤ s → get_or (spread_row items row) s 0 ≡ 0
unfolding spread_row
row-past items row s l = written-past (all_places items) (λ s. get_or row (item_at items s) 0) (replicate max_items 0) s l ∙ blank {A = ℕ} max_items s 0

-- What is written at the places of all items is the row
pub spread-all : (items : Items) (row : List ℕ) (k : ℕ) (l : List ℕ) → k ≡ items.count → l ≡ spread_to items (cells row) k → l ≡ spread_row items row
unfolding spread_row
spread-all items row k l e h = rw e at h

-- ---- Numbers in a row
pub numbers-length : (a n : ℕ) → length (numbers_from a n) ≡ n
unfolding numbers_from
numbers-length a zero = refl
numbers-length a (suc n) = omega (arith, length-append (numbers_from a n) (suc (a + n) ∷ []), numbers-length a n)

pub numbers-none : (a : ℕ) → numbers_from a 0 ≡ []
unfolding numbers_from
numbers-none a = refl

-- A list with so many numbers after it, and the next one stored
pub numbers-next : (base l : List ℕ) (a j at : ℕ) → at < length l → take at l ≡ base ++ numbers_from a j →
    take (at + 1) (set l at (a + j + 1)) ≡ base ++ numbers_from a (j + 1)
unfolding numbers_from
numbers-next base l a j at low e =
    rw (add-one at, add-one j, add-one (a + j))
    (take-suc-set l at (suc (a + j)) low ∙ rw e (append_assoc base (numbers_from a j) (suc (a + j) ∷ [])))

-- A cell of the first of two lists
front-cell : (l m : List ℕ) (j : ℕ) → j < length l → get_or (l ++ m) j 0 ≡ get_or l j 0
front-cell [] m j h = absurd (not-suc-le-zero h)
front-cell (x ∷ l) m zero h = refl
front-cell (x ∷ l) m (suc j) h = front-cell l m j (omega arith)

pub numbers-cell : (a n j : ℕ) → j < n → get_or (numbers_from a n) j 0 ≡ suc (a + j)
unfolding numbers_from
numbers-cell a zero j h = absurd (not-suc-le-zero h)
numbers-cell a (suc n) j h =
    one_more n (λ j. get_or (numbers_from a (suc n)) j 0 ≡ suc (a + j))
    (λ j l. front-cell (numbers_from a n) (suc (a + n) ∷ []) j (rw (numbers-length a n) l) ∙ numbers-cell a n j l)
    (let e = get_or-append-add (numbers_from a n) (suc (a + n) ∷ []) 0 0 in rw (numbers-length a n, add-zero) at e)
    j h

-- ---- The places that a list of items names
pub named_none : (items : Items) (item : ℕ → ℕ) → places_named items item 0 ≡ []
unfolding places_named
named_none items item = refl

pub named-next : (items : Items) (item : ℕ → ℕ) (n : ℕ) →
    places_named items item (n + 1) ≡ places_named items item n ++ numbers_from (start_in items (item n - 1)) (places_in items (item n - 1))
unfolding places_named
named-next items item n = rw (add-one n) refl

pub named-length : (items : Items) (item : ℕ → ℕ) (n : ℕ) →
    length (places_named items item (suc n)) ≡ length (places_named items item n) + places_in items (item n - 1)
unfolding places_named
named-length items item n =
    length-append (places_named items item n) (numbers_from (start_in items (item n - 1)) (places_in items (item n - 1)))
    ∙ ap (λ (k : ℕ). length (places_named items item n) + k) (numbers-length (start_in items (item n - 1)) (places_in items (item n - 1)))

-- Of a rising list: the places of the items before one stand before its own
pub named-before : (items : Items) (item : ℕ → ℕ) (n : ℕ) → Listable items item n → (i : ℕ) → i < n →
    length (places_named items item i) ≤ start_in items (item i - 1)
named-before items item n h zero l = rw (named_none items item) (omega arith)
named-before items item n h (suc i) l =
    omega (
      arith,
      named-length items item i,
      named-before items item n h i (omega arith),
      sum_to-grows (suc (item i - 1)) (item (suc i) - 1) (places_in items) (omega (arith, h.rising i l, (h.within i (omega arith)).low)),
    )

-- The places of an item of the list are among all
pub named_in : (items : Items) (item : ℕ → ℕ) (n : ℕ) → Listable items item n → (i : ℕ) → i < n →
    start_in items (item i - 1) + places_in items (item i - 1) ≤ all_places items
named_in items item n h i l = let w = h.within i l in starts-in items (item i - 1) (omega (arith, w.low, w.high))

pub named-few : (items : Items) (item : ℕ → ℕ) (n : ℕ) → Listable items item n → length (places_named items item n) ≤ all_places items
named-few items item zero h = rw (named_none items item) (omega arith)
named-few items item (suc n) h =
    omega (arith, named-length items item n, named-before items item (suc n) h n (omega arith), named_in items item (suc n) h n (omega arith))

-- One item more: its places come after those that are named
pub named_more : (items : Items) (item : ℕ → ℕ) (i a p c d : ℕ) (l m : List ℕ) → c ≡ length (places_named items item i) → take c l ≡ places_named items item i →
    a ≡ start_in items (item i - 1) → p ≡ places_in items (item i - 1) → d ≡ c + p → take d m ≡ take c l ++ numbers_from a p →
    (d ≡ length (places_named items item (i + 1))) × (take d m ≡ places_named items item (i + 1))
named_more items item i a p c d l m ec el ea ep ed em =
    (rw (add-one i) (omega (arith, named-length items item i)), rw (el, ea, ep) at em ∙ sym (named-next items item i))

-- A cell of the places of n + 1 items: one of the first n, or one of the last item's places
module _ (items : Items) (item : ℕ → ℕ) (n : ℕ) where
  pub named-front : (j : ℕ) → j < length (places_named items item n) → get_or (places_named items item (suc n)) j 0 ≡ get_or (places_named items item n) j 0
  unfolding places_named
  named-front j l = front-cell (places_named items item n) (places_of_item items (item n)) j l

  pub named-last : (j : ℕ) → j < places_in items (item n - 1) →
      get_or (places_named items item (suc n)) (length (places_named items item n) + j) 0 ≡ suc (start_in items (item n - 1) + j)
  unfolding places_named
  named-last j l =
      get_or-append-add (places_named items item n) (places_of_item items (item n)) j 0
      ∙ numbers-cell (start_in items (item n - 1)) (places_in items (item n - 1)) j l

-- A named place is one of an item of the list
pub record NamedAt (items : Items) (item : ℕ → ℕ) (n c : ℕ) : Type 0 where
  pub place : ℕ
  pub index : ℕ
  pub cell : c ≡ suc place
  pub below : index < n
  pub at : AtItem (places_in items) (item index - 1) place

named-further : {items : Items} {item : ℕ → ℕ} {n c : ℕ} → NamedAt items item n c → NamedAt items item (suc n) c
named-further {items} {item} {n} {c} h = record { place = h.place; index = h.index; cell = h.cell; below = omega (arith, h.below); at = h.at }

pub named-cell : (items : Items) (item : ℕ → ℕ) (n j : ℕ) → j < length (places_named items item n) → NamedAt items item n (get_or (places_named items item n) j 0)
named-cell items item zero j l = absurd (omega (arith, ap length (named_none items item)))
named-cell items item (suc n) j l =
    by_cases (dec_lt j (length (places_named items item n)))
    (λ h. rw (named-front items item n j h) (named-further (named-cell items item n j h)))
    (λ h. last (j - length (places_named items item n)) (omega arith) (omega (arith, named-length items item n)))
  where
    last : (d : ℕ) → j ≡ length (places_named items item n) + d → d < places_in items (item n - 1) →
        NamedAt items item (suc n) (get_or (places_named items item (suc n)) j 0)
    last d e h = rw e (
        record {
          place = start_in items (item n - 1) + d;
          index = n;
          cell = named-last items item n d h;
          below = omega arith;
          at = (omega arith, omega arith);
        }
        )

-- and a number from 1 to that of the last place
pub named-within : (items : Items) (item : ℕ → ℕ) (n : ℕ) → Listable items item n → (j : ℕ) → j < length (places_named items item n) →
    Within 1 (all_places items) (get_or (places_named items item n) j 0)
named-within items item n h j l =
    let c = named-cell items item n j l in
    record {
      low = omega (arith, c.cell);
      high = omega (arith, c.cell, c.at.1, named_in items item n h c.index c.below);
    }

-- Place s + 1 is named
abbrev pub IsNamed : Items → (ℕ → ℕ) → ℕ → ℕ → Type 0
IsNamed items item n s = (j : ℕ) × (j < length (places_named items item n)) × (get_or (places_named items item n) j 0 ≡ suc s)

-- Every place of an item of the list is named
pub named-place : (items : Items) (item : ℕ → ℕ) (n i s : ℕ) → i < n → AtItem (places_in items) (item i - 1) s → IsNamed items item n s
named-place items item zero i s l at = absurd (not-suc-le-zero l)
named-place items item (suc n) i s l at =
    one_more n (λ i. AtItem (places_in items) (item i - 1) s → IsNamed items item (suc n) s)
    (λ i l at. let (j, lj, e) = named-place items item n i s l at in (j, omega (arith, named-length items item n), named-front items item n j lj ∙ e))
    (λ at. last (s - start_in items (item n - 1)) (omega (arith, at.0)) (omega (arith, at.0, at.1)))
    i l at
  where
    last : (d : ℕ) → s ≡ start_in items (item n - 1) + d → d < places_in items (item n - 1) → IsNamed items item (suc n) s
    last d e h = (length (places_named items item n) + d, omega (arith, named-length items item n), named-last items item n d h ∙ ap suc (sym e))

-- One item with one place
pub named-one : (items : Items) (item : ℕ → ℕ) → places_in items (item 0 - 1) ≡ 1 → places_named items item 1 ≡ suc (start_in items (item 0 - 1)) ∷ []
unfolding places_named numbers_from
named-one items item e = rw (e, add-zero) refl
