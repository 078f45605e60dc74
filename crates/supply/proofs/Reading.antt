-- Matching and prices by place, read by item.
use mathlib.Core.Path.{◌≡◌, refl, ap, ap₂}
use mathlib.Core.List.{List}
use Prim.Native.Nat.{ℕ, zero, suc, ◌+◌, ◌-◌, ◌≤◌, ◌<◌, min}
use native.Mathlib.Numerals.{add-one}
use native.Mathlib.Omega.{arith}
use lib.ListN.{get_or}
use Rattle.duality.specs.Matching.{at_cell}
use Rattle.places.specs.Places.{places_to, AtItem}
use Rattle.places.specs.Plan.{read_back}
use Rattle.places.specs.Total.{least_of, least_price}
use Rattle.supply.specs.declared.record.Items.{Items}
use Rattle.supply.specs.Board.{places_in, all_places, start_in}
use Rattle.supply.specs.Shape.{Belongs}

-- A cell that names something
pub at_named : (f : ℕ → ℕ) (c v : ℕ) → (c ≡ 0 → ⊥) → v ≡ f (c - 1) → v ≡ at_cell f c
at_named f zero v ne e = absurd (ne refl)
at_named f (suc k) v ne e = let q : suc k - 1 ≡ k = omega arith in rw q at e

-- The least of one more
pub least-next : (x j least v : ℕ) (f : ℕ → ℕ) → least ≡ least_of x j f → v ≡ min least (f j) → v ≡ least_of x (j + 1) f
least-next x j least v f e h = rw (add-one, h, e)

-- The least price of an item, from its first place on
pub least-item : (items : Items) (price : ℕ → ℕ) (k start places v : ℕ) → start ≡ start_in items k → places ≡ places_in items k →
    v ≡ least_of (price start) places (λ j. price (start + j)) → v ≡ least_price (places_in items) price k
least-item items price k start places v e f h = rw (e, f) at h

-- A matching whose cells name the item of each place
pub read_cell : (items : Items) (owner : List ℕ) (matching : ℕ → ℕ) (i : ℕ) → Belongs items owner → matching i ≤ all_places items →
    at_cell (λ s. suc (get_or owner s 0)) (matching i) ≡ read_back (places_in items) items.count matching i
read_cell items owner matching i belongs l = go (matching i) l
  where
    go : (c : ℕ) → c ≤ all_places items → at_cell (λ s. suc (get_or owner s 0)) c ≡ read_back (places_in items) items.count (λ _. c) i
    go zero l = refl
    go (suc s) l = ap suc (belongs s (omega arith))

-- The least of equal numbers
least-as : (x y n : ℕ) (f g : ℕ → ℕ) → x ≡ y → ((j : ℕ) → j < n → f j ≡ g j) → least_of x n f ≡ least_of y n g
least-as x y zero f g e h = e
least-as x y (suc n) f g e h = ap₂ min (least-as x y n f g e (λ j l. h j (omega arith))) (h n (omega arith))

-- Prices that agree on the places of an item have the same least price
pub least-price-as : (count price other : ℕ → ℕ) (k : ℕ) → 0 < count k → ((s : ℕ) → AtItem count k s → price s ≡ other s) →
    least_price count price k ≡ least_price count other k
least-price-as count price other k some e =
    least-as _ _ (count k) _ _ (e (places_to count k) (omega arith, omega arith)) (λ j l. e (places_to count k + j) (omega arith, omega arith))
