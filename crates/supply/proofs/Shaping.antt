-- Items whose places fit, where they start, and a list that is filled part by part.
use mathlib.Core.Path.{◌≡◌, refl, ap, ◌∙◌}
use mathlib.Core.List.{List}
use Prim.Native.Nat.{ℕ, zero, suc, ◌+◌, ◌≤◌, ◌<◌}
use native.Mathlib.Nat.{add-zero, add-suc}
use native.Mathlib.Numerals.{add-one}
use native.Mathlib.Omega.{arith}
use lib.ListN.{set, replicate}
use Rattle.duality.proofs.Sums.{sum_to-part}
use Rattle.places.proofs.PlaceLaws.{no-other-item}
use Rattle.board.specs.Limits.{max_items}
use Rattle.board.specs.Lent.{written}
use Rattle.board.proofs.Written.{written_start}
use Rattle.supply.specs.declared.record.Board.{Board}
use Rattle.supply.specs.declared.record.Items.{Items}
use Rattle.supply.specs.Board.{places_in, all_places, start_in, item_at}
use Rattle.supply.specs.Shape.{Starts, Located, Fits, filled}
use Rattle.supply.specs.Sound.{Laid, Sound}

-- Items that are laid, with 64 places at most, fit
pub laid-fits : (items : Items) (n : ℕ) → Laid items n → n ≤ max_items → Fits items
laid-fits items n h l = record { formed = h.formed; count = h.count.high; all = omega (arith, h.all) }

pub sound-fits : (b : Board) → Sound b → Fits b.items
sound-fits b h = laid-fits b.items b.market.items h.laid h.auction.items.1

-- The places of the first k items, and of item k + 1, are among all
pub starts-in : (items : Items) (k : ℕ) → k < items.count → start_in items k + places_in items k ≤ all_places items
starts-in items k l = sum_to-part items.count (places_in items) k l

-- The first place of the next item
pub start-next : (items : Items) (k next n : ℕ) → next ≡ start_in items k → n ≡ places_in items k → next + n ≡ start_in items (k + 1)
start-next items k next n e h = rw (add-one, e, h) refl

-- The first place of an item of a sound board is one of 64
pub sound-located : (b : Board) (starts : List ℕ) → Sound b → Starts b.items starts → Located b.items starts
sound-located b starts h s =
    record {
      count = h.laid.count.high;
      first = s;
      below = λ k l. omega (arith, starts-in b.items k l, (h.laid.each k l).low, (sound-fits b h).all);
    }

-- A place of item k + 1 belongs to that item
pub item-at : (items : Items) (k j : ℕ) → k < items.count → j < places_in items k → item_at items (start_in items k + j) ≡ k
item-at items k j l m = no-other-item (places_in items) items.count k (start_in items k + j) l (omega arith, omega arith)

-- ---- A list with one number in some of its cells
pub filled-start : (l : List ℕ) (a v : ℕ) → l ≡ filled l a 0 v
unfolding filled
filled-start l a v = refl

pub filled-one : (l : List ℕ) (a v : ℕ) → set l a v ≡ filled l a 1 v
unfolding filled
filled-one l a v = let e : a + 0 ≡ a = omega arith in rw e refl

pub filled_next : (l m : List ℕ) (a n v : ℕ) → m ≡ filled l a n v → set m (a + n) v ≡ filled l a (n + 1) v
unfolding filled
filled_next l m a n v e = rw (add-one, e)

-- Equal numbers, filled in after those that are written, are written
pub filled-written : (a n v : ℕ) (f : ℕ → ℕ) (l m : List ℕ) → m ≡ written a f l → ((j : ℕ) → j < n → f (a + j) ≡ v) → filled m a n v ≡ written (a + n) f l
unfolding filled written
filled-written a zero v f l m e h = rw (add-zero a) e
filled-written a (suc n) v f l m e h = rw (add-suc a n, filled-written a n v f l m e (λ j lj. h j (omega arith)), h n (omega arith)) refl

-- What g says of items, written at the places of the first k of them
abbrev pub spread_to : Items → (ℕ → ℕ) → ℕ → List ℕ
spread_to items g k = written (start_in items k) (λ s. g (item_at items s)) (replicate max_items 0)

pub spread_none : (items : Items) (g : ℕ → ℕ) → replicate max_items 0 ≡ spread_to items g 0
spread_none items g = written_start (λ s. g (item_at items s)) (replicate max_items 0)

-- The places of item k + 1, after those of the items before it
pub spread-next : (items : Items) (g : ℕ → ℕ) (k next n v : ℕ) (l m : List ℕ) → k < items.count →
    next ≡ start_in items k → n ≡ places_in items k → v ≡ g k → l ≡ spread_to items g k → m ≡ filled l next n v → m ≡ spread_to items g (k + 1)
spread-next items g k next n v l m low es en ev e h =
    rw add-one
    (rw (es, en, ev) at h
    ∙ filled-written (start_in items k) (places_in items k) (g k) (λ s. g (item_at items s)) _ l e (λ j lj. ap g (item-at items k j low lj)))
