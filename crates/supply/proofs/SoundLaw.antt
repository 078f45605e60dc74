-- The soundness test decides soundness.
use mathlib.Core.Path.{◌≡◌, refl}
use mathlib.Core.Bool.{Bool, true, false, ◌&&◌}
use mathlib.Core.List.{List}
use Prim.Native.Nat.{ℕ, ◌<◌}
use native.Mathlib.Nat.{le_refl}
use native.Mathlib.Omega.{arith}
use lib.ListN.{length, get_or}
use lib.Dec.{eqb, ltb}
use borrow.Author.Tests.{lt-ltb, le-ltb, ltb-true, ltb-false, eq-eqb, ne_eqb}
use Rattle.duality.specs.Decide.{Decides, all_below}
use Rattle.duality.proofs.Decide.{eq-decides, true-decides, and-decides, all-decides, true-is, reword, clash}
use Rattle.places.proofs.PlaceLaws.{place-below, every-place-has-its-item}
use Rattle.board.specs.Limits.{max_items}
use Rattle.board.specs.Ranges.{Within}
use Rattle.board.specs.Cells.{row_in}
use Rattle.board.proofs.Tests.{within-decides}
use Rattle.board.proofs.SoundLaw as placed
use Rattle.supply.specs.declared.record.Board.{Board}
use Rattle.supply.specs.declared.record.Items.{Items}
use Rattle.supply.specs.Board.{max_places, auction_of, places_in, all_places, start_in, item_at}
use Rattle.supply.specs.Shape.{Starts, Belongs}
use Rattle.supply.specs.Sound.{Laid, Alike}
use Rattle.supply.specs.SoundTest.{count_test, counts_test, laid_test, column_test, alike_test, sound_test, SoundTestDecides}

-- The places of an item, and none past the count
pub record CountHolds (used : Bool) (n : ℕ) : Type 0 where
  pub within : used ≡ true → Within 1 max_places n
  pub none : used ≡ false → n ≡ 0

pub count-decides : (used : Bool) (n : ℕ) → Decides (count_test used n) (CountHolds used n)
unfolding count_test
count-decides true n =
    reword (within-decides max_places n) (λ h. record { within = λ e. h; none = λ e. absurd (clash true refl e) }) (λ h. h.within refl)
count-decides false n = reword (eq-decides n 0) (λ h. record { within = λ e. absurd (clash false e refl); none = λ e. h }) (λ h. h.none refl)

pub counts-decide : (items : Items) → Decides (counts_test items) ((k : ℕ) → k < max_items → CountHolds (ltb k items.count) (places_in items k))
unfolding counts_test
counts-decide items = all-decides max_items _ _ (λ k. count-decides (ltb k items.count) (places_in items k))

-- The items of a board that is laid have their places
pub laid-counts : (items : Items) (places : ℕ) → Laid items places → counts_test items ≡ true
laid-counts items places h =
    (counts-decide items).complete
    (λ k m. record {
      within = λ e. h.each k (ltb-true k items.count e);
      none = λ e. h.unused k (ltb-false k items.count e) m;
    })

pub laid-decides : (items : Items) (places : ℕ) → Decides (laid_test items places) (Laid items places)
unfolding laid_test
laid-decides items places =
    reword
    (and-decides
    (eq-decides (length items.places) max_items)
    (and-decides (within-decides max_items items.count) (and-decides (true-decides (counts_test items)) (eq-decides places (all_places items)))))
    (λ h. record {
      formed = h.0;
      count = h.1.0;
      each = λ k l. ((counts-decide items).sound h.1.1.0 k (omega (arith, h.1.0.high))).within (lt-ltb k items.count l);
      unused = λ k l m. ((counts-decide items).sound h.1.1.0 k m).none (le-ltb k items.count l);
      all = h.1.1.1;
    })
    (λ h. (h.formed, (h.count, (laid-counts items places h, h.all))))

-- The first place of a place's item, read from the lists that code makes
pub first_read : (items : Items) (places : ℕ) (starts owner : List ℕ) → Laid items places → Starts items starts → Belongs items owner → (s : ℕ) → s < places →
    (get_or owner s 0 < items.count) × (get_or starts (get_or owner s 0) 0 ≡ start_in items (item_at items s)) × (start_in items (item_at items s) < places)
first_read items places starts owner h first belongs s l =
    let ls : s < all_places items = omega (arith, h.all) in
    let (lk, at) = every-place-has-its-item (places_in items) items.count s ls in
    let below = place-below (places_in items) items.count (item_at items s) (start_in items (item_at items s)) lk
    (le_refl _, omega (arith, (h.each (item_at items s) lk).low)) in
    rw (belongs s ls) (lk, first (item_at items s) lk, omega (arith, h.all))

-- Two places are alike, of the weights and the flags of a board
abbrev pub column_in : List ℕ → ℕ → ℕ → ℕ → Bool
column_in weights arrived s t = all_below arrived (λ i. eqb (get_or (row_in weights i) s 0) (get_or (row_in weights i) t 0))

abbrev pub alike_in : List ℕ → List ℕ → ℕ → ℕ → ℕ → Bool
alike_in weights withdrawn arrived s t = eqb (get_or withdrawn s 0) (get_or withdrawn t 0) && column_in weights arrived s t

pub column-in-decides : (weights : List ℕ) (arrived s t : ℕ) →
    Decides (column_in weights arrived s t) ((i : ℕ) → i < arrived → get_or (row_in weights i) s 0 ≡ get_or (row_in weights i) t 0)
column-in-decides weights arrived s t = all-decides arrived _ _ (λ i. eq-decides (get_or (row_in weights i) s 0) (get_or (row_in weights i) t 0))

-- A place is as itself, and as no other that is withdrawn where it is not
pub alike_same : (weights withdrawn : List ℕ) (arrived s t : ℕ) → s ≡ t → true ≡ alike_in weights withdrawn arrived s t
alike_same weights withdrawn arrived s t e =
    rw e (true-is (and-decides (eq-decides (get_or withdrawn t 0) _) (column-in-decides weights arrived t t)) (refl, λ i l. refl))

pub alike-other : (weights withdrawn : List ℕ) (arrived s t : ℕ) → (get_or withdrawn s 0 ≡ get_or withdrawn t 0 → ⊥) →
    false ≡ alike_in weights withdrawn arrived s t
alike-other weights withdrawn arrived s t ne = rw (ne_eqb _ _ ne)

pub alike-column : (weights withdrawn : List ℕ) (arrived s t : ℕ) → get_or withdrawn s 0 ≡ get_or withdrawn t 0 →
    column_in weights arrived s t ≡ alike_in weights withdrawn arrived s t
alike-column weights withdrawn arrived s t e = rw (eq-eqb _ _ e)

pub alike_read : (b : Board) (s t : ℕ) → t ≡ start_in b.items (item_at b.items s) →
    alike_test b s ≡ alike_in b.weights b.market.withdrawn b.market.arrived s t
unfolding alike_test column_test
alike_read b s t e = rw e

pub alike-decides : (b : Board) (s : ℕ) → Decides (alike_test b s) (Alike b s)
unfolding alike_test column_test
alike-decides b s =
    reword
    (and-decides
    (eq-decides (get_or b.market.withdrawn s 0) (get_or b.market.withdrawn (start_in b.items (item_at b.items s)) 0))
    (column-in-decides b.weights b.market.arrived s (start_in b.items (item_at b.items s))))
    (λ h. record { flag = h.0; edges = h.1 })
    (λ h. (h.flag, h.edges))

pub sound-decides : SoundTestDecides
unfolding sound_test
sound-decides b =
    reword
    (and-decides
    (laid-decides b.items b.market.items)
    (and-decides (placed.sound-decides (auction_of b)) (all-decides b.market.items (alike_test b) (Alike b) (alike-decides b))))
    (λ h. record { laid = h.0; auction = h.1.0; alike = h.1.1 })
    (λ h. (h.laid, (h.auction, h.alike)))
