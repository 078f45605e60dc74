-- Opening: the counts and the items that stand for them, the verdict as the code comes to it, what it decides, and that an opened board is sound.
use Rattle.std.specs.Prelude.{Err, Ok}
use mathlib.Core.Path.{◌≡◌, refl, sym, ap, ◌∙◌}
use mathlib.Core.Bool.{true}
use mathlib.Core.List.{List, [], ◌∷◌}
use Prim.Native.Nat.{ℕ, suc, ◌+◌, ◌*◌, ◌≤◌, ◌<◌}
use native.Mathlib.Omega.{arith}
use lib.ListN.{length, replicate, length-replicate}
use lib.Dec.{ltb}
use borrow.Author.Tests.{not-false, eqb-true, ltb-false}
use Rattle.duality.specs.Sums.{sum_to}
use Rattle.duality.specs.Lists.{cells}
use Rattle.duality.proofs.Sums.{sum_to-eq, sum_to-most, sum_to-term}
use Rattle.duality.proofs.Decide.{reword, eq-decides, lt-decides, all-decides}
use Rattle.refusals.specs.declared.Refusal.{Refusal}
use Rattle.refusals.specs.declared.Refusal.TheVariants.{Count, Slack, Uneven, Places}
use Rattle.refusals.specs.Demand1.{Check, check_for, first_of, Verdict}
use Rattle.refusals.proofs.Verdicts.{Decided, ends, next, decided-append, served-both, served-next}
use Rattle.refusals.proofs.Places.{cells-served, cells-decide}
use Rattle.board.specs.declared.record.Auction.{Auction}
use Rattle.board.specs.declared.units.Scaled.{Scaled}
use Rattle.board.specs.Limits.{max_items, max_bidders}
use Rattle.board.specs.Ranges.{SlackIn, Within, within_test}
use Rattle.board.specs.Cells.{scaled}
use Rattle.board.specs.Lent.{written}
use Rattle.board.specs.Cells as cell
use Rattle.board.specs.Opening as place
use Rattle.board.specs.Sound as placed
use Rattle.board.proofs.Filed.{row-cell}
use Rattle.board.proofs.Filling.{blank}
use Rattle.board.proofs.Tests.{no-decides, within-decides, slack-decides}
use Rattle.board.proofs.Written.{written-length, written_in, written-past}
use Rattle.supply.specs.declared.record.Board.{Board}
use Rattle.supply.specs.declared.record.Items.{Items}
use Rattle.supply.specs.Board.{max_places, places_in, all_places, start_in, item_at}
use Rattle.supply.specs.Sound.{Laid, Sound}
use Rattle.supply.specs.Opening.{Counts, items_of, opened, OpenMet, count_checks, open_checks, open_by, open_of}

-- ---- The counts, and the items that stand for them

pub counts-sum : {counts : List ℕ} → Counts counts → sum_to (length counts) (cells counts) ≤ max_items * max_places
counts-sum {counts} h = omega (arith, sum_to-most (length counts) max_places (cells counts) h.each, h.few)

pub items_kept : (counts places : List ℕ) (k : ℕ) → k ≡ length counts → places ≡ written k (cells counts) (replicate max_items 0) →
    record { count = length counts; places = places } ≡ items_of counts
unfolding items_of
items_kept counts places k e h = rw (h, e)

pub items-length : (counts : List ℕ) → length (items_of counts).places ≡ max_items
unfolding items_of
items-length counts = written-length (length counts) (cells counts) (replicate max_items 0)

-- An item's places are its count, and there are none past the items
pub places-counted : (counts : List ℕ) (k : ℕ) → length counts ≤ max_items → k < length counts → places_in (items_of counts) k ≡ cells counts k
unfolding items_of
places-counted counts k few l = written_in (length counts) (cells counts) (replicate max_items 0) few k l

pub places-past : (counts : List ℕ) (k : ℕ) → length counts ≤ k → places_in (items_of counts) k ≡ 0
unfolding items_of
places-past counts k l = written-past (length counts) (cells counts) (replicate max_items 0) k l ∙ blank {A = ℕ} max_items k 0

pub items-counted : (counts : List ℕ) → (items_of counts).count ≡ length counts
unfolding items_of
items-counted counts = refl

-- All places are all counts added
pub all-counted : (counts : List ℕ) → length counts ≤ max_items → sum_to (length counts) (cells counts) ≡ all_places (items_of counts)
all-counted counts few =
    rw (items-counted counts) (sum_to-eq (length counts) (cells counts) (places_in (items_of counts)) (λ k l. sym (places-counted counts k few l)))

-- The auction over places, with the items beside it
pub board-opened : (p q : ℕ) (counts : List ℕ) {places : ℕ} {items : Items} {a : Auction} → items ≡ items_of counts →
    places ≡ sum_to (length counts) (cells counts) → a ≡ place.opened places p q →
    record { items = items; market = a.market; state = a.state; weights = replicate (max_bidders * max_items) 0 } ≡ opened p q counts
unfolding opened place.opened
board-opened p q counts e f h = rw (h, f, e)

-- The same from a board that is all 0
pub blank-opened : (p q : ℕ) (counts : List ℕ) {places : ℕ} {items : Items} {b : Board} → b ≡ opened 0 0 [] → items ≡ items_of counts →
    places ≡ sum_to (length counts) (cells counts) →
    record { items = items; market = record { items = places; slack = record { p = p; q = q }; arrived = b.market.arrived; withdrawn = b.market.withdrawn }; state = b.state; weights = b.weights }
    ≡ opened p q counts
unfolding opened place.opened
blank-opened p q counts h e f = rw (h, f, e)

-- ---- The verdict, as the code comes to it

-- What an opening is served for
pub record OpenedOn (items p q : ℕ) (counts : List ℕ) : Type 0 where
  pub count : Within 1 max_items items
  pub slack : SlackIn 1 p q
  pub even : length counts ≡ items
  pub kept : Counts counts
  pub each : (k : ℕ) → k < length counts → Within 1 max_places (cells counts k)
  pub all : sum_to (length counts) (cells counts) ≤ max_items

-- Counts that pass their checks are within limits
pub counts_each : (counts : List ℕ) → first_of (count_checks counts) ≡ Ok tt → (k : ℕ) → k < length counts → Within 1 max_places (cells counts k)
counts_each counts e =
    (all-decides (length counts) _ (λ k. Within 1 max_places (cells counts k)) (λ k. within-decides max_places (cells counts k))).sound
    ((cells-served _ _ (length counts)).complete e)

-- Of as many items as there may be, such counts are kept
pub open_kept : {v : Verdict} (items : ℕ) (counts : List ℕ) → within_test max_items items ≡ true → length counts ≡ items → v ≡ first_of (count_checks counts) →
    v ≡ Ok tt → Counts counts
open_kept items counts w u e f =
    let each = counts_each counts (sym e ∙ f) in
    record { few = omega (arith, u, ((within-decides max_items items).sound w).high); each = λ k l. (each k l).high }

module _ (items p q : ℕ) (counts : List ℕ) where
  abbrev last_check : List Check
  last_check = check_for (Places 0) (ltb max_items (sum_to (length counts) (cells counts))) ∷ []

  pub opened-counts : first_of (open_checks items p q counts) ≡ Ok tt → OpenedOn items p q counts
  unfolding open_checks
  opened-counts e =
      let a = served-next _ _ e in
      let b = served-next _ _ a.1 in
      let d = served-next _ _ b.1 in
      let h = served-both (count_checks counts) last_check d.1 in
      let w = (within-decides max_items items).sound (not-false _ a.0) in
      let even : length counts ≡ items = eqb-true _ _ (not-false _ d.0) in
      let each = counts_each counts h.0 in
      record {
        count = w;
        slack = (slack-decides 1 p q).sound (not-false _ b.0);
        even = even;
        kept = record { few = omega (arith, w.high); each = λ k l. (each k l).high };
        each = each;
        all = ltb-false _ _ (served-next _ _ h.1).0;
      }

  pub open-ready : {b : Board} → first_of (open_checks items p q counts) ≡ Ok tt → b ≡ opened p q counts →
      record { board = b; answer = Ok tt } ≡ open_of items p q counts
  unfolding open_of open_by
  open-ready e h = rw (e, h)

  pub open-refused : {b : Board} (r : Refusal) → first_of (open_checks items p q counts) ≡ Err r → b ≡ opened 0 0 [] →
      record { board = b; answer = Err r } ≡ open_of items p q counts
  unfolding open_of open_by
  open-refused r e h = rw (e, h)

  -- ---- What the checks decide

  count-met : OpenMet items p q counts Count → Within 1 max_items items → ⊥
  count-met (OpenMet.count f) = f

  slack-met : OpenMet items p q counts Slack → SlackIn 1 p q → ⊥
  slack-met (OpenMet.slack f) = f

  uneven-met : OpenMet items p q counts Uneven → length counts ≡ items → ⊥
  uneven-met (OpenMet.uneven f) = f

  places-met : (k : ℕ) → OpenMet items p q counts (Places (suc k)) → Within 1 max_places (cells counts k) → ⊥
  places-met k (OpenMet.places l f) = f

  over-met : OpenMet items p q counts (Places 0) → max_items < sum_to (length counts) (cells counts)
  over-met (OpenMet.over l) = l

  pub open-decided : Decided (OpenMet items p q counts) (open_checks items p q counts)
  unfolding open_checks
  open-decided =
      next (reword (no-decides (within-decides max_items items)) (λ f. OpenMet.count f) count-met)
      (next (reword (no-decides (slack-decides 1 p q)) (λ f. OpenMet.slack f) slack-met)
      (next (reword (no-decides (eq-decides (length counts) items)) (λ f. OpenMet.uneven f) uneven-met)
      (decided-append
      (cells-decide (λ k. Places (suc k)) (λ k. within_test max_places (cells counts k)) (length counts)
      (λ k l. reword (no-decides (within-decides max_places (cells counts k))) (λ f. OpenMet.places l f) (places-met k)))
      (next (reword (lt-decides max_items (sum_to (length counts) (cells counts))) (λ l. OpenMet.over l) over-met) ends))))

-- ---- An opened board is sound

-- Over places
place-sound : (places p q : ℕ) → Within 1 max_items places → SlackIn 1 p q → placed.Sound (place.opened places p q)
unfolding place.opened
place-sound places p q w s =
    record {
      formed = record { prices = refl; holders = refl; flags = refl; gains = refl; rows = length-replicate {A = ℕ} (max_bidders * max_items) 0 };
      items = (w.low, w.high);
      arrived = omega arith;
      slack = s;
      weights = λ i l. absurd (omega arith);
      flags = λ k l. omega (arith, blank {A = ℕ} max_items k 0);
      unused = record {
        price = λ k l m. price k;
        holder = λ k l m. blank {A = ℕ} max_items k 0;
        withdrawn = λ k l m. blank {A = ℕ} max_items k 0;
        weight = λ i k l. absurd (omega arith);
        gain = λ i l m. ap (λ (x : Scaled). x.0) (blank max_bidders i (scaled 0));
        row = λ i k l m n. row-cell _ i k n ∙ blank {A = ℕ} (max_bidders * max_items) (i * max_items + k) 0;
      };
      rising = λ i l. absurd (omega arith);
      holders = λ k i l e. absurd (omega (arith, blank {A = ℕ} max_items k 0));
      matches = record { along = λ i k l. absurd (omega arith); once = λ h i k l. absurd (omega arith) };
      placed = λ i k l. absurd (omega arith);
      unheld = λ k l none. price k;
      withdrawn = λ k l e. price k;
      unplaced = λ i l. absurd (omega arith);
      covers = λ i k l. absurd (omega arith);
    }
  where
    price : (k : ℕ) → cell.price_at (place.opened places p q) k ≡ 0
    price k = ap (λ (x : Scaled). x.0) (blank max_items k (scaled 0))

-- By item
laid : {items p q : ℕ} {counts : List ℕ} → OpenedOn items p q counts → Laid (items_of counts) (sum_to (length counts) (cells counts))
laid {items} {p} {q} {counts} h =
    record {
      formed = items-length counts;
      count = record { low = omega (arith, h.count.low, h.even, items-counted counts); high = omega (arith, h.kept.few, items-counted counts) };
      each = λ k l. let m : k < length counts = omega (arith, items-counted counts) in rw (places-counted counts k h.kept.few m) (h.each k m);
      unused = λ k l m. places-past counts k (omega (arith, items-counted counts));
      all = all-counted counts h.kept.few;
    }

-- There is a place
some-place : {items p q : ℕ} {counts : List ℕ} → OpenedOn items p q counts → 1 ≤ sum_to (length counts) (cells counts)
some-place {items} {p} {q} {counts} h =
    let l : 0 < length counts = omega (arith, h.count.low, h.even) in
    omega (arith, sum_to-term (length counts) 0 (cells counts) l, (h.each 0 l).low)

pub opened-on-sound : {items p q : ℕ} {counts : List ℕ} → OpenedOn items p q counts → Sound (opened p q counts)
unfolding opened place.opened
opened-on-sound {items} {p} {q} {counts} h =
    record {
      laid = laid h;
      auction = place-sound (sum_to (length counts) (cells counts)) p q (record { low = some-place h; high = h.all }) h.slack;
      alike = λ s l. record {
        flag = blank {A = ℕ} max_items s 0 ∙ sym (blank {A = ℕ} max_items (start_in (items_of counts) (item_at (items_of counts) s)) 0);
        edges = λ i m. absurd (omega arith);
      };
    }

pub opened-sound : (items p q : ℕ) (counts : List ℕ) → first_of (open_checks items p q counts) ≡ Ok tt → Sound (opened p q counts)
opened-sound items p q counts e = opened-on-sound (opened-counts items p q counts e)
