-- The soundness test decides soundness.
use mathlib.Core.Path.{◌≡◌, refl}
use mathlib.Core.Bool.{Bool, true, false, cond}
use mathlib.Core.Logic.{◌⊎◌, inl, inr, ⊎_elim, by_cases}
use Prim.Native.Nat.{ℕ, zero, suc, ◌-◌, ◌*◌, ◌≤◌, ◌<◌}
use native.Mathlib.Nat.{mul-zero}
use native.Mathlib.Decide.{dec_lt}
use native.Mathlib.Omega.{arith}
use lib.ListN.{get_or}
use lib.Dec.{ltb}
use borrow.Author.Tests.{le-ltb, ltb-false}
use Rattle.duality.specs.Matching.{IsMatching}
use Rattle.duality.proofs.Decide.{reword, clash}
use Rattle.board.specs.declared.record.Auction.{Auction}
use Rattle.board.specs.Limits.{max_items, max_bidders}
use Rattle.board.specs.Cells.{price_at, holder_at, withdrawn_at, weight_at, row_at}
use Rattle.board.specs.Live.{live, matching_of}
use Rattle.board.specs.Sound.{Sound, Unused}
use Rattle.board.specs.SoundTest.{used_by, SoundTestDecides}
use Rattle.board.proofs.LiveLaws.{held-names, rising-edges, edges-weighed, weighed-edges}
use Rattle.board.proofs.Placing.{Holders, holders-decide}
use Rattle.board.proofs.SoundTests.{formed-decides, limits-decide, Item, items-decide, flag-used, flag-past, limit-used, limit-past, used-arrived, used-absent, EdgeAt, row-decides, PairAt, Place, place-decides, Parts, parts-decide}

-- A live edge is an edge at an item that is not withdrawn
pub live_on : (withdrawn : Bool) (w : ℕ) → withdrawn ≡ false → cond withdrawn 0 w ≡ w
live_on withdrawn w e = rw e

pub live-not : (withdrawn : Bool) (w : ℕ) → 0 < cond withdrawn 0 w → withdrawn ≡ false
live-not true w l = absurd (omega arith)
live-not false w l = refl

any-weight : (c w s : ℕ) → (0 < w → c * w ≤ s) → c * w ≤ s
any-weight c zero s f = rw mul-zero (omega arith)
any-weight c (suc w) s f = f (omega arith)

-- A bidder that has not arrived holds nothing
pub absent-unplaced : (b : Auction) → Holders b.state.holder b.market.items b.market.arrived → (i : ℕ) → b.market.arrived ≤ i → matching_of b i ≡ 0
absent-unplaced b h i l = go (matching_of b i) refl
  where
    go : (c : ℕ) → matching_of b i ≡ c → c ≡ 0
    go zero e = refl
    go (suc k) e = let r = held-names b.state.holder b.market.items i k e in absurd (omega (arith, (h k i r.0 r.1).0))

-- What the parts of the test say of a board within limits
record Read (b : Auction) : Type 0 where
  small : b.market.items ≤ max_items
  few : b.market.arrived ≤ max_bidders
  holders : Holders b.state.holder b.market.items b.market.arrived
  items : (k : ℕ) → k < max_items → Item (ltb k b.market.items) (price_at b k) (holder_at b k) (get_or b.market.withdrawn k 0)
  edges : (i k : ℕ) → i < max_bidders → k < max_items → EdgeAt b i k
  places : (i : ℕ) → i < max_bidders → Place b i (matching_of b i)

module _ (b : Auction) (h : Read b) where
  past : (k : ℕ) → b.market.items ≤ k → k < max_items → holder_at b k ≡ 0
  past k l m = (h.items k m).unused (le-ltb k b.market.items l)

  unused : Unused b
  unused =
      record {
        price = λ k l m. (h.items k m).unheld (past k l m);
        holder = past;
        withdrawn = λ k l m. omega (arith, (h.items k m).flagged, flag-past b.market.items k l);
        weight = λ i k n l m.
            omega (arith, h.few, (h.edges i k (omega (arith, h.few)) m).light, limit-past (used_by b i) k (rw (used-arrived b i n) l));
        gain = λ i l n. (h.places i n).unplaced (absent-unplaced b h.holders i l);
        row = λ i k l n m. omega (arith, (h.edges i k n m).light, limit-past (used_by b i) k (rw (used-absent b i l) (omega arith)));
      }

  pair : (i k : ℕ) → i < b.market.arrived → matching_of b i ≡ suc k → PairAt b i k
  pair i k n e = (h.places i (omega (arith, h.few))).placed k e

  matches : IsMatching b.market.arrived b.market.items (live b) (matching_of b)
  matches =
      record {
        along = λ i k n e. (
          (held-names b.state.holder b.market.items i k e).0,
          rw (live_on (withdrawn_at b k) (weight_at b i k) (pair i k n e).live) (pair i k n e).edge,
        );
        once = λ x i k n m e f. omega (arith, (held-names b.state.holder b.market.items x k e).1, (held-names b.state.holder b.market.items i k f).1);
      }

  -- A held item is not withdrawn
  withdrawn : (k : ℕ) → k < b.market.items → withdrawn_at b k ≡ true → price_at b k ≡ 0
  withdrawn k l e = go (holder_at b k) refl
    where
      go : (c : ℕ) → holder_at b k ≡ c → price_at b k ≡ 0
      go zero f = (h.items k (omega (arith, h.small))).unheld f
      go (suc i) f = let r = h.holders k i l f in absurd (clash (withdrawn_at b k) e (pair i k r.0 r.1).live)

  unheld : (k : ℕ) → k < b.market.items → ((i : ℕ) → i < b.market.arrived → matching_of b i ≡ suc k → ⊥) → price_at b k ≡ 0
  unheld k l nobody = go (holder_at b k) refl
    where
      go : (c : ℕ) → holder_at b k ≡ c → price_at b k ≡ 0
      go zero f = (h.items k (omega (arith, h.small))).unheld f
      go (suc i) f = let r = h.holders k i l f in absurd (nobody i r.0 r.1)

read : (b : Auction) → Parts b → Read b
read b h =
    let within = (limits-decide b.market.items b.market.arrived b.market.slack.p b.market.slack.q).sound h.limits in
    record {
      small = within.items.high;
      few = within.arrived;
      holders = (holders-decide b.state.holder b.market.items b.market.arrived).sound h.holders;
      items = (items-decide b.state.price b.state.holder b.market.withdrawn b.market.items).sound h.items;
      edges = λ i k l m. (row-decides b i).sound (h.bidders i l).0 k m;
      places = λ i l. (place-decides b i (matching_of b i)).sound (h.bidders i l).1;
    }

to : (b : Auction) → Parts b → Sound b
to b parts =
    let within = (limits-decide b.market.items b.market.arrived b.market.slack.p b.market.slack.q).sound parts.limits in
    let h = read b parts in
    record {
      formed = (formed-decides b).sound parts.formed;
      items = (within.items.low, within.items.high);
      arrived = within.arrived;
      slack = within.slack;
      weights = λ i n. edges-weighed (row_at b i) b.market.items (λ k l. omega (
        arith,
        (h.edges i k (omega (arith, h.few)) (omega (arith, h.small))).light,
        limit-used (used_by b i) k (rw (used-arrived b i n) l),
      ));
      flags = λ k l. omega (arith, (h.items k (omega (arith, h.small))).flagged, flag-used b.market.items k l);
      unused = unused b h;
      rising = λ i n. rising-edges (row_at b i) b.market.items;
      holders = h.holders;
      matches = matches b h;
      placed = λ i k n e. rw (live_on (withdrawn_at b k) (weight_at b i k) (pair b h i k n e).live) (pair b h i k n e).whole;
      unheld = unheld b h;
      withdrawn = withdrawn b h;
      unplaced = λ i n. (h.places i (omega (arith, h.few))).unplaced;
      covers = λ i k n l w.
          let on = live-not (withdrawn_at b k) (weight_at b i k) w in
          rw (live_on (withdrawn_at b k) (weight_at b i k) on) ((h.edges i k (omega (arith, h.few)) (omega (arith, h.small))).covered on);
    }

module _ (b : Auction) (h : Sound b) where
  -- A cell that is used, or holds no edge
  used-or : (i k : ℕ) → i < max_bidders → k < max_items → ((i < b.market.arrived) × (k < b.market.items)) ⊎ (weight_at b i k ≡ 0)
  used-or i k n l =
      by_cases
      (dec_lt i b.market.arrived)
      (λ a. by_cases (dec_lt k b.market.items) (λ c. inl (a, c)) (λ c. inr (h.unused.weight i k a (omega arith) l)))
      (λ a. inr (h.unused.row i k (omega arith) n l))

  edge_at : (i k : ℕ) → i < max_bidders → k < max_items → EdgeAt b i k
  edge_at i k n l =
      ⊎_elim
      (λ x. record {
        light = omega (
          arith,
          weighed-edges (row_at b i) b.market.items (h.weights i x.0) k x.1,
          limit-used (used_by b i) k (rw (used-arrived b i x.0) x.1),
        );
        covered = λ on.
            any-weight
            (b.market.slack.q - b.market.slack.p)
            (weight_at b i k)
            _
            (λ w. rw (live_on (withdrawn_at b k) (weight_at b i k) on) at (h.covers i k x.0 x.1 (rw (live_on (withdrawn_at b k) (weight_at b i k) on) w)));
      })
      (λ z. record {
        light = omega arith;
        covered = λ on. any-weight (b.market.slack.q - b.market.slack.p) (weight_at b i k) _ (λ w. absurd (omega arith));
      })
      (used-or i k n l)

  place_at : (i : ℕ) → i < max_bidders → Place b i (matching_of b i)
  place_at i n = by_cases (dec_lt i b.market.arrived) here (λ a. absent (omega arith))
    where
      here : i < b.market.arrived → Place b i (matching_of b i)
      here a =
          record {
            unplaced = h.unplaced i a;
            placed = λ k e.
                let on = live-not (withdrawn_at b k) (weight_at b i k) (h.matches.along i k a e).1 in
                record {
                  live = on;
                  edge = rw (live_on (withdrawn_at b k) (weight_at b i k) on) at (h.matches.along i k a e).1;
                  whole = rw (live_on (withdrawn_at b k) (weight_at b i k) on) at (h.placed i k a e);
                };
          }

      absent : b.market.arrived ≤ i → Place b i (matching_of b i)
      absent a =
          let z = absent-unplaced b h.holders i a in
          record { unplaced = λ _. h.unused.gain i a n; placed = λ k e. absurd (omega arith) }

  item-at : (k : ℕ) → k < max_items → Item (ltb k b.market.items) (price_at b k) (holder_at b k) (get_or b.market.withdrawn k 0)
  item-at k l =
      by_cases
      (dec_lt k b.market.items)
      (λ a. record {
        unheld = λ z. h.unheld k a (λ i n e. omega (arith, (held-names b.state.holder b.market.items i k e).1));
        unused = λ t. absurd (omega (arith, ltb-false k b.market.items t));
        flagged = omega (arith, h.flags k a, flag-used b.market.items k a);
      })
      (λ a.
      let c : b.market.items ≤ k = omega arith in
      record {
        unheld = λ z. h.unused.price k c l;
        unused = λ t. h.unused.holder k c l;
        flagged = omega (arith, h.unused.withdrawn k c l, flag-past b.market.items k c);
      })

  from : Parts b
  from =
      record {
        formed = (formed-decides b).complete h.formed;
        limits = (limits-decide b.market.items b.market.arrived b.market.slack.p b.market.slack.q).complete
            (record { items = record { low = h.items.0; high = h.items.1 }; arrived = h.arrived; slack = h.slack });
        holders = (holders-decide b.state.holder b.market.items b.market.arrived).complete h.holders;
        items = (items-decide b.state.price b.state.holder b.market.withdrawn b.market.items).complete item-at;
        bidders = λ i n. (
          (row-decides b i).complete (λ k l. edge_at i k n l),
          (place-decides b i (matching_of b i)).complete (place_at i n),
        );
      }

pub sound-decides : SoundTestDecides
sound-decides b = reword (parts-decide b) (to b) (from b)
