-- A bidder's step: it is reached and looked from, and then a bidder is released or an item is met.
use mathlib.Core.Path.{◌≡◌, refl, sym, ap, subst, ◌∙◌}
use mathlib.Core.List.{List}
use mathlib.Core.Logic.{◌≢◌, ◌⊎◌, inl, inr, ⊎_elim, by_cases}
use Prim.Native.Nat.{ℕ, suc, ◌+◌, ◌-◌, ◌≤◌, ◌<◌}
use native.Mathlib.Decide.{ℕ_discrete, dec_lt}
use native.Mathlib.Omega.{arith}
use lib.ListN.{length}
use Rattle.duality.specs.Lists.{cells}
use Rattle.board.specs.Limits.{max_items}
use Rattle.hungarian.specs.Limits.{unreached}
use Rattle.hungarian.specs.Weights.{matrix_at}
use Rattle.hungarian.specs.Tree.{Tree, Visited, Unvisited, excess_at, parent_at, InTree, TightNow}
use Rattle.hungarian.specs.Growth.{Everyone, Parent, Grown}
use Rattle.hungarian.specs.Reach.{Fits, Dear, Looked}
use Rattle.hungarian.specs.Path.{released}
use Rattle.hungarian.specs.Search.{Inserting, BidderStart, ItemStart, Extends, Ended}
use Rattle.hungarian.proofs.Cells.{price-unvisited}
use Rattle.hungarian.proofs.InTree.{reached-as, still-reached, all-covered, all-low, cheap, inside, one-level}

module _ {weights price gain : List ℕ} {bidder : ℕ} {t : Tree} (s : BidderStart weights price gain bidder t) where
  abbrev w : ℕ → ℕ → ℕ
  w = matrix_at weights

  -- The bidder is one of those inserted
  pub bidder-inside : bidder < suc t.root
  bidder-inside = inside s.inserting s.reached

  pub bidder-fits : Fits (matrix_at weights) (cells price) bidder (cells gain bidder + t.fall) t.excess t.parent
  bidder-fits =
      record {
        long = s.sized.excess;
        long₂ = s.sized.parent;
        near = omega (arith, bidder-inside, s.inserting.near);
        covered = λ k l. omega (arith, all-covered s.inserting bidder k bidder-inside l);
        small = λ k l. omega (arith, all-low s.inserting bidder bidder-inside, cheap s.inserting k l, s.grown.below, s.grown.most);
      }

  -- No edge to a visited item has less than its excess
  pub bidder-dear : Dear (matrix_at weights) (cells price) bidder (cells gain bidder + t.fall) t.visited t.excess
  bidder-dear k lk v = omega (arith, s.grown.balanced.early k v, all-covered s.inserting bidder k bidder-inside lk)

  module _ {r : Tree} (l : Looked (matrix_at weights) (cells price) bidder (cells gain bidder + t.fall) t r) where
    -- So a visited item keeps its excess
    kept : (k : ℕ) → Visited t k → excess_at r k ≡ excess_at t k
    kept k v =
        let (i, h) = s.grown.balanced.held k v in
        let lk = (s.inserting.settled.held.known k i h).0 in
        (l.relaxed.lesser k lk).0.1 (bidder-dear k lk v)

    -- What is visited is the same, with its excess
    grows : Extends t r
    grows = record { root = l.root; visited = λ k v. rw l.visited v; excess = kept }

    shrinks : Extends r t
    shrinks =
        record {
          root = sym l.root;
          visited = λ k v. rw l.visited at v;
          excess = λ k v. sym (kept k (rw l.visited at v));
        }

    before : (k : ℕ) → Unvisited r k → Unvisited t k
    before k u = rw l.visited at u

    -- The level of the bidder itself
    own : {i level : ℕ} → i ≡ bidder → InTree (cells gain) (cells t.holder) r i level → level ≡ cells gain bidder + t.fall
    own e q = one-level s.inserting (rw e at (still-reached shrinks q)) s.reached

    -- The low level is no more than it was, nor than the bidder's own, and no less than the fall
    low-less : (r.low ≤ cells gain bidder + t.fall) × (r.low ≤ t.low) × (t.fall ≤ r.low) × InTree (cells gain) (cells t.holder) t r.lowest r.low
    low-less =
        let (low, who) = l.lowest in
        by_cases (dec_lt (cells gain bidder + t.fall) t.low)
        (λ x. (omega (arith, low.0 x), omega (arith, low.0 x), omega (arith, low.0 x), reached-as (sym (who.0 x)) (sym (low.0 x)) s.reached))
        (λ x. let y : t.low ≤ cells gain bidder + t.fall = omega arith in
        (omega (arith, low.1 y), omega (arith, low.1 y), omega (arith, low.1 y, s.grown.below), reached-as (sym (who.1 y)) (sym (low.1 y)) s.grown.lowest))

    -- An item has kept its excess and parent, or has them from the bidder
    abbrev Whose : ℕ → Type 0
    Whose k =
        ((excess_at r k ≡ excess_at t k) × (parent_at r k ≡ parent_at t k) × (w bidder k + excess_at r k ≤ cells gain bidder + t.fall + cells price k))
        ⊎ ((w bidder k + excess_at r k ≡ cells gain bidder + t.fall + cells price k) × (parent_at r k ≡ bidder) × (excess_at r k ≤ excess_at t k))

    whose : (k : ℕ) → k < max_items → Whose k
    whose k lk =
        let (e, p) = l.relaxed.lesser k lk in
        let fits = all-covered s.inserting bidder k bidder-inside lk in
        by_cases (dec_lt (cells gain bidder + t.fall + cells price k - w bidder k) (excess_at t k))
        (λ x. inr (omega (arith, e.0 x), p.0 x, omega (arith, e.0 x)))
        (λ x. let y : excess_at t k ≤ cells gain bidder + t.fall + cells price k - w bidder k = omega arith in
        inl (e.1 y, p.1 y, omega (arith, e.1 y)))

    fall-grows : t.fall ≤ r.fall
    fall-grows = ⊎_elim (λ f. omega (arith, low-less.2)) (λ f. item f.0 f.1 f.2) l.least.found
      where
        item : r.next < max_items → Unvisited t r.next → excess_at r r.next ≡ r.fall → t.fall ≤ r.fall
        item lk u e =
            ⊎_elim
            (λ f. omega (arith, f.0, s.grown.balanced.late r.next lk u))
            (λ f. omega (arith, f.0, all-covered s.inserting bidder r.next bidder-inside lk))
            (whose r.next lk)

    -- No edge of a reached bidder has less than the excess; none is lower; and the parents are right
    covered : (i level k : ℕ) → InTree (cells gain) (cells t.holder) r i level → k < max_items → w i k + excess_at r k ≤ level + cells price k
    covered i level k q lk =
        by_cases (ℕ_discrete i bidder)
        (λ (e : i ≡ bidder). rw e (here (own e q)))
        (λ ne. there (s.grown.balanced.covered i level k ne (still-reached shrinks q) lk))
      where
        here : level ≡ cells gain bidder + t.fall → w bidder k + excess_at r k ≤ level + cells price k
        here e = ⊎_elim (λ f. omega (arith, f.2)) (λ f. omega (arith, f.0)) (whose k lk)

        there : w i k + excess_at t k ≤ level + cells price k → w i k + excess_at r k ≤ level + cells price k
        there h = ⊎_elim (λ f. omega (arith, f.0)) (λ f. omega (arith, f.2)) (whose k lk)

    least : (i level : ℕ) → InTree (cells gain) (cells t.holder) r i level → r.low ≤ level
    least i level q =
        by_cases (ℕ_discrete i bidder)
        (λ (e : i ≡ bidder). omega (arith, own e q, low-less.0))
        (λ ne. omega (arith, s.grown.least i level ne (still-reached shrinks q), low-less.1))

    parent_of : (k : ℕ) → k < max_items → Unvisited r k → (unreached ≤ excess_at r k) ⊎ Parent w (cells price) (cells gain) (cells t.holder) r k
    parent_of k lk u =
        ⊎_elim
        (λ f. ⊎_elim
        (λ h. inl (omega (arith, f.0)))
        (λ p. inr record {
          level = p.level;
          reached = rw f.1 (still-reached grows p.reached);
          just = rw f.1 (omega (arith, f.0, p.just));
        })
        (s.grown.parent k lk (before k u)))
        (λ f. inr record {
          level = cells gain bidder + t.fall;
          reached = rw f.1 (still-reached grows s.reached);
          just = rw f.1 f.0;
        })
        (whose k lk)

    -- The tree, all of it looked from
    pub grown-on : Grown (matrix_at weights) (cells price) (cells gain) (cells t.holder) r Everyone
    grown-on =
        record {
          balanced = record {
            held = λ k v. s.grown.balanced.held k (shrinks.visited k v);
            early = λ k v. omega (arith, grows.excess k (shrinks.visited k v), s.grown.balanced.early k (shrinks.visited k v), fall-grows);
            late = λ k lk u. l.least.least k lk (before k u);
            deep = λ i level e q. omega (arith, least i level q, l.least.below);
            covered = λ i level k e. covered i level k;
          };
          parent = parent_of;
          lowest = still-reached grows low-less.3;
          least = λ i level e. least i level;
          below = l.least.below;
          most = omega (arith, low-less.1, s.grown.most);
        }

    -- The item of least excess is met over a tight edge from its parent
    pub item-met : r.next ≢ max_items → ItemStart weights price gain (parent_at r r.next) r.next r
    item-met ne = ⊎_elim (λ f. absurd (ne f.0)) (λ f. start f.0 f.1 f.2 f.3) l.least.found
      where
        start : r.next < max_items → Unvisited t r.next → excess_at r r.next ≡ r.fall → r.fall < r.low → ItemStart weights price gain (parent_at r r.next) r.next r
        start lk u e less =
            record {
              sized = record {
                holder = ap length l.holder ∙ s.sized.holder;
                visited = ap length l.visited ∙ s.sized.visited;
                excess = l.relaxed.long ∙ s.sized.excess;
                parent = l.relaxed.long₂ ∙ s.sized.parent;
              };
              inserting = subst (λ (h : List ℕ). Inserting weights (cells price) (cells gain) (cells h) r.root) (sym l.holder)
                  (subst (λ (i : ℕ). Inserting weights (cells price) (cells gain) (cells t.holder) i) (sym l.root) s.inserting);
              grown = subst (λ (h : List ℕ). Grown (matrix_at weights) (cells price) (cells gain) (cells h) r Everyone) (sym l.holder) grown-on;
              near = lk;
              fresh = fresh;
              just = e;
              tight = subst (λ (h : List ℕ). TightNow (matrix_at weights) (cells price) (cells gain) (cells h) r (parent_at r r.next) r.next) (sym l.holder)
                  (⊎_elim (λ h. absurd (omega (arith, grown-on.most))) (λ p. tight p) (grown-on.parent r.next lk fresh));
            }
          where
            fresh : Unvisited r r.next
            fresh = rw l.visited u

            tight : Parent (matrix_at weights) (cells price) (cells gain) (cells t.holder) r r.next
                → TightNow (matrix_at weights) (cells price) (cells gain) (cells t.holder) r (parent_at r r.next) r.next
            tight p =
                let high = grown-on.least (parent_at r r.next) p.level refl p.reached in
                record {
                  level = p.level;
                  reached = p.reached;
                  edge = omega (arith, p.just);
                  even = rw (price-unvisited (cells price) r r.next fresh) (omega (arith, p.just));
                }

    -- Or the bidder of lowest gain, which is 0 by now, is released
    pub bidder-released : r.next ≡ max_items → Ended weights price gain t r
    bidder-released e =
        record {
          long = ap length l.holder;
          extends = grows;
          balanced = grown-on.balanced;
          most = omega (arith, grown-on.below, grown-on.most);
          path = released (reached-as (sym l.mover) low-reached grown-on.lowest) (λ k. ap (λ z. cells z k) l.holder);
          start = (r.low, reached-as (sym l.mover) refl low-less.3);
          kept = λ k v. ap (λ z. cells z k) l.holder;
        }
      where
        low-reached : r.low ≡ r.fall
        low-reached = ⊎_elim (λ f. sym f.1) (λ f. absurd (omega (arith, f.0))) l.least.found

    -- What the item's step leaves is what the bidder's leaves
    pub bidder-onward : {z : Tree} → Ended weights price gain r z → Ended weights price gain t z
    bidder-onward {z} d =
        record {
          long = d.long ∙ ap length l.holder;
          extends = record {
            root = d.extends.root ∙ l.root;
            visited = λ k v. d.extends.visited k (grows.visited k v);
            excess = λ k v. d.extends.excess k (grows.visited k v) ∙ grows.excess k v;
          };
          balanced = rw l.holder at d.balanced;
          most = d.most;
          path = rw l.holder at d.path;
          start = (d.start.0, still-reached shrinks (subst (λ (h : List ℕ). InTree (cells gain) (cells h) r z.mover d.start.0) l.holder d.start.1));
          kept = λ k v. d.kept k (grows.visited k v) ∙ ap (λ z. cells z k) l.holder;
        }
