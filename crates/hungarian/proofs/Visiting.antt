-- An item's step: a free item goes to its parent; from a held one the search goes on to its holder, and the item goes to its parent if the holder
-- moves on.
use mathlib.Core.Path.{◌≡◌, refl, ◌∙◌}
use mathlib.Core.List.{List}
use mathlib.Core.Logic.{◌≢◌, inl, inr, ⊎_elim}
use Prim.Native.Nat.{ℕ, ◌+◌, ◌<◌}
use native.Mathlib.Omega.{arith}
use lib.ListN.{set, length, length-set}
use lib.Seq.{get_or-set_same, get_or-set_other}
use Rattle.duality.specs.Lists.{cells}
use Rattle.board.specs.Limits.{max_bidders}
use Rattle.hungarian.specs.Weights.{matrix_at}
use Rattle.hungarian.specs.Settled.{Holds}
use Rattle.hungarian.specs.Tree.{Tree, Visited, Unvisited, InTree, as-root, as-holder, TightNow, unvisited}
use Rattle.hungarian.specs.Growth.{Everyone, Balanced}
use Rattle.hungarian.specs.Path.{Given, Path, released, free, onward}
use Rattle.hungarian.specs.Search.{BidderStart, ItemStart, Extends, Ended}
use Rattle.hungarian.proofs.Cells.{never, fewer, new, new-or-old, old, none_before, price-visited, price-unvisited}
use Rattle.hungarian.proofs.InTree.{reached-as, still-reached, inside, held-visited, not-reached}

-- The tree with an item marked as visited
abbrev pub visiting : Tree → ℕ → Tree
visiting t k =
    record {
      root = t.root;
      holder = t.holder;
      visited = set t.visited k 1;
      excess = t.excess;
      parent = t.parent;
      low = t.low;
      lowest = t.lowest;
      fall = t.fall;
      next = t.next;
      mover = t.mover;
    }

-- The tree with an item given to a bidder
abbrev pub giving : Tree → ℕ → ℕ → Tree
giving t k i =
    record {
      root = t.root;
      holder = set t.holder k (i + 1);
      visited = t.visited;
      excess = t.excess;
      parent = t.parent;
      low = t.low;
      lowest = t.lowest;
      fall = t.fall;
      next = t.next;
      mover = i;
    }

-- A path is one of another tree too, where its edges are tight and its last bidder is idle there
path-map : {Tight Tight₂ : ℕ → ℕ → Type 0} {Idle Idle₂ : ℕ → Type 0} {before : ℕ → ℕ} → ((i k : ℕ) → Tight i k → Tight₂ i k) → ((i : ℕ) → Idle i → Idle₂ i)
    → (i : ℕ) (after : ℕ → ℕ) → Path Tight Idle before i after → Path Tight₂ Idle₂ before i after
path-map f g i after (released x e) = released (g i x) e
path-map f g i after (free k l x z d) = free k l (f i k x) z d
path-map f g i after (onward k j rest x h p ne kept mine d) = onward k j rest (f i k x) h (path-map f g j rest p) ne kept mine d

pub path-from : {Tight : ℕ → ℕ → Type 0} {Idle : ℕ → Type 0} {before after : ℕ → ℕ} {i j : ℕ} → i ≡ j → Path Tight Idle before i after → Path Tight Idle before j after
path-from e p = rw e at p

gives : (l : List ℕ) (k i : ℕ) → k < length l → Given k i (cells l) (cells (set l k (i + 1)))
gives l k i near = record { here = get_or-set_same l k (i + 1) 0 near ∙ omega arith; others = λ j ne. get_or-set_other l k j (i + 1) 0 ne }

-- What is visited and reached is the same in a tree with an item given
given-on : (t : Tree) (k i : ℕ) → Extends t (giving t k i)
given-on t k i = record { root = refl; visited = λ k v. v; excess = λ k v. refl }

given_back : (t : Tree) (k i : ℕ) → Extends (giving t k i) t
given_back t k i = record { root = refl; visited = λ k v. v; excess = λ k v. refl }

given-balanced : {w : ℕ → ℕ → ℕ} {price gain holder : ℕ → ℕ} {t : Tree} (item bidder : ℕ)
    → Balanced w price gain holder t Everyone → Balanced w price gain holder (giving t item bidder) Everyone
given-balanced {t = t} item bidder b =
    record {
      held = b.held;
      early = b.early;
      late = b.late;
      deep = λ i level e q. b.deep i level e (still-reached (given_back t item bidder) q);
      covered = λ i level k e q. b.covered i level k e (still-reached (given_back t item bidder) q);
    }

given-tight : {w : ℕ → ℕ → ℕ} {price gain holder : ℕ → ℕ} {t : Tree} (item bidder i k : ℕ)
    → TightNow w price gain holder t i k → TightNow w price gain holder (giving t item bidder) i k
given-tight {t = t} item bidder i k x = record { level = x.level; reached = still-reached (given-on t item bidder) x.reached; edge = x.edge; even = x.even }

module _ {weights price gain : List ℕ} {parent item : ℕ} {t : Tree} (s : ItemStart weights price gain parent item t) where
  pub parent-near : parent < max_bidders
  parent-near = omega (arith, inside s.inserting s.tight.reached, s.inserting.near)

  -- A free item goes to its parent
  pub item-taken : cells t.holder item ≡ 0 → Ended weights price gain t (giving t item parent)
  item-taken z =
      record {
        long = length-set t.holder item (parent + 1);
        extends = given-on t item parent;
        balanced = given-balanced item parent s.grown.balanced;
        most = omega (arith, s.grown.below, s.grown.most);
        path = free item s.near (given-tight item parent parent item s.tight) z (gives t.holder item parent (omega (arith, s.near, s.sized.holder)));
        start = (s.tight.level, s.tight.reached);
        kept = λ k v. get_or-set_other t.holder item k (parent + 1) 0 (λ (e : k ≡ item). never (rw e at v) s.fresh);
      }

  module _ {j : ℕ} (held : Holds (cells t.holder) item j) where
    inside-list : item < length t.visited
    inside-list = omega (arith, s.near, s.sized.visited)

    pub fewer-left : unvisited (set t.visited item 1) < unvisited t.visited
    fewer-left = fewer t.visited item inside-list s.fresh

    here : Visited (visiting t item) item
    here = new t.visited item inside-list

    on : Extends t (visiting t item)
    on = record { root = refl; visited = λ k v. old t.visited item k inside-list v; excess = λ k v. refl }

    -- Of the bidders that are reached now all but the holder were reached before
    was-reached : {i level : ℕ} → i ≢ j → InTree (cells gain) (cells t.holder) (visiting t item) i level → InTree (cells gain) (cells t.holder) t i level
    was-reached ne (as-root e f) = as-root e f
    was-reached {i} ne (as-holder k v h f) =
        ⊎_elim
        (λ (e : k ≡ item). absurd (ne (let q : Holds (cells t.holder) item i = rw e at h in omega arith)))
        (λ v₂. as-holder k v₂ h f)
        (new-or-old t.visited item k v)

    before : (k : ℕ) → Unvisited (visiting t item) k → Unvisited t k
    before k u = none_before t.visited item k inside-list u

    -- The holder is reached
    pub holder-met : BidderStart weights price gain j (visiting t item)
    holder-met =
        record {
          sized = record {
            holder = s.sized.holder;
            visited = length-set t.visited item 1 ∙ s.sized.visited;
            excess = s.sized.excess;
            parent = s.sized.parent;
          };
          inserting = s.inserting;
          reached = as-holder item here held (omega (arith, s.just));
          grown = record {
            balanced = record {
              held = λ k v. ⊎_elim (λ (e : k ≡ item). (j, rw e held)) (λ v₂. s.grown.balanced.held k v₂) (new-or-old t.visited item k v);
              early = λ k v. ⊎_elim (λ (e : k ≡ item). rw e (omega (arith, s.just))) (λ v₂. s.grown.balanced.early k v₂) (new-or-old t.visited item k v);
              late = λ k l u. s.grown.balanced.late k l (before k u);
              deep = λ i level ne q. s.grown.balanced.deep i level refl (was-reached ne q);
              covered = λ i level k ne q. s.grown.balanced.covered i level k refl (was-reached ne q);
            };
            parent = λ k l u. ⊎_elim
                (λ h. inl h)
                (λ p. inr record { level = p.level; reached = still-reached on p.reached; just = p.just })
                (s.grown.parent k l (before k u));
            lowest = still-reached on s.grown.lowest;
            least = λ i level ne q. s.grown.least i level refl (was-reached ne q);
            below = s.grown.below;
            most = s.grown.most;
          };
        }

    -- The parent is not the holder
    apart : parent ≢ j
    apart e = not-reached s.inserting item s.fresh held (reached-as e refl s.tight.reached)

    module _ {v : Tree} (d : Ended weights price gain (visiting t item) v) where
      far : Extends t v
      far =
          record {
            root = d.extends.root;
            visited = λ k x. d.extends.visited k (on.visited k x);
            excess = λ k x. d.extends.excess k (on.visited k x);
          }

      -- The edge from the parent is tight still
      tight-still : TightNow (matrix_at weights) (cells price) (cells gain) (cells t.holder) v parent item
      tight-still =
          let q = still-reached far s.tight.reached in
          let seen = d.extends.visited item here in
          record {
            level = s.tight.level;
            reached = q;
            edge = s.tight.edge;
            even = rw (price-visited (cells price) v item seen) (omega (
              arith,
              rw (price-unvisited (cells price) t item s.fresh) at s.tight.even,
              s.just,
              d.extends.excess item here,
              d.balanced.early item seen,
              d.balanced.deep parent s.tight.level refl q,
              s.grown.balanced.deep parent s.tight.level refl s.tight.reached,
            ));
          }

      -- The holder moved on: the parent takes its place
      pub item-shifted : v.mover ≡ j → Ended weights price gain t (giving v item parent)
      item-shifted m =
          record {
            long = length-set v.holder item (parent + 1) ∙ d.long;
            extends = record { root = far.root; visited = far.visited; excess = far.excess };
            balanced = given-balanced item parent d.balanced;
            most = d.most;
            path = onward item j (cells v.holder) (given-tight item parent parent item tight-still) held
                (path-from m (path-map (given-tight item parent) (λ i q. still-reached (given-on v item parent) q) v.mover (cells v.holder) d.path))
                apart
                (d.kept item here ∙ held)
                (λ x h. d.kept x (on.visited x (held-visited s.inserting x s.tight.reached h)) ∙ h)
                (gives v.holder item parent (omega (arith, s.near, d.long, s.sized.holder)));
            start = (s.tight.level, s.tight.reached);
            kept = λ k x. get_or-set_other v.holder item k (parent + 1) 0 (λ (e : k ≡ item). never (rw e at x) s.fresh) ∙ d.kept k (on.visited k x);
          }

      -- Another bidder moved
      pub item-passed : v.mover ≢ j → Ended weights price gain t v
      item-passed ne =
          record {
            long = d.long;
            extends = far;
            balanced = d.balanced;
            most = d.most;
            path = d.path;
            start = (d.start.0, was-reached ne d.start.1);
            kept = λ k x. d.kept k (on.visited k x);
          }
