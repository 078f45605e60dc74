-- An insertion: how its tree starts, and that all is settled once its prices and gains are adjusted.
use mathlib.Core.Path.{◌≡◌, refl, sym, ap, subst, ◌∙◌}
use mathlib.Core.List.{List}
use mathlib.Core.Logic.{◌≢◌, ◌⊎◌, inl, inr, ⊎_elim, by_cases}
use Prim.Native.Nat.{ℕ, suc, ◌+◌, ◌-◌, ◌*◌, ◌≤◌, ◌<◌}
use native.Mathlib.Decide.{ℕ_discrete, dec_lt}
use native.Mathlib.Numerals.{add-one}
use native.Mathlib.Omega.{arith}
use lib.ListN.{set, length, replicate, length-set, length-replicate}
use lib.Seq.{get_or-set_same, get_or-set_other}
use Rattle.duality.specs.Lists.{cells}
use Rattle.duality.proofs.Below.{find, one_more}
use Rattle.board.specs.Limits.{max_items, max_bidders, max_weight}
use Rattle.hungarian.specs.Weights.{matrix_at, Light}
use Rattle.hungarian.specs.Settled.{Holds, TightEdge, Settled, SettledIn}
use Rattle.hungarian.specs.Tree.{Tree, Sized, Visited, Unvisited, visited_at, excess_at, price_now, InTree, as-root, as-holder, TightNow, IdleNow}
use Rattle.hungarian.specs.Growth.{Everyone, Balanced, Sprout}
use Rattle.hungarian.specs.Path.{Path}
use Rattle.hungarian.specs.Search.{Inserting, BidderStart, Ended}
use Rattle.hungarian.specs.Insertion.{Adjustable, Adjusted, AdjustableIn, AdjustedIn}
use Rattle.hungarian.proofs.Cells.{get_or-all, mark, never, price-visited, price-unvisited}
use Rattle.hungarian.proofs.InTree.{all-covered, all-low, cheap, held-visited}
use Rattle.hungarian.proofs.Visiting.{path-from}
use Rattle.hungarian.proofs.Shifting.{Shifted, shifted}

-- Before any bidder
none-settled : (w : ℕ → ℕ → ℕ) → Settled w (cells (replicate max_items 0)) (cells (replicate max_bidders 0)) (cells (replicate max_items 0)) 0
none-settled w =
    record {
      held = record { known = λ k i h. absurd (nobody k i h); once = λ j k i h. absurd (nobody j i h) };
      tight = λ k i h. absurd (nobody k i h);
      placed = λ i l. absurd (omega arith);
      unheld = λ k l z. get_or-all {A = ℕ} max_items k 0;
      covers = λ i k l. absurd (omega arith);
      low = λ i l. absurd (omega arith);
    }
  where
    nobody : (k i : ℕ) → Holds (cells (replicate max_items 0)) k i → ⊥
    nobody k i h = omega (arith, get_or-all {A = ℕ} max_items k 0)

pub none_in : (weights : List ℕ) → SettledIn weights (replicate max_items 0) (replicate max_bidders 0) (replicate max_items 0) 0
none_in weights =
    record {
      prices = length-replicate {A = ℕ} max_items 0;
      gains = length-replicate {A = ℕ} max_bidders 0;
      holders = length-replicate {A = ℕ} max_items 0;
      settled = none-settled (matrix_at weights);
    }

-- A bidder comes in with a gain at the limit
entered : {weights price gain holder : List ℕ} {n : ℕ} → Light weights → n < max_bidders → SettledIn weights price gain holder n
    → Inserting weights (cells price) (cells (set gain n max_weight)) (cells holder) n
entered {gain = gain} {n = n} light near q =
    let s = q.settled in
    record {
      light = light;
      near = near;
      settled = record {
        held = s.held;
        tight = λ k i h. record { edge = (s.tight k i h).edge; even = omega (arith, (s.tight k i h).even, other i (s.held.known k i h).1) };
        placed = λ i l p. s.placed i l (omega (arith, other i l));
        unheld = s.unheld;
        covers = λ i k l lk. omega (arith, s.covers i k l lk, other i l);
        low = λ i l. omega (arith, s.low i l, other i l);
      };
      covers = λ k lk. omega (arith, light (n * max_items + k), own);
      low = omega (arith, own);
    }
  where
    own : cells (set gain n max_weight) n ≡ max_weight
    own = get_or-set_same gain n max_weight 0 (omega (arith, q.gains))

    other : (i : ℕ) → i < n → cells (set gain n max_weight) i ≡ cells gain i
    other i l = get_or-set_other gain n i max_weight 0 (λ e. absurd (omega arith))

-- Its tree is its root alone
sprouted : (weights price gain holder : List ℕ) (n : ℕ) (t : Tree) → Sized t → Sprout n holder t → cells gain n ≡ max_weight
    → Inserting weights (cells price) (cells gain) (cells holder) n → BidderStart weights price gain n t
sprouted weights price gain holder n t sized p full s =
    record {
      sized = sized;
      inserting = subst (λ (l : List ℕ). Inserting weights (cells price) (cells gain) (cells l) t.root) (sym p.holder)
          (subst (λ (i : ℕ). Inserting weights (cells price) (cells gain) (cells holder) i) (sym p.root) s);
      reached = as-root (sym p.root) (omega (arith, p.fall));
      grown = record {
        balanced = record {
          held = λ k v. never v (p.fresh k);
          early = λ k v. never v (p.fresh k);
          late = λ k l u. omega (arith, p.fall);
          deep = λ i level ne q. absurd (alone i level ne q);
          covered = λ i level k ne q. absurd (alone i level ne q);
        };
        parent = λ k l u. inl (omega (arith, p.excess k l));
        lowest = as-root (p.lowest ∙ sym p.root) (p.low ∙ sym full ∙ ap (cells gain) (sym p.lowest));
        least = λ i level ne q. absurd (alone i level ne q);
        below = omega (arith, p.fall);
        most = omega (arith, p.low);
      };
    }
  where
    alone : (i level : ℕ) → i ≢ n → InTree (cells gain) (cells t.holder) t i level → ⊥
    alone i level ne (as-root e f) = ne (e ∙ p.root)
    alone i level ne (as-holder k v h f) = never v (p.fresh k)

-- Both together
pub first-tree : {weights price gain holder : List ℕ} {n : ℕ} {t : Tree} → Light weights → n < max_bidders → SettledIn weights price gain holder n
    → Sized t → Sprout n holder t → BidderStart weights price (set gain n max_weight) n t
first-tree {weights} {price} {gain} {holder} {n} {t} light near q sized p =
    sprouted weights price (set gain n max_weight) holder n t sized p (get_or-set_same gain n max_weight 0 (omega (arith, q.gains))) (entered light near q)

-- The tree is exhausted
module _ {weights : List ℕ} {price gain holder : ℕ → ℕ} {r : Tree} (s : Inserting weights price gain holder r.root)
    (b : Balanced (matrix_at weights) price gain holder r Everyone) (most : r.fall ≤ max_weight) where
  visited-near : (k : ℕ) → Visited r k → k < max_items
  visited-near k v = let (i, h) = b.held k v in (s.settled.held.known k i h).0

  adjustable : Adjustable price gain holder (visited_at r) (excess_at r) r.fall
  adjustable =
      record {
        once = record { known = λ k i h. ((s.settled.held.known k i h).0, omega (arith, (s.settled.held.known k i h).1, s.near)); once = s.settled.held.once };
        held = b.held;
        early = b.early;
        small = λ k v. omega (arith, cheap s k (visited-near k v));
        enough = λ k i v h. omega (arith, b.deep i (gain i + excess_at r k) refl (as-holder k v h refl));
      }

  -- Who is reached
  reached-or-not : (i : ℕ) → ((level : ℕ) × InTree gain holder r i level) ⊎ ((level : ℕ) → InTree gain holder r i level → ⊥)
  reached-or-not i =
      by_cases (ℕ_discrete i r.root)
      (λ e. inl (gain i, as-root e refl))
      (λ ne. ⊎_elim
      (λ f. inl (gain i + excess_at r f.0, as-holder f.0 f.2.0 f.2.1 refl))
      (λ none. inr (λ level q. neither ne none q))
      (find (λ k. Visited r k × Holds holder k i) decide max_items))
    where
      decide : (k : ℕ) → Dec (Visited r k × Holds holder k i)
      decide k =
          ⊎_elim
          (λ v. by_cases (ℕ_discrete (holder k) (suc i)) (λ h. yes (v, h)) (λ ne. no (λ q. ne q.1)))
          (λ u. no (λ q. never q.0 u))
          (mark (visited_at r k))

      neither : {level : ℕ} → i ≢ r.root → ((k : ℕ) → k < max_items → Visited r k × Holds holder k i → ⊥) → InTree gain holder r i level → ⊥
      neither ne none (as-root e f) = ne e
      neither ne none (as-holder k v h f) = none k (visited-near k v) (v, h)

  module _ {price' gain₁ gain' : ℕ → ℕ} (a : Adjusted price gain holder (visited_at r) (excess_at r) r.fall price' gain₁ max_items)
      (own : gain' r.root ≡ gain₁ r.root - r.fall) (other : (i : ℕ) → i ≢ r.root → gain' i ≡ gain₁ i) where
    root_kept : gain₁ r.root ≡ gain r.root
    root_kept = a.others r.root (λ k l v h. absurd (omega (arith, (s.settled.held.known k r.root h).1)))

    -- The price of an item at the end, and the gain of a bidder
    price-at : (k : ℕ) → price' k ≡ price_now price r k
    price-at k =
        by_cases (dec_lt k max_items)
        (λ l. a.prices k l)
        (λ g. a.further k (omega arith) ∙ sym (price-unvisited price r k (⊎_elim (λ v. absurd (g (visited-near k v))) (λ u. u) (mark (visited_at r k)))))

    gain-reached : {i level : ℕ} → InTree gain holder r i level → gain' i ≡ level - r.fall
    gain-reached (as-root e f) = rw (f, e) (omega (arith, root_kept))
    gain-reached {i} (as-holder k v h f) =
        omega (
          arith,
          other i (λ e. absurd (omega (arith, (s.settled.held.known k i h).1))),
          a.gains k i (visited-near k v) v h,
          b.early k v,
          b.deep i (gain i + excess_at r k) refl (as-holder k v h refl),
        )

    gain-other : {i : ℕ} → ((level : ℕ) → InTree gain holder r i level → ⊥) → gain' i ≡ gain i
    gain-other {i} none = other i (λ e. none (gain i) (as-root e refl)) ∙ a.others i (λ k l v h. none _ (as-holder k v h refl))

    fallen : (i : ℕ) → gain' i ≤ gain i
    fallen i = ⊎_elim (λ q. by_level q.1) (λ none. omega (arith, gain-other none)) (reached-or-not i)
      where
        by_level : {level : ℕ} → InTree gain holder r i level → gain' i ≤ gain i
        by_level (as-root e f) = omega (arith, gain-reached (as-root e f))
        by_level (as-holder k v h f) = omega (arith, gain-reached (as-holder k v h f), b.early k v)

    -- What was held is tight still
    still : (k i : ℕ) → Holds holder k i → TightEdge (matrix_at weights) price' gain' i k
    still k i h =
        record {
          edge = (s.settled.tight k i h).edge;
          even = rw (price-at k) (⊎_elim
              (λ v. rw (price-visited price r k v) (omega (
                arith,
                (s.settled.tight k i h).even,
                b.early k v,
                gain-reached (as-holder k v h refl),
                b.deep i (gain i + excess_at r k) refl (as-holder k v h refl),
              )))
              (λ u. rw (price-unvisited price r k u) (omega (arith, (s.settled.tight k i h).even, gain-other (λ level q. never (held-visited s k q h) u))))
              (mark (visited_at r k)));
        }

    tight-then : (i k : ℕ) → TightNow (matrix_at weights) price gain holder r i k → TightEdge (matrix_at weights) price' gain' i k
    tight-then i k x = record { edge = x.edge; even = rw (price-at k, gain-reached x.reached) x.even }

    idle_then : (i : ℕ) → IdleNow gain holder r i → gain' i ≡ 0
    idle_then i q = omega (arith, gain-reached q)

    all-covered-then : (i k : ℕ) → i < suc r.root → k < max_items → matrix_at weights i k ≤ gain' i + price' k
    all-covered-then i k l lk =
        rw (price-at k) (⊎_elim (λ q. reached q.0 q.1 (mark (visited_at r k))) (λ none. unreached-one (gain-other none) (mark (visited_at r k))) (reached-or-not i))
      where
        reached : (level : ℕ) → InTree gain holder r i level → Visited r k ⊎ Unvisited r k → matrix_at weights i k ≤ gain' i + price_now price r k
        reached level q (inl v) =
            rw (price-visited price r k v) (omega (arith, b.covered i level k refl q lk, b.deep i level refl q, b.early k v, gain-reached q))
        reached level q (inr u) =
            rw (price-unvisited price r k u) (omega (arith, b.covered i level k refl q lk, b.deep i level refl q, b.late k lk u, gain-reached q))

        unreached-one : gain' i ≡ gain i → Visited r k ⊎ Unvisited r k → matrix_at weights i k ≤ gain' i + price_now price r k
        unreached-one e (inl v) = rw (price-visited price r k v) (omega (arith, all-covered s i k l lk))
        unreached-one e (inr u) = rw (price-unvisited price r k u) (omega (arith, all-covered s i k l lk))

    -- All bidders, the root too, are settled after a shift along a path from the root
    pub all_settled : (after : ℕ → ℕ) → Path (TightNow (matrix_at weights) price gain holder r) (IdleNow gain holder r) holder r.root after
        → Settled (matrix_at weights) price' gain' after (suc r.root)
    all_settled after path =
        record {
          held = record {
            known = λ k i h. (p.near k i h, ⊎_elim (λ e. omega arith) (λ q. omega (arith, (s.settled.held.known q.0 i q.1).1)) (p.from k i h));
            once = λ j k i h₁ h₂. ⊎_elim (λ e. e) (λ q. absurd (⊎_elim (λ h. homeless j i q.0 h) (λ h. homeless k i q.0 h) q.1)) (p.once j k i h₁ h₂);
          };
          tight = p.tight;
          placed = one_more r.root _
              (λ i l g. ⊎_elim (λ e. absurd (omega arith)) (λ q. q) (p.placed i l g))
              (λ g. let (k, h, n) = p.moved g in (k, h));
          unheld = λ k l z. price-at k ∙ price-unvisited price r k (free k (p.unheld k z)) ∙ s.settled.unheld k l (p.unheld k z);
          covers = all-covered-then;
          low = λ i l. omega (arith, fallen i, all-low s i l);
        }
      where
        p : Shifted s.settled still (λ i l. fallen i) r.root after
        p = shifted s.settled still (λ i l. fallen i) tight-then idle_then r.root after path

        homeless : (k i : ℕ) → i ≡ r.root → Holds holder k i → ⊥
        homeless k i e h = omega (arith, (s.settled.held.known k i h).1)

        free : (k : ℕ) → holder k ≡ 0 → Unvisited r k
        free k z = ⊎_elim (λ v. absurd (let (i, h) = b.held k v in omega arith)) (λ u. u) (mark (visited_at r k))

-- The whole insertion, over lists: from a tree of the root alone to an exhausted one
module _ {weights price before holder : List ℕ} {n : ℕ} {t r : Tree} (light : Light weights) (near : n < max_bidders)
    (q : SettledIn weights price before holder n) (p : Sprout n holder t) (d : Ended weights price (set before n max_weight) t r) where
  abbrev gain : List ℕ
  gain = set before n max_weight

  s : Inserting weights (cells price) (cells gain) (cells holder) n
  s = entered light near q

  root_is : r.root ≡ n
  root_is = d.extends.root ∙ p.root

  at-root : Inserting weights (cells price) (cells gain) (cells holder) r.root
  at-root = subst (λ (i : ℕ). Inserting weights (cells price) (cells gain) (cells holder) i) (sym root_is) s

  exhausted : Balanced (matrix_at weights) (cells price) (cells gain) (cells holder) r Everyone
  exhausted = subst (λ (l : List ℕ). Balanced (matrix_at weights) (cells price) (cells gain) (cells l) r Everyone) p.holder d.balanced

  pub tree-adjustable : AdjustableIn price (set before n max_weight) holder r.visited r.excess r.fall
  tree-adjustable = record { prices = q.prices; gains = length-set before n max_weight ∙ q.gains; able = adjustable at-root exhausted d.most }

  -- The path starts at the root
  starts : r.mover ≡ r.root
  starts = from d.start.1
    where
      from : {level : ℕ} → InTree (cells gain) (cells t.holder) t r.mover level → r.mover ≡ r.root
      from (as-root e f) = e ∙ sym d.extends.root
      from (as-holder k v h f) = never v (p.fresh k)

  path : Path (TightNow (matrix_at weights) (cells price) (cells gain) (cells holder) r) (IdleNow (cells gain) (cells holder) r) (cells holder) r.root (cells r.holder)
  path =
      subst (λ (l : List ℕ). Path (TightNow (matrix_at weights) (cells price) (cells gain) (cells l) r) (IdleNow (cells gain) (cells l) r) (cells l) r.root (cells r.holder))
      p.holder (path-from starts d.path)

  module _ {price' gain₁ : List ℕ} (a : AdjustedIn price (set before n max_weight) holder r.visited r.excess r.fall price' gain₁) where
    pub root-room : r.fall ≤ cells gain₁ n
    root-room =
        omega (
          arith,
          a.adjusted.others n (λ k l v h. absurd (omega (arith, (s.settled.held.known k n h).1))),
          exhausted.deep n (cells gain n) refl (as-root (sym root_is) refl),
        )

    long : length gain₁ ≡ max_bidders
    long = a.gains ∙ length-set before n max_weight ∙ q.gains

    pub inserted : SettledIn weights price' (set gain₁ n (cells gain₁ n - r.fall)) r.holder (n + 1)
    inserted =
        record {
          prices = a.prices ∙ q.prices;
          gains = length-set gain₁ n _ ∙ long;
          holders = d.long ∙ ap length p.holder ∙ q.holders;
          settled = subst (λ (i : ℕ). Settled (matrix_at weights) (cells price') (cells (set gain₁ n (cells gain₁ n - r.fall))) (cells r.holder) i) (ap suc root_is ∙ sym (add-one n))
              (all_settled at-root exhausted d.most a.adjusted
              (rw root_is (get_or-set_same gain₁ n (cells gain₁ n - r.fall) 0 (omega (arith, near, long))))
              (λ i ne. get_or-set_other gain₁ n i (cells gain₁ n - r.fall) 0 (λ e. ne (e ∙ sym root_is)))
              (cells r.holder) path);
        }
