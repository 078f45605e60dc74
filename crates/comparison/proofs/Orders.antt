-- The order of plans means what its sentence says, and is total.
use mathlib.Core.Path.{◌≡◌, refl, sym, ap, ◌∙◌}
use mathlib.Core.List.{List}
use mathlib.Core.Logic.{◌⊎◌, inl, inr, by_cases}
use Prim.Native.Nat.{ℕ, ◌<◌}
use native.Mathlib.Decide.{dec_lt}
use native.Mathlib.Omega.{arith}
use lib.Seq.{ext_get_or}
use Rattle.duality.specs.Lists.{cells}
use Rattle.duality.proofs.Agree.{weight-as}
use Rattle.supply.specs.declared.record.Board.{Board}
use Rattle.supply.specs.ByItem.{live}
use Rattle.matching.specs.Plans.{PlanOn, weight_on}
use Rattle.std.specs.declared.cmp.Ordering.{Ordering}
use Rattle.std.specs.declared.cmp.Ordering.TheVariants.{Less, Equal, Greater}
use Rattle.comparison.specs.Compare.{order_of, order_number}
use Rattle.comparison.specs.OrderLaws.{Precedes, heavier, smaller, SameCells, OrderMeans, NotLater, turned, SignsTell, OrderTotal}
use Rattle.comparison.proofs.Differences.{difference-exact}
use Rattle.comparison.proofs.Standing.{Stands, stands}

-- Two answers that differ
differ : {A : Type 0} (o p : Ordering) → o ≡ p → (order_number o ≡ order_number p → ⊥) → A
differ o p e f = absurd (f (ap order_number e))

module _ (b : Board) where
  -- ---- What precedes

  weight-same : (first second : List ℕ) → SameCells b first second → weight_on b first ≡ weight_on b second
  weight-same first second e = weight-as b.market.arrived (live b) (cells second) (cells first) e

  not-both : (first second : List ℕ) → Precedes b first second → Precedes b second first → ⊥
  not-both first second (heavier l) (heavier m) = omega arith
  not-both first second (heavier l) (smaller j k w p s) = omega arith
  not-both first second (smaller i k w p s) (heavier m) = omega arith
  not-both first second (smaller i l w p s) (smaller j m v q t) =
      by_cases (dec_lt i j)
      (λ k. omega (arith, q i k))
      (λ f. by_cases (dec_lt j i) (λ k. omega (arith, p j k)) (λ g. let e : i ≡ j = omega arith in meets e))
    where
      meets : i ≡ j → ⊥
      meets e = let r : cells second i < cells first i = rw (← e) at t in omega arith

  not_same : (first second : List ℕ) → SameCells b first second → Precedes b first second → ⊥
  not_same first second e (heavier l) = omega (arith, weight-same first second e)
  not_same first second e (smaller i l w p s) = omega (arith, e i l)

  chained : (first second third : List ℕ) → Precedes b first second → Precedes b second third → Precedes b first third
  chained first second third (heavier l) (heavier m) = heavier (omega arith)
  chained first second third (heavier l) (smaller j k w p s) = heavier (omega arith)
  chained first second third (smaller i k w p s) (heavier m) = heavier (omega arith)
  chained first second third (smaller i l w p s) (smaller j m v q t) =
      by_cases (dec_lt i j)
      (λ k. smaller i l (w ∙ v) (λ h lh. p h lh ∙ q h (omega arith)) (omega (arith, q i k)))
      (λ f. by_cases (dec_lt j i)
      (λ k. smaller j m (w ∙ v) (λ h lh. p h (omega arith) ∙ q h lh) (omega (arith, p j k)))
      (λ g. let e : j ≡ i = omega arith in smaller i l (w ∙ v) (λ h lh. p h lh ∙ q h (omega arith)) (meets e)))
    where
      meets : j ≡ i → cells first i < cells third i
      meets e = let r : cells second i < cells third i = rw e at t in omega arith

  same-chained : (first second third : List ℕ) → SameCells b first second → Precedes b second third → Precedes b first third
  same-chained first second third e (heavier m) = heavier (omega (arith, weight-same first second e))
  same-chained first second third e (smaller j m v q t) =
      smaller j m (weight-same first second e ∙ v) (λ h lh. e h (omega arith) ∙ q h lh) (omega (arith, e j m))

  chained_same : (first second third : List ℕ) → Precedes b first second → SameCells b second third → Precedes b first third
  chained_same first second third (heavier l) e = heavier (omega (arith, weight-same second third e))
  chained_same first second third (smaller i l w p s) e =
      smaller i l (w ∙ weight-same second third e) (λ h lh. p h lh ∙ e h (omega arith)) (omega (arith, e i l))

  -- ---- What is answered

  module _ (first second : List ℕ) where
    is-earlier : Precedes b first second → order_of b first second ≡ Less
    is-earlier p = go (stands b first second)
      where
        go : {o : Ordering} → Stands b first second o → o ≡ Less
        go (Stands.before q) = refl
        go (Stands.behind q) = absurd (not-both first second p q)
        go (Stands.alike e) = absurd (not_same first second e p)

    is_later : Precedes b second first → order_of b first second ≡ Greater
    is_later p = go (stands b first second)
      where
        go : {o : Ordering} → Stands b first second o → o ≡ Greater
        go (Stands.before q) = absurd (not-both first second q p)
        go (Stands.behind q) = refl
        go (Stands.alike e) = absurd (not_same second first (λ i l. sym (e i l)) p)

    is_same : SameCells b first second → order_of b first second ≡ Equal
    is_same e = go (stands b first second)
      where
        go : {o : Ordering} → Stands b first second o → o ≡ Equal
        go (Stands.before q) = absurd (not_same first second e q)
        go (Stands.behind q) = absurd (not_same second first (λ i l. sym (e i l)) q)
        go (Stands.alike f) = refl

    earlier-is : order_of b first second ≡ Less → Precedes b first second
    earlier-is e = go (stands b first second) e
      where
        go : {o : Ordering} → Stands b first second o → o ≡ Less → Precedes b first second
        go (Stands.before q) e = q
        go (Stands.behind q) e = differ Greater Less e (λ z. omega arith)
        go (Stands.alike f) e = differ Equal Less e (λ z. omega arith)

    later-is : order_of b first second ≡ Greater → Precedes b second first
    later-is e = go (stands b first second) e
      where
        go : {o : Ordering} → Stands b first second o → o ≡ Greater → Precedes b second first
        go (Stands.before q) e = differ Less Greater e (λ z. omega arith)
        go (Stands.behind q) e = q
        go (Stands.alike f) e = differ Equal Greater e (λ z. omega arith)

    same-is : order_of b first second ≡ Equal → SameCells b first second
    same-is e = go (stands b first second) e
      where
        go : {o : Ordering} → Stands b first second o → o ≡ Equal → SameCells b first second
        go (Stands.before q) e = differ Less Equal e (λ z. omega arith)
        go (Stands.behind q) e = differ Greater Equal e (λ z. omega arith)
        go (Stands.alike f) e = f

    -- Earlier or the same
    data Before : Type 0 where
      precedes : Precedes b first second → Before
      same : SameCells b first second → Before

    before : NotLater b first second → Before
    before f = go (stands b first second) refl
      where
        go : {o : Ordering} → Stands b first second o → order_of b first second ≡ o → Before
        go (Stands.before q) e = Before.precedes q
        go (Stands.behind q) e = absurd (f e)
        go (Stands.alike s) e = Before.same s

  not-later : (first second : List ℕ) → Before first second → NotLater b first second
  not-later first second (Before.precedes q) e = not-both first second q (later-is first second e)
  not-later first second (Before.same s) e = not_same second first (λ i l. sym (s i l)) (later-is first second e)

  before-chained : (first second third : List ℕ) → Before first second → Before second third → Before first third
  before-chained first second third (Before.precedes p) (Before.precedes q) = Before.precedes (chained first second third p q)
  before-chained first second third (Before.precedes p) (Before.same e) = Before.precedes (chained_same first second third p e)
  before-chained first second third (Before.same e) (Before.precedes q) = Before.precedes (same-chained first second third e q)
  before-chained first second third (Before.same e) (Before.same f) = Before.same (λ i l. e i l ∙ f i l)

  one_of : (first second : List ℕ) → NotLater b first second ⊎ NotLater b second first
  one_of first second = go (stands b first second)
    where
      go : {o : Ordering} → Stands b first second o → NotLater b first second ⊎ NotLater b second first
      go (Stands.before q) = inl (not-later first second (Before.precedes q))
      go (Stands.behind q) = inr (not-later second first (Before.precedes q))
      go (Stands.alike s) = inl (not-later first second (Before.same s))

  -- Plans with the same cells are the same list
  same-list : (first second : List ℕ) → PlanOn b first → PlanOn b second → SameCells b first second → first ≡ second
  same-list first second p q e = let s = p.size in ext_get_or 0 first second (p.size ∙ sym q.size) (λ i l. e i (omega arith))

  both_ways : (first second : List ℕ) → Before first second → Before second first → SameCells b first second
  both_ways first second (Before.precedes p) (Before.precedes q) = absurd (not-both first second p q)
  both_ways first second (Before.precedes p) (Before.same e) = λ i l. sym (e i l)
  both_ways first second (Before.same e) y = e

  turns : (first second : List ℕ) → order_of b second first ≡ turned (order_of b first second)
  turns first second = go (stands b first second)
    where
      go : {o : Ordering} → Stands b first second o → order_of b second first ≡ turned o
      go (Stands.before q) = is_later second first q
      go (Stands.behind q) = is-earlier second first q
      go (Stands.alike s) = is_same second first (λ i l. sym (s i l))

pub order-means : OrderMeans
order-means b first second =
    record {
      earlier = (earlier-is b first second, is-earlier b first second);
      later = (later-is b first second, is_later b first second);
      same = (same-is b first second, is_same b first second);
    }

pub order-total : OrderTotal
order-total b =
    record {
      total = one_of b;
      antisymmetric = λ first second p q f g. same-list b first second p q (both_ways b first second (before b first second f) (before b second first g));
      transitive = λ first second third f g. not-later b first third (before-chained b first second third (before b first second f) (before b second third g));
      strict = λ first second third e f. is-earlier b first third (chained b first second third (earlier-is b first second e) (earlier-is b second third f));
      same = λ first second p q. (λ e. same-list b first second p q (same-is b first second e), λ e. is_same b first second (λ i l. ap (λ (x : List ℕ). cells x i) e));
      heavier = λ first second l. is-earlier b first second (heavier l);
      swapped = turns b;
    }

pub signs-tell : SignsTell
signs-tell b first second =
    let d = difference-exact b first second in
    record {
      above = λ l. is-earlier b first second (heavier (d.positive.0 l));
      below = λ l. is_later b first second (heavier (d.negative.0 l));
      same = λ e. d.none.1 (weight-same b first second (same-is b first second e));
    }
