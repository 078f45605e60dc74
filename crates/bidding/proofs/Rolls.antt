-- The bidders of a set, in rising number.
use mathlib.Core.Path.{◌≡◌, refl, sym}
use mathlib.Core.Logic.{◌↔◌, ◌≢◌, ◌⊎◌, inl, inr, ⊎_elim, ⊎_map, by_cases}
use mathlib.Core.Bool.{Bool, true, false, cond}
use mathlib.Core.List.{List, [], ◌∷◌, ◌++◌}
use Prim.Native.Nat.{ℕ, zero, suc, ◌≤◌, ◌<◌}
use native.Mathlib.Nat.{not-suc-le-zero, eq-or-lt_of_le, suc_inj}
use native.Mathlib.Decide.{ℕ_discrete}
use native.Mathlib.Omega.{arith}
use Rattle.duality.proofs.Decide.{clash}
use Rattle.bidding.specs.Withdrawals.{roll_of}
use Rattle.bidding.specs.WithdrawalLaws.{RisingFrom, ends, rises, Among, here, there, DisplacedInOrder, OrderOnce}

-- ---- Rising lists
nothing : {h : ℕ} → Among h [] → ⊥
nothing = elim [ ]

among-head : {h y : ℕ} {ys : List ℕ} → Among h (y ∷ ys) → (h ≡ y) ⊎ Among h ys
among-head here = inl refl
among-head (there a) = inr a

among-left : {h : ℕ} {xs : List ℕ} (ys : List ℕ) → Among h xs → Among h (xs ++ ys)
among-left ys here = here
among-left ys (there a) = there (among-left ys a)

among-last : (xs : List ℕ) {m : ℕ} → Among m (xs ++ (m ∷ []))
among-last [] = here
among-last (x ∷ xs) = there (among-last xs)

among-snoc : (xs : List ℕ) {h m : ℕ} → Among h (xs ++ (m ∷ [])) → Among h xs ⊎ (h ≡ m)
among-snoc [] a = ⊎_elim (λ e. inr e) (λ n. absurd (nothing n)) (among-head a)
among-snoc (x ∷ xs) {h} a = ⊎_elim (λ (e : h ≡ x). inl (rw e here)) (λ t. ⊎_map there (λ e. e) (among-snoc xs t)) (among-head a)

rising_snoc : {low m : ℕ} {xs : List ℕ} → RisingFrom low xs → ((h : ℕ) → Among h xs → h < m) → low ≤ m → RisingFrom low (xs ++ (m ∷ []))
rising_snoc ends f l = rises l ends
rising_snoc (rises {x = x} l r) f m = rises l (rising_snoc r (λ h a. f h (there a)) (f x here))

rising-low : {low h : ℕ} {xs : List ℕ} → RisingFrom low xs → Among h xs → low ≤ h
rising-low ends a = elim a [ ]
rising-low (rises l r) here = l
rising-low (rises l r) (there a) = omega (arith, rising-low r a)

-- Two with the same members are one
rising-once : {low bottom : ℕ} {xs ys : List ℕ} → RisingFrom low xs → RisingFrom bottom ys → ((h : ℕ) → Among h xs ↔ Among h ys) → xs ≡ ys
rising-once ends ends same = refl
rising-once ends (rises {x = y} l r) same = absurd (nothing ((same y).1 here))
rising-once (rises {x = x} l r) ends same = absurd (nothing ((same x).0 here))
rising-once (rises {x = x} {xs = xs} l r) (rises {x = y} {xs = ys} m t) same = joined (rising-once r t (λ h. (onward h, back h)))
  where
    head : x ≡ y
    head =
        ⊎_elim (λ e. e)
        (λ a. ⊎_elim (λ e. sym e) (λ b. absurd (omega (arith, rising-low t a, rising-low r b))) (among-head ((same y).1 here)))
        (among-head ((same x).0 here))

    onward : (h : ℕ) → Among h xs → Among h ys
    onward h a = ⊎_elim (λ (e : h ≡ y). absurd (omega (arith, rising-low r a, head))) (λ b. b) (among-head ((same h).0 (there a)))

    back : (h : ℕ) → Among h ys → Among h xs
    back h a = ⊎_elim (λ (e : h ≡ x). absurd (omega (arith, rising-low t a, head))) (λ b. b) (among-head ((same h).1 (there a)))

    joined : xs ≡ ys → x ∷ xs ≡ y ∷ ys
    joined e = rw (head, e) refl

-- ---- A set's roll
module _ (member : ℕ → Bool) where
  pub roll-below : (m h : ℕ) → Among h (roll_of member m) → (h < m) × (member h ≡ true)
  unfolding roll_of
  roll-below zero h a = absurd (nothing a)
  roll-below (suc m) h a = go (member m) refl a (roll-below m h)
    where
      go : (t : Bool) → member m ≡ t → Among h (cond t (roll_of member m ++ (m ∷ [])) (roll_of member m)) →
          (Among h (roll_of member m) → (h < m) × (member h ≡ true)) → (h < suc m) × (member h ≡ true)
      go true q a ih = ⊎_elim (λ b. let u = ih b in (omega arith, u.1)) (λ (e : h ≡ m). (omega arith, rw e q)) (among-snoc _ a)
      go false q a ih = let u = ih a in (omega arith, u.1)

  pub roll-has : (m h : ℕ) → h < m → member h ≡ true → Among h (roll_of member m)
  unfolding roll_of
  roll-has zero h l e = absurd (not-suc-le-zero l)
  roll-has (suc m) h l e = go (member m) refl (roll-has m h)
    where
      go : (t : Bool) → member m ≡ t → (h < m → member h ≡ true → Among h (roll_of member m)) → Among h (cond t (roll_of member m ++ (m ∷ [])) (roll_of member m))
      go true q ih = ⊎_elim (λ (s : suc h ≡ suc m). rw (suc_inj s) (among-last (roll_of member m))) (λ k. among-left (m ∷ []) (ih (omega arith) e)) (eq-or-lt_of_le l)
      go false q ih = ⊎_elim (λ (s : suc h ≡ suc m). absurd (clash (member m) (rw (suc_inj s) at e) q)) (λ k. ih (omega arith) e) (eq-or-lt_of_le l)

  pub roll-rises : (m : ℕ) → RisingFrom 0 (roll_of member m)
  unfolding roll_of
  roll-rises zero = ends
  roll-rises (suc m) = go (member m) (roll-rises m)
    where
      go : (t : Bool) → RisingFrom 0 (roll_of member m) → RisingFrom 0 (cond t (roll_of member m ++ (m ∷ [])) (roll_of member m))
      go true r = rising_snoc r (λ h a. (roll-below m h a).0) (omega arith)
      go false r = r

  -- Of nobody, and of one
  pub roll-none : (m : ℕ) → ((h : ℕ) → h < m → member h ≡ false) → roll_of member m ≡ []
  roll-none m none =
      rising-once (roll-rises m) (ends {low = 0})
      (λ h. (λ a. let u = roll-below m h a in absurd (clash (member h) u.1 (none h u.0)), λ a. absurd (nothing a)))

  pub roll-one : (m x : ℕ) → x < m → member x ≡ true → ((h : ℕ) → h < m → h ≢ x → member h ≡ false) → roll_of member m ≡ x ∷ []
  roll-one m x l e only =
      rising-once (roll-rises m) (rises {low = 0} (omega arith) ends)
      (λ h. (
        λ a. let u = roll-below m h a in by_cases (ℕ_discrete h x) (λ (q : h ≡ x). rw q here) (λ ne. absurd (clash (member h) u.1 (only h u.0 ne))),
        λ a. ⊎_elim (λ (q : h ≡ x). rw q (roll-has m x l e)) (λ n. absurd (nothing n)) (among-head a),
      ))

-- Of equal sets
pub roll-as : (f g : ℕ → Bool) (m : ℕ) → ((h : ℕ) → h < m → f h ≡ g h) → roll_of f m ≡ roll_of g m
unfolding roll_of
roll-as f g zero same = refl
roll-as f g (suc m) same = rw (roll-as f g m (λ h l. same h (omega arith)), same m (omega arith))

pub displaced-in-order : DisplacedInOrder
displaced-in-order b item n =
    record {
      rising = roll-rises _ b.market.arrived;
      exactly = λ h. (roll-below _ b.market.arrived h, λ u. roll-has _ b.market.arrived h u.0 u.1);
    }

pub order_once : OrderOnce
order_once b item n xs ys x y = rising-once x.rising y.rising (λ h. (λ a. (y.exactly h).1 ((x.exactly h).0 a), λ a. (x.exactly h).1 ((y.exactly h).0 a)))
