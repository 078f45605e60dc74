-- A board's matching, read off its holders, and how a change of a cell changes it.
use mathlib.Core.Path.{◌≡◌, refl, sym, ap, subst, ◌∙◌, fun_ext}
use mathlib.Core.Logic.{by_cases}
use mathlib.Core.Bool.{Bool, true, false, cond}
use mathlib.Core.List.{List}
use Prim.Native.Nat.{ℕ, zero, suc, ◌≤◌, ◌<◌}
use native.Mathlib.Nat.{not-suc-le-zero, suc_inj}
use native.Mathlib.Decide.{ℕ_discrete}
use native.Mathlib.Omega.{arith}
use lib.ListN.{length, get_or, set}
use lib.Seq.{lt-length-set, get_or-set_same, get_or-set_other, set-set}
use Rattle.duality.specs.Sums.{upd}
use Rattle.duality.specs.Decide.{Decides}
use Rattle.duality.proofs.Below.{one_more}
use Rattle.duality.proofs.Decide.{clash, eq-decides}
use Rattle.duality.proofs.Sums.{upd_same, upd_other, upd-all}
use Rattle.duality.proofs.Exchange.{Holder, swapped}
use Rattle.board.specs.Live.{held_by}

-- The matching f of bidders below n is what the first m cells of the holders say
pub record Names (holder : List ℕ) (n m : ℕ) (f : ℕ → ℕ) : Type 0 where
  pub has : (k i : ℕ) → k < m → get_or holder k 0 ≡ suc i → (i < n) × (f i ≡ suc k)
  pub cell : (i k : ℕ) → f i ≡ suc k → (k < m) × (get_or holder k 0 ≡ suc i)

-- What held_by finds: an item whose cell names the bidder, or that none does
pub data Found (holder : List ℕ) (m i : ℕ) : ℕ → Type 0 where
  at : {k : ℕ} → k < m → get_or holder k 0 ≡ suc i → Found holder m i (suc k)
  nowhere : ((k : ℕ) → k < m → get_or holder k 0 ≡ suc i → ⊥) → Found holder m i 0

pub held_found : (holder : List ℕ) (m i : ℕ) → Found holder m i (held_by holder m i)
unfolding held_by
held_found holder zero i = nowhere (λ k l. absurd (not-suc-le-zero l))
held_found holder (suc m) i = go _ (eq-decides (get_or holder m 0) (suc i)) (held_found holder m i)
  where
    go : (t : Bool) → Decides t (get_or holder m 0 ≡ suc i) → {c : ℕ} → Found holder m i c → Found holder (suc m) i (cond t (suc m) c)
    go true d f = at {k = m} (omega arith) (d.sound refl)
    go false d (at {k = k} l e) = at {k = k} (omega arith) e
    go false d (nowhere h) = nowhere (one_more m _ h (λ e. clash false (d.complete e) refl))

-- A matching that holders name is the one that is read off them
pub names-are : {holder : List ℕ} {n m : ℕ} {f : ℕ → ℕ} → Names holder n m f → held_by holder m ≡ f
names-are {holder} {n} {m} {f} s = fun_ext (λ i. go i (f i) refl (held_found holder m i))
  where
    go : (i c : ℕ) → f i ≡ c → {d : ℕ} → Found holder m i d → d ≡ f i
    go i c e (at l h) = sym (s.has _ i l h).1
    go i zero e (nowhere h) = sym e
    go i (suc k) e (nowhere h) = let u = s.cell i k e in absurd (h k u.0 u.1)

pub named_by : {holder : List ℕ} {n m : ℕ} {f : ℕ → ℕ} → Names holder n m f → Names holder n m (held_by holder m)
named_by {holder} {n} {m} s = subst (λ f. Names holder n m f) (sym (names-are s)) s

-- It is named, where each bidder that a cell names has that item and no other
pub named : {holder : List ℕ} {n m : ℕ} → ((k i : ℕ) → k < m → get_or holder k 0 ≡ suc i → (i < n) × (held_by holder m i ≡ suc k)) → Names holder n m (held_by holder m)
named {holder} {n} {m} h = record { has = h; cell = λ i k e. go i (held_found holder m i) e }
  where
    go : (i : ℕ) {c k : ℕ} → Found holder m i c → c ≡ suc k → (k < m) × (get_or holder k 0 ≡ suc i)
    go i (at l e) q = rw (← suc_inj q) (l, e)
    go i (nowhere h) q = absurd (omega arith)

module _ {holder : List ℕ} {n m : ℕ} {f : ℕ → ℕ} (s : Names holder n m f) where
  -- Whom an item's cell names holds it; no bidder does where it names none
  pub holds : {k x : ℕ} → k < m → get_or holder k 0 ≡ suc x → Holder n k x f
  holds lk e = record { only = λ i l h. suc_inj (sym (s.cell i _ h).1 ∙ e); held = λ l. (s.has _ _ lk e).1 }

  pub unheld : {k x : ℕ} → get_or holder k 0 ≡ 0 → n ≤ x → Holder n k x f
  unheld e out = record { only = λ i l h. absurd (omega (arith, (s.cell i _ h).1)); held = λ l. absurd (omega arith) }

  -- The item's cell is cleared: x, who held it, has none
  pub cleared : {k x : ℕ} → k < length holder → Holder n k x f → Names (set holder k 0) n m (upd x 0 f)
  cleared {k} {x} lk h =
      record {
        has = λ j i l. by_cases (ℕ_discrete j k)
            (λ (e : j ≡ k) q. absurd (omega (arith, (rw (e, get_or-set_same holder k 0 0 lk) at q))))
            (λ ne q. let u = s.has j i l (sym (get_or-set_other holder k j 0 0 ne) ∙ q) in
            (u.0, upd_other x 0 f i (λ e. ne (suc_inj (sym u.1 ∙ ap f e ∙ h.held (rw e at u.0)))) ∙ u.1));
        cell = λ i. upd-all (λ i c. (j : ℕ) → c ≡ suc j → (j < m) × (get_or (set holder k 0) j 0 ≡ suc i)) x 0 f
            (λ j e. absurd (omega arith))
            (λ i ne j e. let u = s.cell i j e in
            (u.0, get_or-set_other holder k j 0 0 (λ q. ne (h.only i (s.has j i u.0 u.1).0 (e ∙ ap suc q))) ∙ u.1))
            i;
      }

  -- A bidder that has none takes an item that nobody holds
  pub taken : {k i : ℕ} → k < length holder → k < m → i < n → get_or holder k 0 ≡ 0 → f i ≡ 0 → Names (set holder k (suc i)) n m (upd i (suc k) f)
  taken {k} {i} lk lm li free away =
      record {
        has = λ j h l. by_cases (ℕ_discrete j k)
            (λ (e : j ≡ k) q. let same : h ≡ i = suc_inj (sym q ∙ rw (e, get_or-set_same holder k (suc i) 0 lk)) in rw (same, e, upd_same) (li, refl))
            (λ ne q. let u = s.has j h l (sym (get_or-set_other holder k j (suc i) 0 ne) ∙ q) in
            (u.0, upd_other i (suc k) f h (λ e. omega (arith, u.1, ap f e)) ∙ u.1));
        cell = λ h. upd-all (λ h c. (j : ℕ) → c ≡ suc j → (j < m) × (get_or (set holder k (suc i)) j 0 ≡ suc h)) i (suc k) f
            (λ j e. rw (← suc_inj e) (lm, get_or-set_same holder k (suc i) 0 lk))
            (λ h ne j e. let u = s.cell h j e in
            (u.0, get_or-set_other holder k j (suc i) 0 (λ q. omega (arith, free, u.1, ap (λ x. get_or holder x 0) q)) ∙ u.1))
            h;
      }

-- What is 0 stays so where another place becomes 0
pub upd-zero : (x : ℕ) (f : ℕ → ℕ) (j : ℕ) → f j ≡ 0 → upd x 0 f j ≡ 0
upd-zero x f = upd-all (λ j v. f j ≡ 0 → v ≡ 0) x 0 f (λ e. refl) (λ j ne e. e)

-- A bidder takes an item, and x, who held it, is without
pub taken-over : {holder : List ℕ} {n m : ℕ} {f : ℕ → ℕ} → Names holder n m f → {k x i : ℕ} → k < length holder → k < m → i < n → Holder n k x f → f i ≡ 0 →
    Names (set holder k (suc i)) n m (swapped i k x f)
taken-over {holder} {n} {m} {f} s {k} {x} {i} lk lm li h away =
    rw set-set at (taken (cleared s lk h) (lt-length-set holder k 0 lk) lm li (get_or-set_same holder k 0 0 lk) (upd-zero x f i away))
