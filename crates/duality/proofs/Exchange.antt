-- A bidder without an item takes one: the move that a bid makes, and that the Hungarian method makes.
use mathlib.Core.Path.{◌≡◌, refl, sym, ap, ◌∙◌}
use mathlib.Core.Logic.{◌≢◌, ◌⊎◌, inl, inr, ⊎_elim, by_cases}
use Prim.Native.Nat.{ℕ, suc, ◌<◌}
use native.Mathlib.Nat.{lt_irrefl, suc_inj}
use native.Mathlib.Decide.{ℕ_discrete}
use native.Mathlib.Omega.{arith}
use Rattle.duality.specs.Sums.{upd}
use Rattle.duality.specs.Matching.{IsMatching}
use Rattle.duality.proofs.Below.{find}
use Rattle.duality.proofs.Sums.{upd_same, upd_other}
use Rattle.duality.proofs.HeldPrices.{Unheld}

-- x is the bidder that holds item k + 1; or no bidder, n or above, where nobody holds it
pub record Holder (n k x : ℕ) (matching : ℕ → ℕ) : Type 0 where
  pub only : (i : ℕ) → i < n → matching i ≡ suc k → i ≡ x
  pub held : x < n → matching x ≡ suc k

pub holder : {n m : ℕ} {w : ℕ → ℕ → ℕ} {matching : ℕ → ℕ} → IsMatching n m w matching → (k : ℕ) → (x : ℕ) × Holder n k x matching
holder {n} {matching = matching} p k =
    ⊎_elim
    (λ f. (f.0, record { only = λ i l e. p.once i f.0 k l f.1 e f.2; held = λ l. f.2 }))
    (λ none. (n, record { only = λ i l e. absurd (none i l e); held = λ l. absurd (lt_irrefl n l) }))
    (find (λ i. matching i ≡ suc k) (λ i. ℕ_discrete (matching i) (suc k)) n)

-- f, but v at a, and 0 at x
abbrev pub moved : ℕ → ℕ → ℕ → (ℕ → ℕ) → ℕ → ℕ
moved a v x f = upd a v (upd x 0 f)

-- Bidder a takes item k + 1, and x is without
abbrev pub swapped : ℕ → ℕ → ℕ → (ℕ → ℕ) → ℕ → ℕ
swapped a k x matching = moved a (suc k) x matching

-- What holds at a, at x and at every other place, of two functions so changed
pub moved_all : (P : ℕ → ℕ → ℕ → Type 0) (a x u v : ℕ) (f g : ℕ → ℕ) → P a u v → P x 0 0 → ((i : ℕ) → i ≢ a → i ≢ x → P i (f i) (g i))
    → (i : ℕ) → P i (moved a u x f i) (moved a v x g i)
moved_all P a x u v f g pa px h i =
    by_cases (ℕ_discrete i a)
    (λ (e : i ≡ a). rw (e, upd_same a u _, upd_same a v _) pa)
    (λ n₁. rw (upd_other a u (upd x 0 f) i n₁, upd_other a v (upd x 0 g) i n₁) (by_cases (ℕ_discrete i x)
    (λ (e : i ≡ x). rw (e, upd_same x 0 f, upd_same x 0 g) px)
    (λ n₂. rw (upd_other x 0 f i n₂, upd_other x 0 g i n₂) (h i n₁ n₂))))

module _ {n a k x : ℕ} {matching : ℕ → ℕ} (la : a < n) (away : matching a ≡ 0) (h : Holder n k x matching) where
  pub swap-ne : x ≢ a
  swap-ne e = omega (arith, h.held (rw e la), ap matching e)

  -- Who holds an item afterwards: a holds item k + 1, and any other what it held, which is another item
  abbrev View : ℕ → ℕ → Type 0
  View i j = ((i ≡ a) × (j ≡ k)) ⊎ ((i ≢ a) × (i ≢ x) × (j ≢ k) × (matching i ≡ suc j))

  pub swap_view : (i j : ℕ) → i < n → swapped a k x matching i ≡ suc j → View i j
  swap_view i j =
      moved_all (λ i cell v. i < n → cell ≡ suc j → View i j) a x (suc k) 0 matching matching
      (λ l e. inl (refl, omega arith))
      (λ l e. absurd (omega arith))
      (λ i n₁ n₂ l e. inr (n₁, n₂, λ q. n₂ (h.only i l (e ∙ ap suc q)), e))
      i

  -- Any other item is held by whom it was
  pub swap-other : (i j : ℕ) → j ≢ k → i < n → matching i ≡ suc j → swapped a k x matching i ≡ suc j
  swap-other i j ne =
      moved_all (λ i cell v. i < n → matching i ≡ suc j → cell ≡ suc j) a x (suc k) 0 matching matching
      (λ l e. absurd (omega arith))
      (λ l e. absurd (omega (arith, h.held l)))
      (λ i n₁ n₂ l e. e)
      i

  -- An item that nobody holds afterwards is another, and nobody held it
  pub swap-unheld : (j : ℕ) → Unheld n (swapped a k x matching) j → (j ≢ k) × Unheld n matching j
  swap-unheld j none =
      let ne : j ≢ k = λ e. none a la (upd_same a (suc k) _ ∙ ap suc (sym e)) in
      (ne, λ i l e. none i l (swap-other i j ne l e))

  pub swap-matching : {m : ℕ} {w : ℕ → ℕ → ℕ} → IsMatching n m w matching → k < m → 0 < w a k → IsMatching n m w (swapped a k x matching)
  swap-matching {m} {w} p lk hw =
      record {
        along = λ i j. moved_all (λ i cell v. i < n → cell ≡ suc j → (j < m) × (0 < w i j)) a x (suc k) 0 matching matching
            (λ l e. rw (← suc_inj e) (lk, hw))
            (λ l e. absurd (omega arith))
            (λ i n₁ n₂ l e. p.along i j l e)
            i;
        once = λ b i j lb li e₁ e₂. ⊎_elim
            (λ u. ⊎_elim (λ v. u.0 ∙ sym v.0) (λ v. absurd (v.2 u.1)) (swap_view i j li e₂))
            (λ u. ⊎_elim (λ v. absurd (u.2 v.1)) (λ v. p.once b i j lb li u.3 v.3) (swap_view i j li e₂))
            (swap_view b j lb e₁);
      }
