-- Of a matching and of gains only the first n cells count, and of prices the first m.
use mathlib.Core.Path.{◌≡◌, sym, ap, ap₂, ◌∙◌}
use Prim.Native.Nat.{ℕ, ◌+◌, ◌<◌}
use Rattle.duality.specs.Matching.{at_cell, IsMatching, weight_of}
use Rattle.duality.specs.Cover.{Covers, total}
use Rattle.duality.proofs.Sums.{sum_to-eq}

pub weight-as : (n : ℕ) (w : ℕ → ℕ → ℕ) (f g : ℕ → ℕ) → ((i : ℕ) → i < n → g i ≡ f i) → weight_of n w g ≡ weight_of n w f
weight-as n w f g e = sum_to-eq n _ _ (λ i l. ap (at_cell (w i)) (e i l))

pub total-as : (n m : ℕ) (y v x u : ℕ → ℕ) → ((k : ℕ) → k < m → v k ≡ y k) → ((i : ℕ) → i < n → u i ≡ x i) → total n m v u ≡ total n m y x
total-as n m y v x u e₁ e₂ = ap₂ ◌+◌ (sum_to-eq m v y e₁) (sum_to-eq n u x e₂)

pub matching-as : {n m : ℕ} {w : ℕ → ℕ → ℕ} {f g : ℕ → ℕ} → ((i : ℕ) → i < n → g i ≡ f i) → IsMatching n m w f → IsMatching n m w g
matching-as e p =
    record {
      along = λ i k l h. p.along i k l (sym (e i l) ∙ h);
      once = λ h i k l₁ l₂ h₁ h₂. p.once h i k l₁ l₂ (sym (e h l₁) ∙ h₁) (sym (e i l₂) ∙ h₂);
    }

pub covers-as : (n m : ℕ) (w : ℕ → ℕ → ℕ) (c : ℕ) (y v x u : ℕ → ℕ) → ((k : ℕ) → k < m → v k ≡ y k) → ((i : ℕ) → i < n → u i ≡ x i)
    → Covers n m w c y x → Covers n m w c v u
covers-as n m w c y v x u e₁ e₂ covers i k l lk hw = rw (e₁ k lk, e₂ i l) (covers i k l lk hw)
