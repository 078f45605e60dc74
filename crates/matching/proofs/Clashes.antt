-- Refusal 10: what its test decides, and what it means that it is met nowhere.
use mathlib.Core.Path.{◌≡◌, refl}
use mathlib.Core.Bool.{Bool, true, false, cond}
use mathlib.Core.Logic.{◌⊎◌, inl, inr, ⊎_elim}
use Prim.Native.Nat.{ℕ, zero, suc, ◌≤◌}
use native.Mathlib.Omega.{arith}
use Rattle.duality.proofs.Decide.{agree, clash}
use Rattle.duality.proofs.Fails.{Fails, not-fails, refail, fail-lt, fail-and}
use Rattle.places.specs.Plan.{namers}
use Rattle.places.specs.PlanTest.{cell_test_with, plan_test}
use Rattle.places.proofs.PlanTest.{plan-test-decides}
use Rattle.refusals.proofs.Places.{cells-served}
use Rattle.supply.specs.declared.record.Board.{Board}
use Rattle.supply.specs.Board.{places_at}
use Rattle.supply.specs.ByItem.{withdrawn_at, weight_at, live}
use Rattle.matching.specs.Clash.{Clashes, ClashesTested, UnclashedMatches}

module _ (b : Board) where
  -- An edge that is not live: its item is withdrawn, or there is none
  dead : (i k : ℕ) → live b i k ≤ 0 → (withdrawn_at b k ≡ true) ⊎ (weight_at b i k ≡ 0)
  dead i k = go (withdrawn_at b k) (weight_at b i k)
    where
      go : (t : Bool) (w : ℕ) → cond t 0 w ≤ 0 → (t ≡ true) ⊎ (w ≡ 0)
      go true w l = inl refl
      go false w l = inr (omega arith)

  gone-dead : (i k : ℕ) → withdrawn_at b k ≡ true → live b i k ≤ 0
  gone-dead i k e = rw e (omega arith)

  edgeless-dead : (i k : ℕ) → weight_at b i k ≡ 0 → live b i k ≤ 0
  edgeless-dead i k = go (withdrawn_at b k) (weight_at b i k)
    where
      go : (t : Bool) (w : ℕ) → w ≡ 0 → cond t 0 w ≤ 0
      go true w e = omega arith
      go false w e = omega arith

  module _ (plan : ℕ → ℕ) (i : ℕ) where
    -- Of a cell that names item k + 1
    Named : ℕ → Type 0
    Named k = (b.items.count ≤ k) ⊎ ((live b i k ≤ 0) ⊎ (places_at b k ≤ namers i plan k))

    clashes : (k : ℕ) → plan i ≡ suc k → Named k → Clashes b plan i
    unfolding Named
    clashes k e =
        ⊎_elim (λ l. Clashes.unknown (omega arith))
        (⊎_elim (λ l. ⊎_elim (λ g. Clashes.gone e g) (λ z. Clashes.edgeless e z) (dead i k l)) (λ l. Clashes.named e l))

    clashed : (k : ℕ) → plan i ≡ suc k → Clashes b plan i → Named k
    unfolding Named
    clashed k e (Clashes.unknown l) = inl (omega arith)
    clashed k e (Clashes.gone {k = j} f g) = let s : j ≡ k = omega arith in inr (inl (gone-dead i k (rw s at g)))
    clashed k e (Clashes.edgeless {k = j} f z) = let s : j ≡ k = omega arith in inr (inl (edgeless-dead i k (rw s at z)))
    clashed k e (Clashes.named {k = j} f l) = let s : j ≡ k = omega arith in inr (inr (rw s at l))

    unplaced : plan i ≡ 0 → Clashes b plan i → ⊥
    unplaced e (Clashes.unknown l) = omega arith
    unplaced e (Clashes.gone f g) = omega arith
    unplaced e (Clashes.edgeless f z) = omega arith
    unplaced e (Clashes.named f l) = omega arith

    clash-fails : (c : ℕ) → plan i ≡ c → Fails (cell_test_with b.items.count (places_at b) (live b) plan i c) (Clashes b plan i)
    unfolding cell_test_with Named
    clash-fails zero e = record { sound = λ h. absurd (clash true refl h); complete = λ x. absurd (unplaced e x) }
    clash-fails (suc k) e =
        refail
        (fail-and (fail-lt k b.items.count) (fail-and (fail-lt 0 (live b i k)) (fail-lt (namers i plan k) (places_at b k))))
        (clashes k e)
        (clashed k e)

pub clashes-tested : ClashesTested
clashes-tested b plan i = not-fails (clash-fails b plan i (plan i) refl)

pub unclashed-matches : UnclashedMatches
unfolding plan_test
unclashed-matches n items count w plan = agree (cells-served _ _ n) (plan-test-decides n items count w plan)
