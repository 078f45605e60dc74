-- What opening answers: it serves a sound board, or refuses.
use Rattle.std.specs.Prelude.{Err, Ok}
use mathlib.Core.Path.{◌≡◌, refl, ap}
use mathlib.Core.Logic.{◌⊎◌, inl, inr}
use mathlib.Core.List.{List, []}
use Prim.Native.Nat.{ℕ}
use native.Mathlib.Omega.{arith}
use Rattle.refusals.specs.declared.Refusal.{Refusal}
use Rattle.refusals.specs.Told.{served, refused}
use Rattle.refusals.specs.Demand1.{first_of, Verdict}
use Rattle.supply.specs.Sound.{Sound}
use Rattle.supply.specs.Opening.{opened, open_checks, open_by, open_of, OpenAnswers}
use Rattle.supply.proofs.Openings.{opened-sound}

module _ (items p q : ℕ) (counts : List ℕ) where
  -- Where it is ready, no check refused
  pub ready-served : (open_of items p q counts).answer ≡ Ok tt → first_of (open_checks items p q counts) ≡ Ok tt
  unfolding open_of open_by
  ready-served = go (first_of (open_checks items p q counts))
    where
      go : (v : Verdict) → (open_by p q counts v).answer ≡ Ok tt → v ≡ Ok tt
      go (Ok tt) e = refl
      go (Err r) e = let z : ◌≡◌ {A = ℕ} 0 1 = cc in absurd (omega arith)

  -- Opening serves only a sound board
  pub opening-sound : open_of items p q counts ≡ record { board = opened p q counts; answer = Ok tt } → Sound (opened p q counts)
  opening-sound h = opened-sound items p q counts (ready-served (ap (λ o. o.answer) h))

  -- It serves, or refuses
  pub opening-either : OpenAnswers items p q counts (opened p q counts) (served 0) ⊎ ((r : Refusal) × OpenAnswers items p q counts (opened 0 0 []) (refused r))
  unfolding open_of open_by
  opening-either = go (first_of (open_checks items p q counts)) refl
    where
      go : (v : Verdict) → first_of (open_checks items p q counts) ≡ v →
          OpenAnswers items p q counts (opened p q counts) (served 0) ⊎ ((r : Refusal) × OpenAnswers items p q counts (opened 0 0 []) (refused r))
      go (Ok tt) e = inl (record { board = rw e; tells = rw e })
      go (Err r) e = inr (r, record { board = rw e; tells = rw e })

  pub opening-ready : (open_of items p q counts).answer ≡ Ok tt → open_of items p q counts ≡ record { board = opened p q counts; answer = Ok tt }
  unfolding open_of open_by
  opening-ready e = rw (ready-served e) refl
