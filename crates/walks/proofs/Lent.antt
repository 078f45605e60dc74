-- An array of plain data in a local of a walk, lent as `&mut` for a call: it lies in memory, and is a local's value again. Assumes nothing.
use mathlib.Core.Path.{subst}
use Prim.Native.Nat.{zero, suc}
use lib.Dec.{lit<}
use lib.ListN.{replicate, length-replicate}
use mir.Syntax.{Ty, ty_array}
use base.Fml.{fsep, fat}
use types.Logic.{Logic, sem}
use types.Kit.{Item, Goal, Seq, done, fpick, fpack, rewrite}
use denote.Laws.{Makes, shows}
use denote.Shadow.{shadow}
use denote.Memory.{lone, cell_at, part_of, mem}
use denote.Array.{Array, array_val, each, Array-Makes}
use denote.Steps.{peeks}
use Rattle.walks.proofs.Walks.{refl, ℕ, List, [], ◌∷◌, Ura, Val, vint, w64, ent, full_share, Is, RattleType, u64, ‵, ◌$◌, ◌∵◌, !, qed, move, let_go, use1, fsplit, fjoin, owned}

module _ (R : RattleType) (n : ℕ) where
  abbrev cell : Ty
  cell = ty_array (lone R.mir) n

  module _ {M : Type 1} {𝓤 : Ura M} (𝓛 : Logic 𝓤) where
    -- a local's value lies in memory
    open 𝓛 use {H}

    pub laid : Makes 𝓛 R (Is R) → (xs : List R.Denot) (v : Val) (b : ℕ) → Is (Array R n) xs (v ∷ [])
        → ent 𝓤 (H.at full_share cell b 0 v) (sem 𝓛 ((mem (Array R n)).own_at xs b 0))
    unfolding part_of
    laid mk xs v b is =
        qed 𝓛 (‵ (fat full_share cell b 0 v) ∷ []) ∵ use1 𝓛 (‵ (cell_at full_share (cell ∷ []) (v ∷ []) b 0)) (𝓛.laws.at_raw full_share cell b 0 v) $
        owned ! (Array R n) (Is (Array R n)) (Array-Makes 𝓛 R mk n) xs (v ∷ []) is $ move ! (1 ∷ 0 ∷ []) $ fjoin ! $
        fpack ! (List Val) (λ vs. fsep (cell_at full_share (cell ∷ []) vs b 0) ((Array R n).own_val xs vs)) (v ∷ []) $ done !

  -- what lies in memory is a local's value
  pub lifted : {M : Type 1} {𝓤 : Ura M} {𝓛 : Logic 𝓤} {K : Type 0} {Γ : List (Item 𝓤)} {G : Goal 𝓤 𝓛.H} → K → (xs : List R.Denot) (b : ℕ)
      → ((v : Val) → Is (Array R n) xs (v ∷ []) → Seq K 𝓛 (‵ (fat full_share cell b 0 v) ∷ Γ) G) → Seq K 𝓛 (‵ ((mem (Array R n)).own_at xs b 0) ∷ Γ) G
  unfolding part_of
  lifted {𝓤 = 𝓤} {𝓛 = 𝓛} t xs b k =
      fpick t (λ vs. fsplit t $ move t (1 ∷ []) $ peeks t (Array R n) (Is (Array R n)) (shows 𝓛 (Array R n)) xs vs (λ p. let_go t $
      rewrite t 0 (λ (ws : List Val). ‵ (cell_at full_share (cell ∷ []) ws b 0)) p.1.0.0 refl $
      use1 𝓛 (‵ (fat full_share cell b 0 (array_val p.0))) (𝓛.laws.raw_at full_share cell b 0 (array_val p.0)) $ k (array_val p.0) (subst (Is (Array R n) xs) p.1.0.0 p)))

-- an array of zeros
zeros-each : (n : ℕ) → shadow (each ℕ u64.own_val (replicate n 0) (replicate n (vint w64 0)))
zeros-each zero = tt
zeros-each (suc n) = ((refl, lit< tt), zeros-each n)

pub zeros : (n : ℕ) → Is (Array u64 n) (replicate n 0) (array_val (replicate n (vint w64 0)) ∷ [])
zeros n = (replicate n (vint w64 0), ((refl, length-replicate n 0), zeros-each n))
