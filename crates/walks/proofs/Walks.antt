-- What every walk by hand repeats, stated once, for functions without a `&mut` parameter and without `requires`. Assumes nothing.
-- A walk shows that a function's MIR, run statement by statement, ends in what the contract says. It is needed where Rattle proves no function by itself,
-- which it now does for structs that hold a reference and for slices of structs: text and auction have none any more.
-- Rattle's docs/WALKS.md has the forms of today's walks. The function's MIR has the statements and the locals to walk. Then:
-- 1. A context is a list of entries, counted from 0. With n locals, local i stands at 2 (n - 1 - i) once they are made, and after it that it dies;
--    behind all locals stand the token and what the parameters own. What is put in front shifts all: write the context as a comment.
-- 2. `enter`, `makes-locals`, `params1`, a `pass1` for each parameter with the typing of its value, `pass0`.
-- 3. `assigns` for each assignment: operands by `loc ! n refl`, a field k by `dot ! n k refl refl refl`, the place by `here !`, the store by `init ! n refl typed`
--    (`store` where the local has a value). An integer or a struct that a call returned is `told` before it is used, since its value is a variable.
-- 4. `calls-plain` for a callee of plain data: nothing is taken from the context. `calls` for one with lifetimes: in front stand what its parameters own,
--    in one entry, and the token; afterwards what the result owns, and the token. That one entry is built from the last parameter to the first:
--    `nothing !`, then `owned ! .. $ fjoin !` for plain data and `move ! (i ∷ 0 ∷ []) $ fjoin !` for an entry at i. What is Copy is had `twice`.
--    Both are told by φ what the clause says of the result; `id⊢ 𝓤 _` says that the clause is φ, and that nothing is required.
--    Afterwards `land ! (here !) (init ! n refl typed)` stores the result.
-- 5. `returns ! (look ! n refl)`, `gone ! n refl refl` for each local from 0 on, `free0`; then [the token; what the parameters own; what the result owns]
--    and `leaves`, with the proof of the clause in `truly`.
-- 6. `meets` makes the statement of the walk, with a `λ κs x f. refl` for each parameter, and `cited` for each callee.
-- What plain data owns is never carried: its relation `is` is kept, and `owned` makes it anew.
-- Pitfalls: a contract of several clauses is a nested product, so write one; a local of the struct has its lifetime erased;
-- a wrong position shows as an entry that is not the cell of the local.
pub use mathlib.Core.Path.{refl, sym, ap, ◌∙◌}
use mathlib.Core.Path.{◌≡◌, subst}
pub use Prim.Native.Nat.{ℕ, ◌^◌}
use Prim.Native.Nat.{zero, ◌+◌}
pub use mathlib.Core.List.{List, [], ◌∷◌}
use mathlib.Core.List.{◌++◌}
pub use seplogic.Ra.Ura.{Ura}
pub use base.Fraction.{full_share}
pub use mir.Syntax.{named, erased, w64}
use mir.Syntax.{Callee, Place, Opd as Operand, Body, Ty, Tys, Sym, Fn, Local, local, place, copy, field, ty_struct, seq, call}
pub use mir.Val.{Val, WT, has_ty, vint}
pub use base.Logic.{SProp, ent, id⊢}
use base.Logic.{sep, emp, via, comm∗, emp∗, mono∗, mono_l, mono_r, fst∗, snd∗, ex_e}
pub use base.Fml.{Lft, Share, Fml}
use base.Fml.{fsep, fat, froom, fdies}
use prog.Model.{Model}
pub use prog.Routine.{Routine}
use prog.Routine.{Env as Routines}
pub use prog.Wp.{Heap, Calls, Loops, WpFn}
use prog.Wp.{Env, spot_of, Closed, Tables, eval_opds}
pub use ghost.Atoms.{Atoms}
use types.Logic.{Logic, sem}
pub use sound.WpLaws.{FmC}
use sound.WpLaws.{fm_of, WpFn-mono}
pub use contract.Lifetimes.{Lfts}
use contract.Lifetimes.{Shares, AllOutlive}
pub use contract.Monad.{Fun}
use contract.Monad.{fact, fact_i}
use contract.Running.{Running, tables, tables_of}
pub use types.Kit.{‵, raw, given, learn, ◌$◌, ◌∵◌, !, qed, by, move, drop as let_go, use1, use2, fsplit, fjoin}
use types.Kit.{Item, ◌⊛◌, some, later, mean, ⋆, pop, push, nth, put, del, pull, Post, Goal, prop, runs, lands, allocs, frees, aim, Soaks, Seq, Step, step, cut, split, pick, rewrite, await}
pub use types.Run.{look, init, stop, fld, from, load, of_opd, and_then, no_more, assigns, land, returns, enter, alloc1, alloc0, params1, pass1, pass0, free0}
use types.Run.{Finds, Opd, Opds, free1}
pub use denote.RattleType.{RattleType, owns}
use denote.RattleType.{Denots, Valss, flat}
pub use denote.Laws.{Is}
use denote.Laws.{Ises, Are, Spells, valss, Tellss, Makess, Copy, shows, owns_make}
pub use denote.Signature.{named_lft}
use denote.Signature.{Slot, Signature, type_at, types_at}
pub use denote.Steps.{owned, nothing}
use denote.Steps.{peeks, heard, only}
pub use denote.Triple.Statement.{Triple}
use denote.Triple.Statement.{Contract}
pub use denote.Triple.Entry.{Vals, alive, on_entry}
use denote.Triple.Entry.{Args, Res}
use denote.Triple.End.{Kepts, Fins}
use denote.Triple.Spec.{triple_of}
pub use denote.Triple.Table.{cited}
use denote.Triple.Table.{entered}
pub use denote.Triple.Clauses.{Clauses}
use denote.Triple.Clauses.{Ended, Lasts, at_exit, lasts, ensured, closing}
use denote.Triple.Walked.{Stays, Silent, AllGo, Goes-Silent, fits_of, has_of, walk_of, ends_at, walked, walk_Meets}
pub use prog.Memory.{Memory}
pub use types.Part.{whole, sub, look_in, agg}
use types.Part.{Part}
use mathlib.Core.Option as Option
use mir.Fields.{get_v, set_v}
use mir.Val.{Vals as Fields, vstruct}
use prog.Memory.{field_at, field_of}
pub use denote.Plain.{uint_vals, uint_Tells, uint_Makes, uint_Lawful}
pub use denote.Builtin.{u8, u64, usize}
pub use denote.Ref.{Bor, MutBor, NamedLft}
pub use denote.Slice.{slice_val, ShrSlice, shr_slice_vals, mut_slice_vals, shr_slice_Tells, shr_slice_Lawful, shr_slice_copy}
pub use denote.Struct.Declared.{Declared}

-- ---- what is had of the parameters at exit, where none is a `&mut`: what was had at entry
module _ {n : ℕ} where
  abbrev pub stays : (ss : List (Slot n)) (ks : Kepts ss) → Stays ss ks
  stays [] ks = tt
  stays (s ∷ ss) ks = (record { fit = λ κs x f. Unit {0}; has = λ κs x f vs. (s.row κs).own_val x vs }, stays ss ks.1)

  all_fit : (κs : Lfts n) (ss : List (Slot n)) (ks : Kepts ss) (a : Denots (types_at ss κs)) (ws : Fins κs ss ks a) → fits_of κs ss ks (stays ss ks) a ws
  all_fit κs [] ks a ws = tt
  all_fit κs (s ∷ ss) ks a ws = (tt, all_fit κs ss ks.1 a.1 ws.1)

  has-is : (κs : Lfts n) (ss : List (Slot n)) (ks : Kepts ss) (a : Denots (types_at ss κs)) (ws : Fins κs ss ks a) (vss : Valss (types_at ss κs)) → has_of κs ss ks (stays ss ks) a ws vss ≡ owns (types_at ss κs) a vss
  has-is κs [] ks a ws vss = refl
  has-is κs (s ∷ ss) ks a ws vss = ap (fsep ((s.row κs).own_val a.0 vss.0)) (has-is κs ss ks.1 a.1 ws.1 vss.1)

module _ {M : Type 1} {𝓤 : Ura M} (𝓛 : Logic 𝓤) (n : ℕ) where
  -- a `refl` for each parameter
  abbrev pub Silents : (ss : List (Slot n)) → Kepts ss → Type 1
  Silents [] ks = Unit {1}
  Silents (s ∷ ss) ks = Silent 𝓛 n s ks.0 × Silents ss ks.1

  all_go : (ss : List (Slot n)) (ks : Kepts ss) → Silents ss ks → AllGo 𝓛 n ss ks (stays ss ks)
  all_go [] ks qs = tt
  all_go (s ∷ ss) ks qs = (Goes-Silent 𝓛 n s ks.0 (stays (s ∷ ss) ks).0 qs.0, all_go ss ks.1 qs.1)

-- ---- the end of a walk
pub truly : {M : Type 1} (𝓤 : Ura M) {φ : Type 0} → φ → ent 𝓤 (emp 𝓤) (fact 𝓤 φ)
truly 𝓤 {φ} e = fact_i 𝓤 φ (emp 𝓤) e

module _ {M : Type 1} {𝓤 : Ura M} (𝓛 : Logic 𝓤) (T : Ended) (c : Clauses 𝓤 T) where
  -- the triple in which the walk of a function without a `&mut` ends
  abbrev pub Walk : Contract 𝓤
  Walk = walk_of 𝓛 T (stays T.signature.params T.kept) c

-- the walk's last step: [the tokens; what the parameters own; what the result owns]
pub leaves : {M : Type 1} {𝓤 : Ura M} {𝓛 : Logic 𝓤} {K : Type 0} → K → (T : Ended) (c : Clauses 𝓤 T) (y : (Walk 𝓛 T c).Ghost) (v : Val) (r : Res T.signature y.0.0) (ws : Lasts T y.0.0 y.0.3)
    → ent 𝓤 (emp 𝓤) ((c y.0.0 y.0.3).ensures y.1 r (at_exit T y.0.0 y.0.3 ws))
    → Seq K 𝓛 (raw (alive 𝓛 T.signature y.0.0 y.0.1) ∷ ‵ (owns (types_at T.signature.params y.0.0) y.0.3 y.0.4) ∷ ‵ ((type_at T.signature.result y.0.0).own_val r (v ∷ [])) ∷ []) (prop ((Walk 𝓛 T c).post y v))
leaves {M} {𝓤} {𝓛} {K} t T c y v r ws e =
    let P : Fml → SProp 𝓤 = λ F. sep 𝓤 (alive 𝓛 T.signature y.0.0 y.0.1) (sep 𝓤 (sem 𝓛 F) (sem 𝓛 ((type_at T.signature.result y.0.0).own_val r (v ∷ [])))) in
    let F : Fml = has_of y.0.0 T.signature.params T.kept (stays T.signature.params T.kept) y.0.3 ws y.0.4 in
    let Q : SProp 𝓤 = (c y.0.0 y.0.3).ensures y.1 r (at_exit T y.0.0 y.0.3 ws) in
    let X : ent 𝓤 (P F) ((Walk 𝓛 T c).post y v) =
    via 𝓤 (sep 𝓤 (P F) Q) (via 𝓤 (sep 𝓤 Q (P F)) (via 𝓤 (sep 𝓤 (emp 𝓤) (P F)) (emp∗ 𝓤 (P F)) (mono_l 𝓤 (P F) e)) (comm∗ 𝓤 Q (P F)))
    (ends_at 𝓛 T (stays T.signature.params T.kept) c y v r ws (all_fit y.0.0 T.signature.params T.kept y.0.3 ws)) in
    record { prf = subst (λ (G : Fml). ent 𝓤 (P G) ((Walk 𝓛 T c).post y v)) (has-is y.0.0 T.signature.params T.kept y.0.3 ws y.0.4) X }

-- ---- from a walk to the statement
module _ {M : Type 1} {𝓤 : Ura M} (𝓛 : Logic 𝓤) (𝓜 : Model 𝓤 𝓛.H) (𝓡 : Running 𝓤 𝓛.H 𝓜) (T : Ended) (c : Clauses 𝓤 T) (γ : Routines) where
  open 𝓛 use {H}

  abbrev S : Signature
  S = T.signature

  abbrev Cs : Calls 𝓤 H
  Cs = (tables 𝓤 H 𝓜 𝓡 γ).C

  abbrev Ls : Loops 𝓤 H
  Ls = (tables 𝓤 H 𝓜 𝓡 γ).Λ

  pub meets : Silents 𝓛 S.lifetimes S.params T.kept → (k : Callee) (e : Fn) → Closed 𝓤 H Cs Ls k e
      → (sp : (κs : Lfts S.lifetimes) → Spells (types_at S.params κs)) → ((κs : Lfts S.lifetimes) → Tellss (types_at S.params κs) (Ises (types_at S.params κs)) (sp κs))
      → (FmC 𝓤 H 𝓛.laws Cs → (κs : Lfts S.lifetimes) (qs : Shares S.lifetimes) (bounds : AllOutlive S.lifetimes S.outlives κs) (a : Args S κs) (g : (c κs a).ghost)
      → Are (types_at S.params κs) (Ises (types_at S.params κs)) a (valss (types_at S.params κs) (sp κs) a)
      → ent 𝓤 (on_entry 𝓛 S κs qs a (valss (types_at S.params κs) (sp κs) a))
      (WpFn 𝓤 H Cs Ls e (flat (types_at S.params κs) (valss (types_at S.params κs) (sp κs) a)) ((Walk 𝓛 T c).post ((κs, qs, bounds, a, valss (types_at S.params κs) (sp κs) a), g))))
      → Triple 𝓤 (Cs k) (triple_of 𝓛 S (closing 𝓛 T c))
  unfolding tables_of
  meets silent k e closed sp tl walk =
      let 𝓣 : Tables 𝓤 H = tables_of 𝓤 H 𝓜 (tables 𝓤 H 𝓜 𝓡 γ) in
      let hs : Stays S.params T.kept = stays S.params T.kept in
      entered 𝓤 H (triple_of 𝓛 S (closing 𝓛 T c)) Cs Ls k e closed
      (walk_Meets 𝓛 T hs (all_go 𝓛 S.lifetimes S.params T.kept silent) c (WpFn 𝓤 H Cs Ls e) (WpFn-mono 𝓤 H 𝓛.laws 𝓣 e)
      (walked 𝓛 T hs c (WpFn 𝓤 H Cs Ls e) sp tl
      (λ κs qs bounds a g are. via 𝓤 _ (fst∗ 𝓤 _ ((c κs a).requires g)) (walk (fm_of 𝓤 H 𝓛.laws 𝓣) κs qs bounds a g are))))

-- ---- steps
-- the blocks of the locals, the environment and the entries that they make, the last local first
abbrev Blocks : List Local → Type 0
Blocks [] = Unit {0}
Blocks (l ∷ ls) = ℕ × Blocks ls

module _ {M : Type 1} (𝓤 : Ura M) (H : Heap 𝓤) where
  abbrev homes : (ls : List Local) → Blocks ls → Env 𝓤 H
  homes [] bs = []
  homes (local τ h ∷ ls) bs = (τ, bs.0) ∷ homes ls bs.1

  abbrev rooms : (ls : List Local) → Blocks ls → List (Item 𝓤) → List (Item 𝓤)
  rooms [] bs Γ = Γ
  rooms (local τ h ∷ ls) bs Γ = rooms ls bs.1 (‵ (froom τ bs.0 zero) ∷ ‵ (fdies τ bs.0) ∷ Γ)

alloc_all : {M : Type 1} {𝓤 : Ura M} {𝓛 : Logic 𝓤} {K : Type 0} → K → (ls : List Local) (Γ : List (Item 𝓤)) (Kt : Env 𝓤 𝓛.H → Goal 𝓤 𝓛.H)
    → ((bs : Blocks ls) → Seq K 𝓛 (rooms 𝓤 𝓛.H ls bs Γ) (Kt (homes 𝓤 𝓛.H ls bs))) → Seq K 𝓛 Γ (allocs ls Kt)
alloc_all t [] Γ Kt k = alloc0 t $ k tt
alloc_all t (local τ h ∷ ls) Γ Kt k = alloc1 t (λ b. alloc_all t ls (‵ (froom τ b zero) ∷ ‵ (fdies τ b) ∷ Γ) (λ E. Kt ((τ, b) ∷ E)) (λ bs. k (b, bs)))

-- all locals are made
pub makes-locals : {M : Type 1} {𝓤 : Ura M} {𝓛 : Logic 𝓤} {K : Type 0} {Γ : List (Item 𝓤)} → K → {ls : List Local} {Kt : Env 𝓤 𝓛.H → Goal 𝓤 𝓛.H}
    → ((bs : Blocks ls) → Seq K 𝓛 (rooms 𝓤 𝓛.H ls bs Γ) (Kt (homes 𝓤 𝓛.H ls bs))) → Seq K 𝓛 Γ (allocs ls Kt)
makes-locals {Γ = Γ} t {ls} {Kt} k = alloc_all t ls Γ Kt k

module _ {M : Type 1} {𝓤 : Ura M} {𝓛 : Logic 𝓤} {K : Type 0} {Γ : List (Item 𝓤)} where
  -- a local as a place, and as an operand, whose value is at n
  open 𝓛 use {H}

  pub here : K → {E : Env 𝓤 H} {i : ℕ} → Finds K 𝓛 Γ E (place i []) (spot_of 𝓤 H E i)
  here t = from t (stop t)

  pub loc : K → (n : ℕ) {E : Env 𝓤 H} {i : ℕ} {q : Share} {v : Val} → nth 𝓛 n Γ ≡ ‵ (fat q (spot_of 𝓤 H E i).0 (spot_of 𝓤 H E i).1 (spot_of 𝓤 H E i).2 v) → Opd K 𝓛 Γ E (copy (place i [])) v
  loc t n e = load t (from t (stop t)) (look t n e)

  -- field k of a local that holds a struct
  pub dot : K → (n k : ℕ) {E : Env 𝓤 H} {i : ℕ} {q : Share} {ν : Sym} {τs : Tys} {vs : Fields} {τ : Ty} {d : ℕ} → nth 𝓛 n Γ ≡ ‵ (fat q (ty_struct ν τs) (spot_of 𝓤 H E i).1 (spot_of 𝓤 H E i).2 (vstruct vs))
      → (spot_of 𝓤 H E i).0 ≡ ty_struct ν τs → field_at zero τs k ≡ Option.some (τ, d) → Opd K 𝓛 Γ E (copy (place i (field k ∷ []))) (get_v vs k)
  dot t n k {E} {i} {q} {ν} {τs} {vs} {τ} {d} e e₀ e₁ =
      load t (from t (fld t (ap (λ (σ : Ty). field_of σ k) e₀ ∙ e₁) (stop t)))
      (look_in t n (subst (λ (j : Item 𝓤). Part K 𝓛 j q τ (spot_of 𝓤 H E i).1 ((spot_of 𝓤 H E i).2 + d) (get_v vs k) (λ u. ‵ (fat q (ty_struct ν τs) (spot_of 𝓤 H E i).1 (spot_of 𝓤 H E i).2 (vstruct (set_v vs k u))))) (sym e) (sub t k e₁ (whole t))))

  -- a local whose value is at n is freed
  pub gone : K → (n : ℕ) {τ : Ty} {b : ℕ} {v : Val} {E : Env 𝓤 H} {g : Goal 𝓤 H} → nth 𝓛 n Γ ≡ ‵ (fat full_share τ b zero v) → nth 𝓛 n (del 𝓛 n Γ) ≡ ‵ (fdies τ b)
      → Step K 𝓛 (del 𝓛 n (del 𝓛 n Γ)) (frees E g) Γ (frees ((τ, b) ∷ E) g)
  gone t n {τ} {b} {v} e e' =
      let Δ : List (Item 𝓤) = del 𝓛 n Γ in
      let R : SProp 𝓤 = H.room τ b zero in
      step (λ s. by t (via 𝓤 (⋆ 𝓛 (‵ (froom τ b zero) ∷ ‵ (fdies τ b) ∷ del 𝓛 n Δ))
      (via 𝓤 (sep 𝓤 (H.at full_share τ b zero v) (⋆ 𝓛 Δ)) (subst (λ (j : Item 𝓤). ent 𝓤 (⋆ 𝓛 Γ) (sep 𝓤 (mean 𝓛 j) (⋆ 𝓛 Δ))) e (pull 𝓛 n Γ))
      (via 𝓤 (sep 𝓤 R (⋆ 𝓛 Δ)) (mono_l 𝓤 (⋆ 𝓛 Δ) (𝓛.laws.at_room τ b zero v))
      (mono_r 𝓤 R (via 𝓤 (sep 𝓤 (H.dies τ b) (⋆ 𝓛 (del 𝓛 n Δ))) (subst (λ (j : Item 𝓤). ent 𝓤 (⋆ 𝓛 Δ) (sep 𝓤 (mean 𝓛 j) (⋆ 𝓛 (del 𝓛 n Δ)))) e' (pull 𝓛 n Δ))
      (push 𝓛 (‵ (fdies τ b)) (del 𝓛 n Δ))))))
      (free1 t $ s).prf))

  module _ {G : Goal 𝓤 H} where
    -- the local at n holds u, and its type tells that u is the value v
    pub told : K → (n : ℕ) {τ : Ty} {b o : ℕ} {u v : Val} → u ∷ [] ≡ v ∷ [] → nth 𝓛 n Γ ≡ ‵ (fat full_share τ b o u) → Step K 𝓛 (put 𝓛 n (‵ (fat full_share τ b o v)) Γ) G Γ G
    told t n {τ} {b} {o} e at_n = rewrite t n (λ (z : Val). ‵ (fat full_share τ b o z)) (ap only e) at_n

    -- what a Copy type owns is had twice
    pub twice : K → (R : RattleType) → Copy 𝓛 R → (x : R.Denot) (vs : List Val) → Step K 𝓛 (‵ (R.own_val x vs) ∷ ‵ (R.own_val x vs) ∷ Γ) G (‵ (R.own_val x vs) ∷ Γ) G
    twice t R cp x vs = step (λ s. use1 𝓛 (‵ (R.own_val x vs) ⊛ ‵ (R.own_val x vs)) (cp.twice x vs) $ split t $ s)

module _ {M : Type 1} (𝓤 : Ura M) where
  beside : (P Q R : SProp 𝓤) → ent 𝓤 (emp 𝓤) R → ent 𝓤 (sep 𝓤 Q P) (sep 𝓤 (sep 𝓤 P Q) R)
  beside P Q R h = via 𝓤 (sep 𝓤 P Q) (comm∗ 𝓤 Q P) (via 𝓤 (sep 𝓤 (emp 𝓤) (sep 𝓤 P Q)) (emp∗ 𝓤 (sep 𝓤 P Q)) (via 𝓤 (sep 𝓤 R (sep 𝓤 P Q)) (mono_l 𝓤 (sep 𝓤 P Q) h) (comm∗ 𝓤 R (sep 𝓤 P Q))))

  from-none : (P Q R : SProp 𝓤) → ent 𝓤 (emp 𝓤) P → ent 𝓤 (emp 𝓤) Q → ent 𝓤 (emp 𝓤) R → ent 𝓤 (emp 𝓤) (sep 𝓤 (sep 𝓤 P Q) R)
  from-none P Q R p q r = via 𝓤 (sep 𝓤 (emp 𝓤) (emp 𝓤)) (emp∗ 𝓤 (emp 𝓤)) (mono∗ 𝓤 (via 𝓤 (sep 𝓤 (emp 𝓤) (emp 𝓤)) (emp∗ 𝓤 (emp 𝓤)) (mono∗ 𝓤 p q)) r)

-- ---- a call. The callee has one clause, which says φ of its result, and asks nothing beside what its parameters own
module _ {M : Type 1} {𝓤 : Ura M} (𝓛 : Logic 𝓤) (T : Ended) (c : Clauses 𝓤 T) where
  -- the callee's contract
  abbrev pub Ask : Contract 𝓤
  Ask = triple_of 𝓛 T.signature (closing 𝓛 T c)

  module _ (y : Ask.Ghost) where
    abbrev Types : List RattleType
    Types = types_at T.signature.params y.0.0

    abbrev Params : Item 𝓤
    Params = ‵ (owns Types y.0.3 y.0.4)

    abbrev Tokens : Item 𝓤
    Tokens = raw (alive 𝓛 T.signature y.0.0 y.0.1)

    abbrev Requires : SProp 𝓤
    Requires = (c y.0.0 y.0.3).requires y.1

    abbrev Row : RattleType
    Row = type_at T.signature.result y.0.0

    abbrev Result : Res T.signature y.0.0 → Val → Item 𝓤
    Result r u = ‵ (Row.own_val r (u ∷ []))

    abbrev Says : (Res T.signature y.0.0 → Type 0) → Type 1
    Says φ = (r : Res T.signature y.0.0) (ws : Lasts T y.0.0 y.0.3) → ent 𝓤 ((c y.0.0 y.0.3).ensures y.1 r (at_exit T y.0.0 y.0.3 ws)) (fact 𝓤 (φ r))

module _ {M : Type 1} {𝓤 : Ura M} {𝓛 : Logic 𝓤} {K : Type 0} {Γ : List (Item 𝓤)} where
  -- what the callee returned, with what is said of it
  open 𝓛 use {H}

  hears : K → {G : Goal 𝓤 H} → Soaks G → (T : Ended) (c : Clauses 𝓤 T) (y : (Ask 𝓛 T c).Ghost) (φ : Res T.signature y.0.0 → Type 0) → Says 𝓛 T c y φ → (u : Val)
      → ((r : Res T.signature y.0.0) → φ r → Is (Row 𝓛 T c y) r (u ∷ []) → Seq K 𝓛 (Result 𝓛 T c y r u ∷ Tokens 𝓛 T c y ∷ Γ) G) → Seq K 𝓛 (raw ((Ask 𝓛 T c).post y u) ∷ Γ) G
  hears t z T c y φ said u k =
      use1 𝓛 (later (some (λ (r : Res T.signature y.0.0). (Tokens 𝓛 T c y ⊛ Result 𝓛 T c y r u) ⊛ raw (ensured 𝓛 T c y.0.0 y.0.3 y.1 r)))) (id⊢ 𝓤 _) $ await t z $ pick t (λ r.
      split t $ move t (1 ∷ []) $ use1 𝓛 (raw (fact 𝓤 (φ r))) (ex_e 𝓤 _ (λ ws. via 𝓤 _ (snd∗ 𝓤 (sem 𝓛 (lasts T y.0.0 y.0.3 ws)) _) (said r ws))) $ heard t (φ r) (λ e.
      split t $ move t (1 ∷ []) $ peeks t (Row 𝓛 T c y) (Is (Row 𝓛 T c y)) (shows 𝓛 (Row 𝓛 T c y)) r (u ∷ []) (λ is. k r e is)))

  module _ {E : Env 𝓤 H} {C : Calls 𝓤 H} {Λ : Loops 𝓤 H} {f : Callee} {xs : List Operand} {q : Post 𝓤 H} {d : Place} {rest : Body} where
    -- the entries Δ give what the callee asks
    called : K → FmC 𝓤 H 𝓛.laws C → (k : Contract 𝓤) → Triple 𝓤 (C f) k → (y : k.Ghost) (Δ : List (Item 𝓤)) → ent 𝓤 (⋆ 𝓛 Δ) (k.pre y) → Opds K 𝓛 (Δ ++ Γ) E xs (k.args y)
        → ((u : Val) → Seq K 𝓛 (raw (k.post y u) ∷ Γ) (lands C Λ E d u rest q)) → Seq K 𝓛 (Δ ++ Γ) (runs C Λ E (seq (call f xs d) rest) q)
    called t fm k met y Δ asked os s =
        let Q : Val → SProp 𝓤 = λ u. aim 𝓤 H (lands C Λ E d u rest q) in
        let X : Seq K 𝓛 (raw (k.pre y) ∷ Γ) (prop (C f (k.args y) Q)) = by t
        (via 𝓤 (sep 𝓤 (C f (k.args y) (k.post y)) (⋆ 𝓛 Γ)) (via 𝓤 (sep 𝓤 (k.pre y) (⋆ 𝓛 Γ)) (pop 𝓛 (raw (k.pre y)) Γ) (mono_l 𝓤 (⋆ 𝓛 Γ) (met y)))
        (fm f (k.args y) (k.post y) Q (⋆ 𝓛 Γ) (λ u. via 𝓤 (⋆ 𝓛 (raw (k.post y u) ∷ Γ)) (push 𝓛 (raw (k.post y u)) Γ) (s u).prf))) in
        record { prf = via 𝓤 (eval_opds 𝓤 H E xs (λ us. C f us Q)) (os.go (λ us. C f us Q) (cut Δ (raw (k.pre y) ∷ []) Γ asked $ X).prf) (𝓛.laws.⇛_intro _) }

    -- [what the parameters own; the tokens; …], and after the call [what the result owns; the tokens; …]
    pub calls : K → FmC 𝓤 H 𝓛.laws C → (T : Ended) (c : Clauses 𝓤 T) → Triple 𝓤 (C f) (Ask 𝓛 T c) → (y : (Ask 𝓛 T c).Ghost) → ent 𝓤 (emp 𝓤) (Requires 𝓛 T c y)
        → (φ : Res T.signature y.0.0 → Type 0) → Says 𝓛 T c y φ → Opds K 𝓛 (Params 𝓛 T c y ∷ Tokens 𝓛 T c y ∷ Γ) E xs ((Ask 𝓛 T c).args y)
        → ((u : Val) (r : Res T.signature y.0.0) → φ r → Is (Row 𝓛 T c y) r (u ∷ []) → Seq K 𝓛 (Result 𝓛 T c y r u ∷ Tokens 𝓛 T c y ∷ Γ) (lands C Λ E d u rest q))
        → Seq K 𝓛 (Params 𝓛 T c y ∷ Tokens 𝓛 T c y ∷ Γ) (runs C Λ E (seq (call f xs d) rest) q)
    calls t fm T c met y asks φ said os k =
        called t fm (Ask 𝓛 T c) met y (Params 𝓛 T c y ∷ Tokens 𝓛 T c y ∷ [])
        (beside 𝓤 (mean 𝓛 (Tokens 𝓛 T c y)) (mean 𝓛 (Params 𝓛 T c y)) (Requires 𝓛 T c y) asks)
        os (λ u. hears t tt T c y φ said u (k u))

    -- a callee of plain data: what its parameters own is made of their relations, and its result is only told
    pub calls-plain : K → FmC 𝓤 H 𝓛.laws C → (T : Ended) (c : Clauses 𝓤 T) → Triple 𝓤 (C f) (Ask 𝓛 T c) → (y : (Ask 𝓛 T c).Ghost)
        → ent 𝓤 (emp 𝓤) (mean 𝓛 (Tokens 𝓛 T c y)) → ent 𝓤 (emp 𝓤) (Requires 𝓛 T c y)
        → Makess 𝓛 (Types 𝓛 T c y) (Ises (Types 𝓛 T c y)) → Are (Types 𝓛 T c y) (Ises (Types 𝓛 T c y)) y.0.3 y.0.4
        → (φ : Res T.signature y.0.0 → Type 0) → Says 𝓛 T c y φ → Opds K 𝓛 Γ E xs ((Ask 𝓛 T c).args y)
        → ((u : Val) (r : Res T.signature y.0.0) → φ r → Is (Row 𝓛 T c y) r (u ∷ []) → Seq K 𝓛 Γ (lands C Λ E d u rest q))
        → Seq K 𝓛 Γ (runs C Λ E (seq (call f xs d) rest) q)
    calls-plain t fm T c met y free asks mk are φ said os k =
        called t fm (Ask 𝓛 T c) met y []
        (from-none 𝓤 (mean 𝓛 (Tokens 𝓛 T c y)) (mean 𝓛 (Params 𝓛 T c y)) (Requires 𝓛 T c y) free
        (owns_make 𝓛 (Types 𝓛 T c y) (Ises (Types 𝓛 T c y)) mk y.0.3 y.0.4 are) asks)
        os (λ u. hears t tt T c y φ said u (λ r e is. let_go t $ let_go t $ k u r e is))
