-- Holders that are shifted along an alternating path: all are settled but the bidder at which it starts, which may still stand at what it held.
use mathlib.Core.Path.{◌≡◌, sym, ap, ◌∙◌}
use mathlib.Core.Logic.{◌≢◌, ◌⊎◌, inl, inr, ⊎_elim, by_cases}
use Prim.Native.Nat.{ℕ, suc, ◌≤◌, ◌<◌}
use native.Mathlib.Nat.{suc_inj}
use native.Mathlib.Decide.{ℕ_discrete}
use native.Mathlib.Omega.{arith}
use Rattle.board.specs.Limits.{max_items}
use Rattle.hungarian.specs.Settled.{Holds, TightEdge, Settled}
use Rattle.hungarian.specs.Path.{Given, Path, released, free, onward}

-- An item's holder after it, or another item, was given to a bidder
given-cases : {k i : ℕ} {before after : ℕ → ℕ} → Given k i before after → (j c : ℕ) → Holds after j c → ((j ≡ k) × (c ≡ i)) ⊎ ((j ≢ k) × Holds before j c)
given-cases {k} {i} {before} {after} g j c h =
    by_cases (ℕ_discrete j k)
    (λ (e : j ≡ k). inl (e, suc_inj (sym (rw e at h) ∙ g.here)))
    (λ ne. inr (ne, sym (g.others j ne) ∙ h))

given-free : {k i : ℕ} {before after : ℕ → ℕ} → Given k i before after → (j : ℕ) → after j ≡ 0 → (j ≢ k) × (before j ≡ 0)
given-free {k} {i} {before} {after} g j z =
    let ne : j ≢ k = λ e. absurd (let q : after k ≡ 0 = rw e at z in omega (arith, g.here)) in
    (ne, sym (g.others j ne) ∙ z)

-- Prices and gains as they are at the end
module _ {w : ℕ → ℕ → ℕ} {price gain holder price' gain' : ℕ → ℕ} {n : ℕ} (s : Settled w price gain holder n)
    (still : (k i : ℕ) → Holds holder k i → TightEdge w price' gain' i k) (fallen : (i : ℕ) → i < n → gain' i ≤ gain i) where
  pub record Shifted (i : ℕ) (after : ℕ → ℕ) : Type 0 where
    pub tight : (k c : ℕ) → Holds after k c → TightEdge w price' gain' c k
    pub near : (k c : ℕ) → Holds after k c → k < max_items
    pub from : (k c : ℕ) → Holds after k c → (c ≡ i) ⊎ ((x : ℕ) × Holds holder x c)
    pub once : (j k c : ℕ) → Holds after j c → Holds after k c → (j ≡ k) ⊎ ((c ≡ i) × (Holds holder j c ⊎ Holds holder k c))
    pub unheld : (k : ℕ) → after k ≡ 0 → holder k ≡ 0
    pub placed : (c : ℕ) → c < n → 0 < gain' c → (c ≡ i) ⊎ ((k : ℕ) × Holds after k c)
    pub moved : 0 < gain' i → (k : ℕ) × Holds after k i × (Holds holder k i → ⊥)

  -- The path ends at a bidder of gain 0
  at-released : {i : ℕ} {after : ℕ → ℕ} → gain' i ≡ 0 → ((k : ℕ) → after k ≡ holder k) → Shifted i after
  at-released z e =
      record {
        tight = λ k c h. still k c (sym (e k) ∙ h);
        near = λ k c h. (s.held.known k c (sym (e k) ∙ h)).0;
        from = λ k c h. inr (k, sym (e k) ∙ h);
        once = λ j k c h₁ h₂. inl (s.held.once j k c (sym (e j) ∙ h₁) (sym (e k) ∙ h₂));
        unheld = λ k q. sym (e k) ∙ q;
        placed = λ c l p. inr (let (k, h) = s.placed c l (omega (arith, fallen c l)) in (k, e k ∙ h));
        moved = λ p. absurd (omega arith);
      }

  -- It ends at a free item
  at-free : {i : ℕ} {after : ℕ → ℕ} (k : ℕ) → k < max_items → TightEdge w price' gain' i k → holder k ≡ 0 → Given k i holder after → Shifted i after
  at-free {i} {after} k lk x z g =
      record {
        tight = λ j c h. ⊎_elim (λ e. rw (e.0, e.1) x) (λ e. still j c e.1) (given-cases g j c h);
        near = λ j c h. ⊎_elim (λ e. rw e.0 lk) (λ e. (s.held.known j c e.1).0) (given-cases g j c h);
        from = λ j c h. ⊎_elim (λ e. inl e.1) (λ e. inr (j, e.1)) (given-cases g j c h);
        once = λ j l c h₁ h₂. two j l c (given-cases g j c h₁) (given-cases g l c h₂);
        unheld = λ j q. (given-free g j q).1;
        placed = λ c l p. inr (let (j, h) = s.placed c l (omega (arith, fallen c l)) in (j, g.others j (off j c h) ∙ h));
        moved = λ p. (k, g.here, λ h. absurd (omega arith));
      }
    where
      off : (j c : ℕ) → Holds holder j c → j ≢ k
      off j c h e = absurd (let q : Holds holder k c = rw e at h in omega arith)

      two : (j l c : ℕ) → ((j ≡ k) × (c ≡ i)) ⊎ ((j ≢ k) × Holds holder j c) → ((l ≡ k) × (c ≡ i)) ⊎ ((l ≢ k) × Holds holder l c)
          → (j ≡ l) ⊎ ((c ≡ i) × (Holds holder j c ⊎ Holds holder l c))
      two j l c (inl e) (inl f) = inl (e.0 ∙ sym f.0)
      two j l c (inl e) (inr f) = inr (e.1, inr f.1)
      two j l c (inr e) (inl f) = inr (f.1, inl e.1)
      two j l c (inr e) (inr f) = inl (s.held.once j l c e.1 f.1)

  -- It goes on from a holder: who comes before takes the place that the holder leaves
  at_held : {i : ℕ} {after : ℕ → ℕ} (k j : ℕ) (rest : ℕ → ℕ) → TightEdge w price' gain' i k → Holds holder k j → Shifted j rest
      → i ≢ j → Holds rest k j → ((x : ℕ) → Holds holder x i → Holds rest x i) → Given k i rest after → Shifted i after
  at_held {i} {after} k j rest x held p ne kept mine g =
      record {
        tight = λ l c h. ⊎_elim (λ e. rw (e.0, e.1) x) (λ e. p.tight l c e.1) (given-cases g l c h);
        near = λ l c h. ⊎_elim (λ e. rw e.0 (s.held.known k j held).0) (λ e. p.near l c e.1) (given-cases g l c h);
        from = λ l c h. ⊎_elim (λ e. inl e.1) (λ e. ⊎_elim (λ q. inr (k, held ∙ ap suc (sym q))) (λ q. inr q) (p.from l c e.1)) (given-cases g l c h);
        once = λ l m c h₁ h₂. two l m c (given-cases g l c h₁) (given-cases g m c h₂);
        unheld = λ l q. p.unheld l (given-free g l q).1;
        placed = λ c l q. inr (by_cases (ℕ_discrete c j) (λ (e : c ≡ j). rw e (gone (rw e at q))) (λ n₂. ⊎_elim (λ e. absurd (n₂ e)) (λ f. stays c n₂ f) (p.placed c l q)));
        moved = λ q. (k, g.here, λ h. absurd (ne (suc_inj (sym h ∙ held))));
      }
    where
      -- the holder has another item now
      gone : 0 < gain' j → (l : ℕ) × Holds after l j
      gone q = let (l, h, n₂) = p.moved q in (l, g.others l (λ e. n₂ (rw e held)) ∙ h)

      -- any other bidder has what it had
      stays : (c : ℕ) → c ≢ j → (l : ℕ) × Holds rest l c → (l : ℕ) × Holds after l c
      stays c n₂ (l, h) = (l, g.others l (λ e. n₂ (suc_inj (sym (rw e at h) ∙ kept))) ∙ h)

      -- what bidder i had in the rest of the path it had before
      stood : (l : ℕ) → Holds rest l i → Holds holder l i
      stood l h =
          ⊎_elim
          (λ e. absurd (ne e))
          (λ q. ⊎_elim (λ e. rw e q.1) (λ e. absurd (ne e.0)) (p.once l q.0 i h (mine q.0 q.1)))
          (p.from l i h)

      -- two places other than the item
      apart : (l m c : ℕ) → l ≢ k → m ≢ k → Holds rest l c → Holds rest m c → l ≡ m
      apart l m c n₁ n₂ h₁ h₂ =
          ⊎_elim
          (λ e. e)
          (λ q. absurd (⊎_elim (λ h. n₁ (s.held.once l k j (h ∙ ap suc q.0) held)) (λ h. n₂ (s.held.once m k j (h ∙ ap suc q.0) held)) q.1))
          (p.once l m c h₁ h₂)

      two : (l m c : ℕ) → ((l ≡ k) × (c ≡ i)) ⊎ ((l ≢ k) × Holds rest l c) → ((m ≡ k) × (c ≡ i)) ⊎ ((m ≢ k) × Holds rest m c)
          → (l ≡ m) ⊎ ((c ≡ i) × (Holds holder l c ⊎ Holds holder m c))
      two l m c (inl e) (inl f) = inl (e.0 ∙ sym f.0)
      two l m c (inl e) (inr f) = inr (e.1, inr (rw e.1 (stood m (rw e.1 at f.1))))
      two l m c (inr e) (inl f) = inr (f.1, inl (rw f.1 (stood l (rw f.1 at e.1))))
      two l m c (inr e) (inr f) = inl (apart l m c e.0 f.0 e.1 f.1)

  pub shifted : {Tight : ℕ → ℕ → Type 0} {Idle : ℕ → Type 0} → ((i k : ℕ) → Tight i k → TightEdge w price' gain' i k) → ((i : ℕ) → Idle i → gain' i ≡ 0)
      → (i : ℕ) (after : ℕ → ℕ) → Path Tight Idle holder i after → Shifted i after
  shifted f g i after (released x e) = at-released (g i x) e
  shifted f g i after (free k l x z d) = at-free k l (f i k x) z d
  shifted f g i after (onward k j rest x h p ne kept mine d) = at_held k j rest (f i k x) h (shifted f g j rest p) ne kept mine d
