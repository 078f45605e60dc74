-- Items leave, one after the other: what is left, and who waits.
use mathlib.Core.Path.{◌≡◌, refl, sym, ap, ap₂, ◌∙◌}
use mathlib.Core.Logic.{◌≢◌, ◌⊎◌, inl, inr, ⊎_elim, by_cases}
use mathlib.Core.Bool.{Bool, true, false, ◌||◌, or-true}
use mathlib.Core.List.{List}
use Prim.Native.Nat.{ℕ, zero, suc, ◌-◌, ◌≤◌, ◌<◌}
use native.Mathlib.Nat.{suc_inj, le_refl, le_trans}
use native.Mathlib.Decide.{ℕ_discrete}
use native.Mathlib.Omega.{arith}
use lib.ListN.{get_or, set}
use lib.Seq.{get_or-set_same, get_or-set_other}
use lib.Dec.{eqb}
use borrow.Author.Tests.{eqb-true, eq-eqb}
use Rattle.duality.specs.Sums.{upd}
use Rattle.duality.proofs.Decide.{clash, same_test, reword, eq-decides}
use Rattle.duality.proofs.Sums.{upd_same, upd_other}
use Rattle.board.specs.declared.record.Auction.{Auction}
use Rattle.board.specs.declared.record.Market.{Market}
use Rattle.board.specs.declared.record.Holder as told
use Rattle.board.specs.declared.record.Holder.TheVariants.{Held, Free}
use Rattle.board.specs.declared.units.Scaled.{Scaled}
use Rattle.board.specs.Cells.{flag_at, scaled_at, price_at, gain_at, holder_at, holder_of, withdrawn_at}
use Rattle.board.specs.Live.{held_by, matching_of}
use Rattle.board.specs.Sound.{Sound}
use Rattle.bidding.specs.Potential.{potential}
use Rattle.bidding.specs.Rule.{displaced}
use Rattle.bidding.specs.Moves.{released}
use Rattle.bidding.specs.Waiting.{SoundBut}
use Rattle.bidding.specs.Withdrawals.{displaced_if, vacated, vacated_to, named_in, holds_named}
use Rattle.bidding.specs.WithdrawalLaws.{Listed, AllGone, AllGo}
use Rattle.bidding.proofs.Waiting.{sound-is-settled}
use Rattle.bidding.proofs.Matchings.{holds, unheld}
use Rattle.bidding.proofs.Frame.{Framed, framed, scaled-clear}
use Rattle.bidding.proofs.Placed.{gain-displaced}
use Rattle.bidding.proofs.Bids.{waits-as}
use Rattle.bidding.proofs.Potentials.{potential-displaced, potential-released}
use Rattle.bidding.proofs.Starts.{matching-released, vacated-sound}

-- ---- One item

-- A displacement changes gains alone
record GainsAlone (b c : Auction) : Type 0 where
  market : c.market ≡ b.market
  weights : c.weights ≡ b.weights
  price : c.state.price ≡ b.state.price
  holder : c.state.holder ≡ b.state.holder
  potential : potential c ≡ potential b

gains-alone : (b : Auction) (h : told.Holder) → GainsAlone b (displaced_if b h)
unfolding displaced_if displaced
gains-alone b Free = record { market = refl; weights = refl; price = refl; holder = refl; potential = refl }
gains-alone b (Held x) = record { market = refl; weights = refl; price = refl; holder = refl; potential = potential-displaced b x }

module _ {b : Auction} (f : Framed b) {k : ℕ} (lk : k < b.market.items) where
  alone : GainsAlone (released b k) (vacated b k)
  unfolding vacated
  alone = gains-alone (released b k) (holder_of (holder_at b k))

  flag-left : (j : ℕ) → withdrawn_at (vacated b k) j ≡ flag_at (set b.market.withdrawn k 1) j
  unfolding released
  flag-left j = ap (λ (m : Market). flag_at m.withdrawn j) alone.market

  price-left : (j : ℕ) → price_at (vacated b k) j ≡ upd k 0 (price_at b) j
  unfolding released
  price-left j = ap (λ (ys : List Scaled). scaled_at ys j) alone.price ∙ ap (λ (y : ℕ → ℕ). y j) (scaled-clear b.state.price k)

  holder-left : (j : ℕ) → holder_at (vacated b k) j ≡ get_or (set b.state.holder k 0) j 0
  unfolding released
  holder-left j = ap (λ (hs : List ℕ). get_or hs j 0) alone.holder

  matching-left : (h : ℕ) → matching_of (vacated b k) h ≡ matching_of (released b k) h
  matching-left h = ap₂ (λ (hs : List ℕ) (m : Market). held_by hs m.items h) alone.holder alone.market

  -- The item's cells
  left_at : (withdrawn_at (vacated b k) k ≡ true) × (price_at (vacated b k) k ≡ 0) × (holder_at (vacated b k) k ≡ 0)
  left_at = (
    flag-left k ∙ rw (get_or-set_same b.market.withdrawn k 1 0 (omega (arith, f.formed.flags, f.items))),
    price-left k ∙ upd_same k 0 (price_at b),
    holder-left k ∙ get_or-set_same b.state.holder k 0 0 (omega (arith, f.formed.holders, f.items)),
  )

  -- Any other item's
  left_other : (j : ℕ) → j ≢ k → (withdrawn_at (vacated b k) j ≡ withdrawn_at b j) × (price_at (vacated b k) j ≡ price_at b j) × (holder_at (vacated b k) j ≡ holder_at b j)
  left_other j ne = (
    flag-left j ∙ rw (get_or-set_other b.market.withdrawn k j 1 0 ne),
    price-left j ∙ upd_other k 0 (price_at b) j ne,
    holder-left j ∙ get_or-set_other b.state.holder k j 0 0 ne,
  )

  -- Its holder, and any other bidder
  left-holder : (h : ℕ) → holder_at b k ≡ suc h → (matching_of (vacated b k) h ≡ 0) × (gain_at (vacated b k) h ≡ 0)
  unfolding vacated displaced_if
  left-holder h e =
      (matching-left h ∙ ap (λ (m : ℕ → ℕ). m h) (matching-released f lk (holds f.names lk e)) ∙ upd_same h 0 (matching_of b), rw e (ap (λ (g : ℕ → ℕ). g h) (gain-displaced (released b k) h) ∙ upd_same h 0 (gain_at (released b k))))

  left-rest : (h : ℕ) → h < b.market.arrived → (holder_at b k ≡ suc h → ⊥) → (matching_of (vacated b k) h ≡ matching_of b h) × (gain_at (vacated b k) h ≡ gain_at b h)
  unfolding vacated displaced_if released
  left-rest h l ne = go (holder_at b k) refl
    where
      go : (c : ℕ) → holder_at b k ≡ c → (matching_of (vacated b k) h ≡ matching_of b h) × (gain_at (vacated b k) h ≡ gain_at b h)
      go zero e =
          let x : ℕ = b.market.arrived in
          (matching-left h ∙ ap (λ (m : ℕ → ℕ). m h) (matching-released f lk (unheld f.names e (le_refl x))) ∙ upd_other x 0 (matching_of b) h (omega arith), rw e refl)
      go (suc x) e =
          let other : h ≢ x = λ q. ne (e ∙ ap suc (sym q)) in (
            matching-left h ∙ ap (λ (m : ℕ → ℕ). m h) (matching-released f lk (holds f.names lk e)) ∙ upd_other x 0 (matching_of b) h other,
            rw e (ap (λ (g : ℕ → ℕ). g h) (gain-displaced (released b k) x) ∙ upd_other x 0 (gain_at b) h other),
          )

  left-counted : potential b ≤ potential (vacated b k)
  left-counted = omega (arith, alone.potential, potential-released f lk)

-- ---- The items of a list

or-either : (s t : Bool) → s || t ≡ true → (s ≡ true) ⊎ (t ≡ true)
or-either true t e = inl refl
or-either false t e = inr e

or-neither : (s t : Bool) → s || t ≡ false → (s ≡ false) × (t ≡ false)
or-neither true t e = absurd (clash true refl e)
or-neither false t e = (refl, e)

-- After the first n items of the list
pub record Stage (b₀ : Auction) (item : ℕ → ℕ) (n : ℕ) : Type 0 where
  pub sound : SoundBut (λ h. holds_named b₀ item n h ≡ true) (vacated_to b₀ item n)
  pub all : AllGone b₀ item n (vacated_to b₀ item n)
  pub counted : potential b₀ ≤ potential (vacated_to b₀ item n)

module _ {b₀ : Auction} (s₀ : Sound b₀) (item : ℕ → ℕ) where
  first : SoundBut (λ h. ⊥) b₀
  first = (sound-is-settled b₀).0 s₀

  stage-none : Stage b₀ item 0
  unfolding vacated_to named_in
  stage-none =
      record {
        sound = waits-as (λ h l. (λ v. absurd v, λ e. clash false e refl)) first;
        all = record {
          gone = λ k l e. absurd (clash false e refl);
          others = λ k e. (refl, refl, refl);
          holders = λ h l e. absurd (clash false e refl);
          kept = λ h l e. (refl, refl);
          items = refl;
          arrived = refl;
          slack = refl;
          weights = refl;
        };
        counted = le_refl _;
      }

  module _ (n : ℕ) (t : Stage b₀ item n) (w : (1 ≤ item n) × (item n ≤ b₀.market.items)) where
    abbrev k : ℕ
    k = item n - 1

    abbrev b : Auction
    b = vacated_to b₀ item n

    number : item n ≡ suc k
    number = omega (arith, w)

    lk : k < b.market.items
    lk = omega (arith, w, t.all.items)

    -- Those who hold an item of the list and one more: the new ones hold the last, now as at first
    pub now-leaves : (h : ℕ) → h < b₀.market.arrived → holds_named b₀ item (suc n) h ≡ holds_named b₀ item n h || eqb (holder_at b k) (suc h)
    unfolding named_in
    now-leaves h l = go (holds_named b₀ item n h) refl
      where
        onward : holds_named b₀ item n h ≡ false → item n ≡ matching_of b₀ h → holder_at b k ≡ suc h
        onward q e =
            let m : matching_of b₀ h ≡ suc k = sym e ∙ number in
            (t.all.others k (ap (named_in item n) (sym m) ∙ q)).2 ∙ ((framed first).names.cell h k m).1

        back : (v : Bool) → named_in item n (suc k) ≡ v → holder_at b k ≡ suc h → item n ≡ matching_of b₀ h
        back true q e = absurd (omega (arith, e, (t.all.gone k (omega (arith, lk, t.all.items)) q).2))
        back false q e = number ∙ sym (first.holders k h (omega (arith, lk, t.all.items)) (sym (t.all.others k q).2 ∙ e)).1

        go : (v : Bool) → holds_named b₀ item n h ≡ v → v || eqb (item n) (matching_of b₀ h) ≡ v || eqb (holder_at b k) (suc h)
        go true q = refl
        go false q = same_test _ _ (eq-decides (item n) (matching_of b₀ h)) (reword (eq-decides (holder_at b k) (suc h)) (back _ refl) (onward q))

    f : Framed b
    f = framed t.sound

    market : (vacated b k).market ≡ (released b k).market
    market = (alone f lk).market

    stage-on : Stage b₀ item (suc n)
    unfolding vacated_to named_in released
    stage-on =
        record {
          sound = waits-as (λ h l. let m = here h l in (
            λ v. now-leaves h m ∙ ⊎_elim (λ e. rw e refl) (λ e. rw (eq-eqb (holder_at b k) (suc h) e) (or-true (holds_named b₀ item n h))) v,
            λ e. ⊎_elim inl (λ q. inr (eqb-true (holder_at b k) (suc h) q)) (or-either _ _ (sym (now-leaves h m) ∙ e)),
          )) (vacated-sound t.sound lk);
          all = record {
            gone = λ j l e. by_cases (ℕ_discrete j k)
                (λ (q : j ≡ k). rw q (left_at f lk))
                (λ ne. let o = left_other f lk j ne in
                let u = t.all.gone j l (⊎_elim (λ q. q) (λ q. absurd (ne (suc_inj (sym (eqb-true (item n) (suc j) q) ∙ number)))) (or-either _ _ e)) in
                (o.0 ∙ u.0, o.1 ∙ u.1, o.2 ∙ u.2));
            others = λ j e.
                let v = or-neither _ _ e in
                let o = left_other f lk j (λ q. clash _ (eq-eqb (item n) (suc j) (number ∙ ap suc (sym q))) v.1) in
                let u = t.all.others j v.0 in
                (o.0 ∙ u.0, o.1 ∙ u.1, o.2 ∙ u.2);
            holders = λ h l e. by_cases (ℕ_discrete (holder_at b k) (suc h))
                (λ q. left-holder f lk h q)
                (λ ne. let o = left-rest f lk h (omega (arith, l, t.all.arrived)) ne in
                let u = t.all.holders h l (⊎_elim (λ q. q) (λ q. absurd (ne (eqb-true _ _ q))) (or-either _ _ (sym (now-leaves h l) ∙ e))) in
                (o.0 ∙ u.0, o.1 ∙ u.1));
            kept = λ h l e.
                let v = or-neither _ _ (sym (now-leaves h l) ∙ e) in
                let o = left-rest f lk h (omega (arith, l, t.all.arrived)) (λ q. clash _ (eq-eqb (holder_at b k) (suc h) q) v.1) in
                let u = t.all.kept h l v.0 in
                (o.0 ∙ u.0, o.1 ∙ u.1);
            items = ap (λ (m : Market). m.items) market ∙ t.all.items;
            arrived = ap (λ (m : Market). m.arrived) market ∙ t.all.arrived;
            slack = ap (λ (m : Market). m.slack) market ∙ t.all.slack;
            weights = (alone f lk).weights ∙ t.all.weights;
          };
          counted = le_trans t.counted (left-counted f lk);
        }
      where
        here : (h : ℕ) → h < (vacated b k).market.arrived → h < b₀.market.arrived
        here h l = omega (arith, l, ap (λ (m : Market). m.arrived) market, t.all.arrived)

  pub stage : (n : ℕ) → Listed b₀ item n → Stage b₀ item n
  stage zero w = stage-none
  stage (suc n) w = let v = w n (omega arith) in stage-on n (stage n (λ i l. w i (omega arith))) (v.low, v.high)

pub all_go : AllGo
all_go b item n s w = (stage s item n w).all
