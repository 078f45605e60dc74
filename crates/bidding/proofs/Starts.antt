-- An arrival and a withdrawal begin a chain: the board is sound but for the bidder that is to bid.
use mathlib.Core.Path.{◌≡◌, refl, sym, ap, ◌∙◌, fun_ext}
use mathlib.Core.Logic.{◌≢◌, ◌⊎◌, inl, inr, ⊎_elim, ⊎_map, by_cases}
use mathlib.Core.Bool.{Bool, true, false}
use mathlib.Core.List.{List}
use Prim.Native.Nat.{ℕ, zero, suc, ◌+◌, ◌≤◌, ◌<◌, ◌*◌}
use native.Mathlib.Nat.{le_refl, suc_inj}
use native.Mathlib.Decide.{ℕ_discrete}
use native.Mathlib.Omega.{arith}
use lib.ListN.{length, get_or, set, length-set}
use lib.Seq.{get_or-set_same, get_or-set_other, length-sets}
use Rattle.duality.specs.Sums.{upd}
use Rattle.duality.proofs.Below.{one_more}
use Rattle.duality.proofs.Decide.{clash}
use Rattle.duality.proofs.Sums.{upd-all}
use Rattle.duality.proofs.Exchange.{Holder}
use Rattle.board.specs.declared.record.Auction.{Auction}
use Rattle.board.specs.Limits.{max_bidders, max_weight, max_items}
use Rattle.board.specs.Cells.{scaled, flag_at, price_at, gain_at, holder_at, holder_of, row_at}
use Rattle.board.specs.Live.{live, matching_of}
use Rattle.board.specs.Sound.{Sound}
use Rattle.bidding.specs.Rule.{displaced}
use Rattle.bidding.specs.Moves.{entered, released}
use Rattle.bidding.specs.Withdrawals.{displaced_if, vacated}
use Rattle.bidding.specs.Waiting.{SoundBut, Ready, RowFits}
use Rattle.bidding.proofs.Waiting.{sound-is-settled}
use Rattle.bidding.proofs.Matchings.{Names, names-are, named_by, holds, unheld, cleared}
use Rattle.bidding.proofs.Leaving.{leaves}
use Rattle.bidding.proofs.Frame.{Framed, waits-or, framed, settled-for, sound-as, scaled-other, scaled-clear, row_kept, row_new}
use Rattle.bidding.proofs.Placed.{gain-displaced, displaced-none, framed-displaced}
use Rattle.bidding.proofs.Bids.{waits-as}

-- ---- A new bidder

pub arrival-sound : {waits : ℕ → Type 0} {b : Auction} {row : List ℕ} → SoundBut waits b → b.market.arrived < max_bidders → RowFits b.market.items row →
    SoundBut (λ h. waits h ⊎ (h ≡ b.market.arrived)) (entered b row)
unfolding entered
arrival-sound {waits} {b} {row} s room r =
    record {
      formed = omega (arith, s.formed, length-sets b.weights (b.market.arrived * max_items) row);
      items = s.items;
      arrived = omega arith;
      slack = s.slack;
      weights = λ i k l lk. each (λ ws. get_or ws k 0 ≤ max_weight) i l (λ h. s.weights i k h lk) (r.limit k lk);
      flags = s.flags;
      unused = record {
        price = s.unused.price;
        holder = s.unused.holder;
        withdrawn = s.unused.withdrawn;
        weight = λ i k l lk m. each (λ ws. get_or ws k 0 ≡ 0) i l (λ h. s.unused.weight i k h lk m) (r.bare k lk m);
        gain = λ i l m. s.unused.gain i (omega arith) m;
        row = λ i k l m n. rw (row_kept b row i r.sized (omega arith)) (s.unused.row i k (omega arith) m n);
      };
      holders = λ k i lk e. let u = s.holders k i lk e in (omega arith, u.1);
      matches = record {
        along = λ i k l e. let o = old i k e in rw (row_kept b row i r.sized (omega arith)) (s.matches.along i k o e);
        once = λ h i k l₁ l₂ e₁ e₂. s.matches.once h i k (old h k e₁) (old i k e₂) e₁ e₂;
      };
      tight = record {
        placed = λ i k l e. let o = old i k e in rw (row_kept b row i r.sized (omega arith)) (s.tight.placed i k o e);
        unplaced = λ i l. one_more b.market.arrived (λ i. matching_of b i ≡ 0 → gain_at b i ≡ 0) s.tight.unplaced (λ e. s.unused.gain b.market.arrived (le_refl _) room) i (omega arith);
        unheld = λ k l none. s.tight.unheld k l (λ i li e. none i (omega arith) e);
      };
      withdrawn = s.withdrawn;
      covers = λ i k l rests lk hw.
          let ne : i ≢ b.market.arrived = λ e. rests (inr e) in
          rw (row_kept b row i r.sized ne) (s.covers i k (omega arith) (λ v. rests (inl v)) lk (rw (row_kept b row i r.sized ne) at hw));
      away = λ i l. by_cases (ℕ_discrete i b.market.arrived)
          (λ (e : i ≡ b.market.arrived) v. rw e none)
          (λ ne. ⊎_elim (λ v. s.away i (omega arith) v) (λ e. absurd (ne e)));
    }
  where
    old : (i k : ℕ) → matching_of b i ≡ suc k → i < b.market.arrived
    old i k e = let u = (framed s).names.cell i k e in (s.holders k i u.0 u.1).0

    none : matching_of b b.market.arrived ≡ 0
    none = go (matching_of b b.market.arrived) refl
      where
        go : (c : ℕ) → matching_of b b.market.arrived ≡ c → matching_of b b.market.arrived ≡ 0
        go zero e = e
        go (suc k) e = absurd (omega (arith, old b.market.arrived k e))

    each : (P : List ℕ → Type 0) (i : ℕ) → i < b.market.arrived + 1 → (i < b.market.arrived → P (row_at b i)) → P row → P (row_at (entered b row) i)
    each P i l f p =
        by_cases (ℕ_discrete i b.market.arrived)
        (λ (e : i ≡ b.market.arrived). rw (e, row_new b row r.sized s.formed room) p)
        (λ ne. rw (row_kept b row i r.sized ne) (f (omega arith)))

-- On a sound board nobody waits
nobody-waits : {b : Auction} → Sound b → SoundBut (λ h. ◌≡◌ {A = Bool} false true) b
nobody-waits {b} s = waits-as (λ h l. (λ v. absurd v, λ e. clash false e refl)) ((sound-is-settled b).0 s)

pub arrival-ready : {b : Auction} {row : List ℕ} → Sound b → b.market.arrived < max_bidders → RowFits b.market.items row → Ready (entered b row) b.market.arrived
unfolding entered
arrival-ready {b} s room r = record { bidder = omega arith; others = λ h. false; new = refl; sound = arrival-sound (nobody-waits s) room r }

-- ---- A withdrawal
pub live-released : (b : Auction) (k : ℕ) → k < length b.market.withdrawn → live (released b k) ≡ (λ i. upd k 0 (live b i))
unfolding released
live-released b k l =
    fun_ext (λ i. fun_ext (upd-all (λ j v. live (released b k) i j ≡ v) k 0 (live b i)
    (rw (get_or-set_same b.market.withdrawn k 1 0 l))
    (λ j ne. rw (get_or-set_other b.market.withdrawn k j 1 0 ne))))

module _ {b : Auction} (f : Framed b) {k : ℕ} (lk : k < b.market.items) {x : ℕ} (h : Holder b.market.arrived k x (matching_of b)) where
  names-released : Names (set b.state.holder k 0) b.market.arrived b.market.items (upd x 0 (matching_of b))
  names-released = cleared f.names (omega arith) h

  pub matching-released : matching_of (released b k) ≡ upd x 0 (matching_of b)
  unfolding released
  matching-released = names-are names-released

  pub framed-released : Framed (released b k)
  unfolding released
  framed-released =
      record {
        formed = omega (arith, length-set b.state.price k (scaled 0), length-set b.state.holder k 0, length-set b.market.withdrawn k 1);
        items = f.items;
        arrived = f.arrived;
        slack = f.slack;
        weights = f.weights;
        flags = λ j l. by_cases (ℕ_discrete j k)
            (λ (e : j ≡ k). rw (e, get_or-set_same b.market.withdrawn k 1 0 (omega arith)) (omega arith))
            (λ ne. rw (get_or-set_other b.market.withdrawn k j 1 0 ne) (f.flags j l));
        unused = record {
          price = λ j l m. scaled-other b.state.price k 0 j (omega arith) ∙ f.unused.price j l m;
          holder = λ j l m. get_or-set_other b.state.holder k j 0 0 (omega arith) ∙ f.unused.holder j l m;
          withdrawn = λ j l m. get_or-set_other b.market.withdrawn k j 1 0 (omega arith) ∙ f.unused.withdrawn j l m;
          weight = f.unused.weight;
          gain = f.unused.gain;
          row = f.unused.row;
        };
        names = named_by names-released;
        withdrawn = λ j l. rw (scaled-clear b.state.price k) (upd-all (λ j v. j < b.market.items → flag_at (set b.market.withdrawn k 1) j ≡ true → v ≡ 0) k 0 (price_at b)
            (λ l e. refl)
            (λ j ne l e. f.withdrawn j l (rw (get_or-set_other b.market.withdrawn k j 1 0 ne) at e))
            j l);
      }

-- Whoever held the item, x, waits; nobody more where x is no bidder
pub withdrawal-sound : {waits : ℕ → Type 0} {b : Auction} → SoundBut waits b → {k x : ℕ} → k < b.market.items → Holder b.market.arrived k x (matching_of b) →
    SoundBut (λ h. waits h ⊎ (h ≡ x)) (displaced (released b k) x)
unfolding released displaced
withdrawal-sound {waits} {b} s {k} {x} lk h =
    let f = framed s in
    sound-as (framed-displaced (framed-released f lk h) x)
    (live-released b k (omega (arith, f.formed.flags, f.items))) (matching-released f lk h) (scaled-clear b.state.price k) (gain-displaced (released b k) x)
    (leaves (settled-for s) h _ (λ i l. waits-or (waits i) i x))

-- Whoever held an item that leaves waits, and nobody more where nobody did
pub vacated-sound : {waits : ℕ → Type 0} {b : Auction} → SoundBut waits b → {k : ℕ} → k < b.market.items → SoundBut (λ h. waits h ⊎ (holder_at b k ≡ suc h)) (vacated b k)
unfolding vacated displaced_if released
vacated-sound {waits} {b} s {k} lk = go (holder_at b k) refl
  where
    go : (c : ℕ) → holder_at b k ≡ c → SoundBut (λ h. waits h ⊎ (holder_at b k ≡ suc h)) (displaced_if (released b k) (holder_of c))
    go zero e =
        let x : ℕ = length b.state.gain in
        let out : b.market.arrived ≤ x = omega (arith, s.formed.gains, s.arrived) in
        waits-as (λ h l. (⊎_elim inl (λ (q : h ≡ x). absurd (omega arith)), ⊎_elim inl (λ q. absurd (omega (arith, e, q)))))
        (rw (displaced-none (released b k) x (le_refl x)) at (withdrawal-sound s lk (unheld (framed s).names e out)))
    go (suc x) e =
        waits-as (λ h l. (⊎_map (λ v. v) (λ (q : h ≡ x). e ∙ ap suc (sym q)), ⊎_map (λ v. v) (λ q. suc_inj (sym q ∙ e))))
        (withdrawal-sound s lk (holds (framed s).names lk e))
