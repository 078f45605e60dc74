-- A bid keeps the board sound but for those that wait.
use mathlib.Core.Path.{◌≡◌, refl, sym, ap, ◌∙◌}
use mathlib.Core.Logic.{◌↔◌, ◌≢◌, ◌⊎◌, inl, inr, ⊎_elim, ⊎_map, by_cases}
use Prim.Native.Nat.{ℕ, zero, suc, ◌+◌, ◌-◌, ◌*◌, ◌≤◌, ◌<◌}
use native.Mathlib.Nat.{sub-add_cancel, add-mul, le_refl}
use native.Mathlib.Decide.{dec_lt}
use native.Mathlib.Omega.{arith}
use lib.ListN.{length, length-set}
use Rattle.duality.specs.Steps.{utility, Open}
use Rattle.duality.proofs.Sums.{upd-all}
use Rattle.duality.proofs.Exchange.{Holder, swap-ne}
use Rattle.duality.proofs.Bid.{Bid, stays_out, bids}
use Rattle.board.specs.declared.record.Auction.{Auction}
use Rattle.board.specs.declared.record.Holder.TheVariants.{Held, Free}
use Rattle.board.specs.Cells.{price_at, holder_of}
use Rattle.board.specs.Live.{live, matching_of}
use Rattle.bidding.specs.Rule.{NoneOpen, placed_at, displaced}
use Rattle.bidding.specs.Waiting.{SoundBut, Admissible}
use Rattle.bidding.specs.RuleLaws.{PairsWhole, RuleAdmissible, FreeBidSound, HeldBidSound}
use Rattle.bidding.proofs.Choices.{second-within}
use Rattle.bidding.proofs.Matchings.{holds, unheld}
use Rattle.bidding.proofs.Frame.{waits-or, framed, settled-for, sound-but, sound-as, open-edge}
use Rattle.bidding.proofs.Placed.{displaced-none, framed-displaced, price-placed, gain-moved, matching-placed, framed-placed}

-- What a holder's cell says
pub cell_free : (c : ℕ) → holder_of c ≡ Free → c ≡ 0
cell_free zero e = refl
cell_free (suc i) e = let z : ◌≡◌ {A = ℕ} 0 1 = cc in absurd (omega arith)

pub cell-held : (c x : ℕ) → holder_of c ≡ Held x → c ≡ suc x
cell-held zero x e = let z : ◌≡◌ {A = ℕ} 0 1 = cc in absurd (omega arith)
cell-held (suc i) x e = let h : i ≡ x = cc in ap suc h

-- A factor, parted
pub split : {p q : ℕ} → p ≤ q → (v : ℕ) → q * v ≡ (q - p) * v + p * v
split {p} {q} h v = ap (λ z. z * v) (sym (sub-add_cancel h)) ∙ add-mul (q - p) p v

-- Those that wait may be named otherwise, as far as they have arrived
pub waits-as : {waits waits' : ℕ → Type 0} {b : Auction} → ((h : ℕ) → h < b.market.arrived → waits h ↔ waits' h) → SoundBut waits b → SoundBut waits' b
waits-as same s =
    let r = settled-for s in
    sound-but (framed s) (record {
      matches = s.matches;
      tight = s.tight;
      covers = λ i k l lk hw. ⊎_map (λ q n. q (λ v. n ((same i l).0 v))) (λ c. c) (r.covers i k l lk hw);
      away = λ i l q. r.away i l (λ n. q (λ v. n ((same i l).1 v)));
    })

-- The rule's bid is whole, and admissible
pub pairs-whole : PairsWhole
pairs-whole p q m w y k s c r = omega (arith, c.«open», second-within p q m w y k s c r)

pub rule-admissible : RuleAdmissible
rule-admissible b i k s c r =
    record { item = c.item; «open» = c.«open»; whole = pairs-whole _ _ _ _ _ k s c r; rises = omega arith; others = r.greatest }

-- Bidder i + 1 is to bid, and others wait
module _ {waits : ℕ → Type 0} {b : Auction} {i : ℕ} (s : SoundBut (λ h. waits h ⊎ (h ≡ i)) b) (li : i < b.market.arrived) (rests : waits i → ⊥) where
  here : ¬ ¬ (waits i ⊎ (i ≡ i))
  here n = n (inr refl)

  slack-le : b.market.slack.p ≤ b.market.slack.q
  slack-le = omega (arith, s.slack.below)

  others : (h : ℕ) → (¬ ¬ waits h) ↔ ((h ≢ i) × ¬ ¬ (waits h ⊎ (h ≡ i)))
  others h = (λ q. (λ (e : h ≡ i). q (λ v. rests (rw e at v)), λ n. q (λ v. n (inl v))), λ r n. r.1 (⊎_elim n r.0))

  -- A bidder with no open edge stays out
  pub stays-sound : NoneOpen b.market.slack.p b.market.slack.q b.market.items (live b i) (price_at b) → SoundBut waits b
  stays-sound none =
      sound-but (framed s) (stays_out (settled-for s) li here _
      (λ j l. let shut : ¬ Open b.market.slack.p b.market.slack.q (live b i j) (price_at b j) = none j l in omega (arith, split slack-le (live b i j)))
      (λ h l. others h))

  module _ {k g y : ℕ} (a : Admissible b i k g y) where
    bid : Bid b.market.items (live b) (b.market.slack.q - b.market.slack.p) (b.market.slack.q + b.market.slack.p) (price_at b) i k g y
    bid =
        record {
          item = a.item;
          edge = open-edge _ _ _ _ a.«open»;
          shares = a.whole;
          rises = omega (arith, a.rises);
          row = λ j l hw. upd-all (λ j v. j < b.market.items → (b.market.slack.q - b.market.slack.p) * live b i j ≤ g + v) k y (price_at b)
              (λ l. omega (arith, a.whole, split slack-le (live b i k)))
              (λ j ne l. by_cases (dec_lt (b.market.slack.p * live b i j) (utility b.market.slack.q (live b i j) (price_at b j)))
              (λ o. omega (arith, a.others j l ne o, split slack-le (live b i j)))
              (λ shut. omega (arith, split slack-le (live b i j))))
              j l;
        }

    -- After an admissible bid x waits, who held the item, or nobody more where x is no bidder
    pub bid-sound : {x : ℕ} → Holder b.market.arrived k x (matching_of b) → SoundBut (λ h. waits h ⊎ (h ≡ x)) (displaced (placed_at b i k g y) x)
    unfolding placed_at displaced
    bid-sound {x} h =
        let f = framed s in
        let away = (settled-for s).away i li here in
        let ne : x ≢ i = swap-ne li away h in
        sound-as (framed-displaced (framed-placed f li a.item g y away h bid.edge) x)
        refl (matching-placed f li a.item g y away h) (price-placed f li a.item g y) (gain-moved f li a.item g y ne)
        (bids (settled-for s) li here _ bid h
        (λ h l. let o = waits-or (waits h) h x in (λ q. ⊎_map (λ e. e) (others h).0 (o.0 q), λ r. o.1 (⊎_map (λ e. e) (others h).1 r))))

pub free-bid-sound : FreeBidSound
unfolding placed_at
free-bid-sound waits b i k g y s li rests a e =
    let x : ℕ = length b.state.gain in
    let out : b.market.arrived ≤ x = omega (arith, s.formed.gains, s.arrived) in
    waits-as (λ h l. (⊎_elim (λ v. v) (λ (q : h ≡ x). absurd (omega arith)), inl))
    (rw (displaced-none (placed_at b i k g y) x (simp length-set (le_refl x))) at (bid-sound s li rests a (unheld (framed s).names (cell_free _ e) out)))

pub held-bid-sound : HeldBidSound
unfolding placed_at displaced
held-bid-sound waits b i k x g y s li rests a e =
    let c = cell-held _ x e in
    let u = s.holders k x a.item c in
    record {
      bidder = u.0;
      new = λ v. omega (arith, u.1, s.away x u.0 (inl v));
      sound = bid-sound s li rests a (holds (framed s).names a.item c);
    }
