-- The marks of those who held an item of a list, as a loop puts them.
use mathlib.Core.Path.{◌≡◌, refl, sym, ◌∙◌}
use mathlib.Core.Logic.{by_cases}
use mathlib.Core.Bool.{Bool, true, false, or-true, or-false}
use mathlib.Core.List.{List}
use Prim.Native.Nat.{ℕ, zero, suc, ◌-◌, ◌≤◌, ◌<◌}
use native.Mathlib.Nat.{suc_inj}
use native.Mathlib.Decide.{ℕ_discrete}
use native.Mathlib.Omega.{arith}
use lib.ListN.{length, set, replicate}
use lib.Seq.{get_or-set_same, get_or-set_other}
use borrow.Author.Tests.{eq-eqb, ne_eqb}
use Rattle.board.specs.declared.record.Auction.{Auction}
use Rattle.board.specs.Limits.{max_bidders}
use Rattle.board.specs.Cells.{holder_at}
use Rattle.board.specs.Sound.{Sound}
use Rattle.bidding.specs.Rule.{displaced}
use Rattle.bidding.specs.Moves.{released}
use Rattle.bidding.specs.Waiting.{SoundBut}
use Rattle.bidding.specs.Withdrawals.{displaced_if, vacated, vacated_to, named_in, holds_named, marked, Vacates}
use Rattle.bidding.specs.WithdrawalLaws.{Listed}
use Rattle.board.proofs.Filling.{blank}
use Rattle.bidding.proofs.Bids.{waits-as}
use Rattle.bidding.proofs.Vacating.{Stage, stage, now-leaves}

-- One item more leaves, and its holder, if any, is marked
module _ {b₀ : Auction} (s₀ : Sound b₀) {item : ℕ → ℕ} {n : ℕ} (l : Listed b₀ item (suc n)) {b : Auction} {waiting : List Bool} (v : Vacates b₀ item n b waiting) where
  before : Stage b₀ item n
  before = stage s₀ item n (λ i k. l i (omega arith))

  last : (1 ≤ item n) × (item n ≤ b₀.market.items)
  last = let u = l n (omega arith) in (u.low, u.high)

  pub marked-free : holder_at b (item n - 1) ≡ 0 → Vacates b₀ item (suc n) (released b (item n - 1)) waiting
  unfolding vacated_to vacated displaced_if
  marked-free e =
      let f : holder_at (vacated_to b₀ item n) (item n - 1) ≡ 0 = rw v.board at e in
      record {
        board = rw (v.board, f) refl;
        marks = λ h m. v.marks h m ∙ (sym (or-false _) ∙ sym (now-leaves s₀ item n before last h m ∙ rw (f, ne_eqb 0 (suc h) (λ q. omega (arith, q))) refl));
      }

  pub marked-held : (x : ℕ) → holder_at b (item n - 1) ≡ suc x → x < length waiting →
      Vacates b₀ item (suc n) (displaced (released b (item n - 1)) x) (set waiting x true)
  unfolding vacated_to vacated displaced_if
  marked-held x e fits =
      let f : holder_at (vacated_to b₀ item n) (item n - 1) ≡ suc x = rw v.board at e in
      record {
        board = rw (v.board, f) refl;
        marks = λ h m. by_cases (ℕ_discrete h x)
            (λ (q : h ≡ x). rw (q, get_or-set_same waiting x true false fits) (sym (now-leaves s₀ item n before last x (rw q at m) ∙ rw (f, eq-eqb (suc x) (suc x) refl) (or-true (holds_named b₀ item n x)))))
            (λ ne. rw (get_or-set_other waiting x h true false ne) (v.marks h m ∙ (sym (or-false _) ∙ sym (now-leaves s₀ item n before last h m
            ∙ rw (f, ne_eqb (suc x) (suc h) (λ q. ne (sym (suc_inj q)))) refl))));
      }

  -- The cells that it reads and writes
  pub left-cell : item n - 1 < b₀.market.items
  left-cell = omega (arith, last)

  pub left-bidder : holder_at b (item n - 1) ≤ b₀.market.arrived
  left-bidder = go (holder_at b (item n - 1)) refl
    where
      go : (c : ℕ) → holder_at b (item n - 1) ≡ c → c ≤ b₀.market.arrived
      go zero e = omega arith
      go (suc x) e =
          let t = before in
          let u = t.sound.holders (item n - 1) x (omega (arith, last, t.all.items)) (rw v.board at e) in
          omega (arith, u.0, t.all.arrived)

pub marked-none : {b : Auction} (item : ℕ → ℕ) → Vacates b item 0 b (replicate max_bidders false)
unfolding vacated_to named_in
marked-none item = record { board = refl; marks = λ h l. rw (blank {A = Bool} max_bidders h false) refl }

-- All marked bidders wait
pub marked-wait : {b₀ : Auction} (s₀ : Sound b₀) {item : ℕ → ℕ} {n : ℕ} → Listed b₀ item n → {b : Auction} {waiting : List Bool} → Vacates b₀ item n b waiting →
    SoundBut (λ h. marked waiting h ≡ true) b
marked-wait s₀ {item} {n} l {b} {waiting} v =
    let t = stage s₀ item n l in
    rw v.board (waits-as (λ h m. let e = v.marks h (omega (arith, m, t.all.arrived)) in (λ q. e ∙ q, λ q. sym e ∙ q)) t.sound)
