-- A bid as a change of the board's cells: its matching, prices and gains after it, and that its form is kept.
use mathlib.Core.Path.{◌≡◌, sym, ap, ◌∙◌}
use mathlib.Core.Logic.{◌≢◌}
use Prim.Native.Nat.{ℕ, suc, ◌≤◌, ◌<◌}
use native.Mathlib.Omega.{arith}
use lib.ListN.{length, set, length-set}
use lib.Seq.{get_or-set_other, set_out, set_comm}
use Rattle.duality.specs.Sums.{upd}
use Rattle.duality.proofs.Decide.{clash}
use Rattle.duality.proofs.Exchange.{Holder, swapped, moved}
use Rattle.board.specs.declared.record.Auction.{Auction}
use Rattle.board.specs.Cells.{scaled, scaled_at, price_at, gain_at, withdrawn_at}
use Rattle.board.specs.Live.{live, matching_of}
use Rattle.bidding.specs.Rule.{placed_at, displaced}
use Rattle.bidding.proofs.Matchings.{Names, upd-zero, names-are, named_by, taken-over}
use Rattle.bidding.proofs.Frame.{Framed, scaled-other, scaled-set, scaled-clear, live-is}

-- A bidder's gain becomes 0
pub gain-displaced : (b : Auction) (x : ℕ) → gain_at (displaced b x) ≡ upd x 0 (gain_at b)
unfolding displaced
gain-displaced b x = scaled-clear b.state.gain x

-- Of no bidder nothing does
pub displaced-none : (b : Auction) (x : ℕ) → length b.state.gain ≤ x → displaced b x ≡ b
unfolding displaced
displaced-none b x l = rw (set_out b.state.gain x (scaled 0))

pub framed-displaced : {b : Auction} → Framed b → (x : ℕ) → Framed (displaced b x)
unfolding displaced
framed-displaced {b} f x =
    record {
      formed = omega (arith, length-set b.state.gain x (scaled 0));
      items = f.items;
      arrived = f.arrived;
      slack = f.slack;
      weights = f.weights;
      flags = f.flags;
      unused = record {
        price = f.unused.price;
        holder = f.unused.holder;
        withdrawn = f.unused.withdrawn;
        weight = f.unused.weight;
        gain = λ j l m. ap (λ g. g j) (scaled-clear b.state.gain x) ∙ upd-zero x (gain_at b) j (f.unused.gain j l m);
        row = f.unused.row;
      };
      names = f.names;
      withdrawn = f.withdrawn;
    }

-- Bidder i + 1 has item k + 1
module _ {b : Auction} (f : Framed b) {i k : ℕ} (li : i < b.market.arrived) (lk : k < b.market.items) (g y : ℕ) where
  pub price-placed : price_at (placed_at b i k g y) ≡ upd k y (price_at b)
  unfolding placed_at
  price-placed = scaled-set b.state.price k y (omega arith)

  -- and x none
  pub gain-moved : {x : ℕ} → x ≢ i → gain_at (displaced (placed_at b i k g y) x) ≡ moved i g x (gain_at b)
  unfolding placed_at displaced
  gain-moved {x} ne =
      ap scaled_at (set_comm b.state.gain i x (scaled g) (scaled 0) (λ e. ne (sym e))) ∙
      (scaled-set (set b.state.gain x (scaled 0)) i g (simp length-set (omega arith)) ∙ ap (λ v. upd i g v) (scaled-clear b.state.gain x))

  module _ {x : ℕ} (away : matching_of b i ≡ 0) (h : Holder b.market.arrived k x (matching_of b)) where
    names-placed : Names (set b.state.holder k (suc i)) b.market.arrived b.market.items (swapped i k x (matching_of b))
    names-placed = taken-over f.names (omega arith) lk li h away

    pub matching-placed : matching_of (placed_at b i k g y) ≡ swapped i k x (matching_of b)
    unfolding placed_at
    matching-placed = names-are names-placed

    pub framed-placed : 0 < live b i k → Framed (placed_at b i k g y)
    unfolding placed_at
    framed-placed hw =
        record {
          formed = omega (arith, length-set b.state.price k (scaled y), length-set b.state.holder k (suc i), length-set b.state.gain i (scaled g));
          items = f.items;
          arrived = f.arrived;
          slack = f.slack;
          weights = f.weights;
          flags = f.flags;
          unused = record {
            price = λ j l m. scaled-other b.state.price k y j (omega arith) ∙ f.unused.price j l m;
            holder = λ j l m. get_or-set_other b.state.holder k j (suc i) 0 (omega arith) ∙ f.unused.holder j l m;
            withdrawn = f.unused.withdrawn;
            weight = f.unused.weight;
            gain = λ j l m. scaled-other b.state.gain i g j (omega arith) ∙ f.unused.gain j l m;
            row = f.unused.row;
          };
          names = named_by names-placed;
          withdrawn = λ j l e. scaled-other b.state.price k y j (λ q. clash _ (sym (ap (withdrawn_at b) q) ∙ e) (live-is _ _ hw).0) ∙ f.withdrawn j l e;
        }
