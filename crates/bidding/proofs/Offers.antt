-- The leader of step 2, after an edge has been offered to it. An edge of weight w at price y has a utility over the bar where y + bar < q × w.
use mathlib.Core.Path.{◌≡◌, refl, ap, ◌∙◌}
use mathlib.Core.Bool.{Bool, true, false, cond}
use Prim.Native.Nat.{ℕ, zero, suc, ◌+◌, ◌-◌, ◌*◌, ◌<◌, ◌≤◌, max}
use native.Mathlib.Nat.{mul-le-mul}
use native.Mathlib.Numerals.{add-one}
use native.Mathlib.Omega.{arith}
use lib.Dec.{eqb, ltb}
use borrow.Author.Tests.{eqb-true, eqb-false, ltb-true, lt-ltb, le-ltb, eq-eqb, ne_eqb}
use Rattle.duality.specs.Steps.{utility}
use Rattle.board.specs.declared.units.Pence.{Pence}
use Rattle.board.specs.declared.units.Scaled.{Scaled}
use Rattle.board.specs.Cells.{scaled}
use Rattle.bidding.specs.declared.rule.Best.{Best}
use Rattle.std.proofs.Common.{Option, Some, None}
use Rattle.bidding.specs.Rule.{best_edge, ranked}
use Rattle.bidding.specs.Slides.{take_of, pick_of}
use Rattle.bidding.specs.Leader.{second_in, edge_of, LeaderFits, Rounds, Offered, Rates, rated_weight}

-- What a bar stands for
pub second-some : (bar : ℕ) → (bar ≡ 0 → ⊥) → bar + 1 ≡ second_in bar
second-some bar ne = rw (ne_eqb bar 0 ne) refl

-- An edge with a weight
has-weight : (q w y bar : ℕ) → y + bar < q * w → 0 < w
has-weight q zero y bar l = absurd (omega arith)
has-weight q (suc w) y bar l = omega arith

-- The edge is passed over where its utility is not over the bar
pub take_below : (q k w y j : ℕ) (v : Pence) (g : Scaled) (bar : ℕ) → LeaderFits v.0 g.0 bar → Offered q w y → q * w ≤ y + bar →
    edge_of j v g bar ≡ take_of q k w y (edge_of j v g bar)
unfolding take_of
take_below q k w y j v g bar h o l = go (ltb 0 (utility q w y)) refl
  where
    stays : (t : Bool) → eqb v.0 0 ≡ t → 0 < utility q w y →
        cond t None (Some (best_edge j v g (scaled (second_in bar)))) ≡ ranked k w (utility q w y) (cond t None (Some (best_edge j v g (scaled (second_in bar)))))
    stays true e u = absurd (omega (arith, (h.low (eqb-true v.0 0 e)).1))
    stays false e u =
        let two : 1 < utility q w y = omega (arith, o (has-weight q w y 0 (omega arith))) in
        let some : bar + 1 ≡ second_in bar = second-some bar (λ e. omega arith) in
        let kept : max (second_in bar) (utility q w y) ≡ second_in bar = omega (arith, some) in
        rw (le-ltb g.0 (utility q w y) (omega (arith, h.under)), ne_eqb (utility q w y) g.0 (λ e. omega (arith, h.under)), kept) refl

    go : (t : Bool) → ltb 0 (utility q w y) ≡ t → edge_of j v g bar ≡ cond t (ranked k w (utility q w y) (edge_of j v g bar)) (edge_of j v g bar)
    go true e = stays (eqb v.0 0) refl (ltb-true 0 (utility q w y) e)
    go false e = refl

-- An edge that is rated at less than `least` is passed over
pub take-skipped : (q k t w y x j : ℕ) (v : Pence) (g : Scaled) (bar own least : ℕ) → LeaderFits v.0 g.0 bar → Rounds q g.0 bar own least → Rates q t w y x →
    t < least → edge_of j v g bar ≡ take_of q k (rated_weight t w) y (edge_of j v g bar)
take-skipped q k t w y x j v g bar own least h r m l = go (eqb t 0) refl
  where
    go : (b : Bool) → eqb t 0 ≡ b → edge_of j v g bar ≡ take_of q k (cond b 0 w) y (edge_of j v g bar)
    go true e = take_below q k 0 y j v g bar h (λ z. absurd (omega arith)) (omega arith)
    go false e =
        let d = (m (omega (arith, eqb-false t 0 e))).0 in
        let less : q * t ≤ q * (least - 1) = mul-le-mul {n₂ = q} {m₂ = least - 1} (omega arith) (omega arith) in
        take_below q k w y j v g bar h (λ _. d.offered) (omega (arith, less, d.within, r.behind))

-- The weight of an edge that is rated
pub rated-weight : (t w : ℕ) → 0 < t → rated_weight t w ≡ w
rated-weight t w l = rw (ne_eqb t 0 (λ e. omega arith)) refl

pub rated-none : (t w : ℕ) → t ≡ 0 → rated_weight t w ≡ 0
rated-none t w e = rw (eq-eqb t 0 e) refl

-- Otherwise it is ranked
pub take-above : (q k w y bar u : ℕ) (best : Option Best) → y + bar < q * w → u ≡ utility q w y → ranked k w u best ≡ take_of q k w y best
unfolding take_of
take-above q k w y bar u best l is = rw (is, lt-ltb 0 (utility q w y) (omega arith)) refl

-- One more item
pub pick_next : (q : ℕ) (w y : ℕ → ℕ) (k : ℕ) (best new : Option Best) → best ≡ pick_of q w y k → new ≡ take_of q k (w k) (y k) best → new ≡ pick_of q w y (k + 1)
unfolding pick_of
pick_next q w y k best new e g = rw add-one (cc)

-- Edges without a weight change nothing
take_none : (q k y : ℕ) (best : Option Best) → take_of q k 0 y best ≡ best
unfolding take_of
take_none q k y best = rw (le-ltb 0 (utility q 0 y) (omega arith)) refl

pick-past : (q : ℕ) (w y : ℕ → ℕ) (n d : ℕ) → ((k : ℕ) → n ≤ k → w k ≡ 0) → pick_of q w y (n + d) ≡ pick_of q w y n
unfolding pick_of
pick-past q w y n zero z = let e : n + 0 ≡ n = omega arith in rw e refl
pick-past q w y n (suc d) z =
    let e : n + suc d ≡ suc (n + d) = omega arith in
    rw (e, z (n + d) (omega arith), pick-past q w y n d z) (take_none q (n + d) (y (n + d)) (pick_of q w y n))

pub pick_ends : (q : ℕ) (w y : ℕ → ℕ) (k n : ℕ) (best : Option Best) → n ≤ k → ((j : ℕ) → n ≤ j → w j ≡ 0) → best ≡ pick_of q w y k → best ≡ pick_of q w y n
pick_ends q w y k n best l z h = let e : k ≡ n + (k - n) = omega arith in h ∙ ap (pick_of q w y) e ∙ pick-past q w y n (k - n) z
