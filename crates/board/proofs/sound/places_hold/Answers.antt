-- `sound::places_hold` meets its contract: the places of the bidders passed hold.
use mathlib.Core.Path.{◌≡◌, refl, sym, ◌∙◌}
use Prim.Native.Nat.{◌<◌}
use native.Mathlib.Omega.{arith}
use borrow.Author.Count.{below_more}
use Rattle.duality.proofs.Decide.{clash}
use Rattle.board.specs.Limits.{max_items}
use Rattle.board.specs.Cells.{auction}
use Rattle.board.specs.Live.{matching_of, held_by}
use Rattle.board.specs.SoundTest.{place_test, limits_test}
use Rattle.board.proofs.LiveLaws.{held-within}
use Rattle.board.proofs.SoundTests.{InLimits, limits-decide}
use Rattle.board.proofs.Filed.{row-cell}
use Rattle.board.proofs.SoundPass.{place_read}
use Rattle.board.proofs.sound.places_hold.Goals as goal
use Rattle.board.proofs.sound.places_hold.Goals.{At-loop-i}
use Rattle.std.proofs.Common.{ℕ, true, List, ◌<◌, ◌-◌}

-- The item that a bidder holds is one of the board's
held-low : (m n p q : ℕ) → limits_test m n p q ≡ true → (holder : List ℕ) (i k c : ℕ) → c ≡ held_by holder m i → k ≡ c - 1 → k < max_items
held-low m n p q t holder i k c e f =
    let h : InLimits m n p q = (limits-decide _ _ _ _).sound t in
    omega (arith, held-within holder m i, h.items.low, h.items.high)

pub bounds-weights-i : goal.bounds-weights-i
bounds-weights-i c =
    let h = held-low _ _ _ _ c.requires.limits c.args.state.holder c.loop-i.i _ _ (c.from.ensures ∙ c.requires.placed c.loop-i.i c.loop-i-test.true) c.saturating_sub-k.ensures in
    omega arith

pub bounds-state-k : goal.bounds-state-k
bounds-state-k c =
    held-low _ _ _ _ c.requires.limits c.args.state.holder c.loop-i.i _ _ (c.from.ensures ∙ c.requires.placed c.loop-i.i c.loop-i-test.true) c.saturating_sub-k.ensures

pub bounds-market-k : goal.bounds-market-k
bounds-market-k c =
    held-low _ _ _ _ c.requires.limits c.args.state.holder c.loop-i.i _ _ (c.from.ensures ∙ c.requires.placed c.loop-i.i c.loop-i-test.true) c.saturating_sub-k.ensures

pub place_holds-requires : goal.place_holds-requires
place_holds-requires c =
    let m = c.args.market in
    let h : InLimits m.items m.arrived m.slack.p m.slack.q = (limits-decide _ _ _ _).sound c.requires.limits in
    record { weight = c.weight_in-weight.ensures.small; below = h.slack.below; q = h.slack.high }

pub returns-then-not-place_holds : goal.returns-then-not-place_holds
returns-then-not-place_holds c =
    let b = auction c.args.market c.args.weights.now c.args.state in
    let placed = c.requires.placed c.loop-i.i c.loop-i-test.true in
    let low = held-low _ _ _ _ c.requires.limits c.args.state.holder c.loop-i.i _ _ (c.from.ensures ∙ placed) c.saturating_sub-k.ensures in
    let is : c.place_holds.result ≡ place_test b c.loop-i.i (matching_of b c.loop-i.i) =
    c.place_holds.ensures ∙
    place_read b c.loop-i.i _ _ _ placed (rw c.from.ensures at c.saturating_sub-k.ensures)
    (c.weight_in-weight.ensures.weight ∙ sym (row-cell b.weights c.loop-i.i _ low)) in
    record {
      sound = λ e. absurd (clash _ e refl);
      complete = λ h. absurd (clash _ (h _ c.loop-i-test.true) (sym is ∙ c.if-not-place_holds.true));
    }

pub loop-i-preserved : goal.loop-i-preserved
loop-i-preserved c =
    let b = auction c.args.market c.args.weights.now c.args.state in
    let placed = c.requires.placed c.loop-i.i c.loop-i-test.true in
    let low = held-low _ _ _ _ c.requires.limits c.args.state.holder c.loop-i.i _ _ (c.from.ensures ∙ placed) c.saturating_sub-k.ensures in
    let is : c.place_holds.result ≡ place_test b c.loop-i.i (matching_of b c.loop-i.i) =
    c.place_holds.ensures ∙
    place_read b c.loop-i.i _ _ _ placed (rw c.from.ensures at c.saturating_sub-k.ensures)
    (c.weight_in-weight.ensures.weight ∙ sym (row-cell b.weights c.loop-i.i _ low)) in
    below_more _ _ c.loop-i.invariant (sym is ∙ c.if-not-place_holds.false)
