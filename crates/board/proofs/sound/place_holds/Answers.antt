-- `sound::place_holds` meets its contract: gain and price are compared by a difference.
use Prim.Native.Nat.{◌+◌, ◌-◌}
use native.Mathlib.Omega.{arith}
use borrow.Author.Tests.{ne_eqb}
use Rattle.duality.proofs.Decide.{eq-decides, reword, same_test, false-is, clash, le-decides}
use Rattle.board.proofs.SoundTests.{pair-decides}
use mathlib.Core.Logic.{inl, inr}
use Rattle.board.proofs.sound.place_holds.Goals as goal

pub returns-then-withdrawn : goal.returns-then-withdrawn
returns-then-withdrawn c =
    let a = c.args in
    rw (ne_eqb _ _ c.if-item-eq0.false) (false-is _ (pair-decides (a.slack.q + a.slack.p) a.weight.0 a.price.0 a.withdrawn a.gain.0) (λ h. elim c.then-withdrawn.either [
      | inl gone ↦ clash _ gone h.live
      | inr bare ↦ omega (arith, bare.1, h.edge)
    ]))

pub returns-then-price-whole : goal.returns-then-price-whole
returns-then-price-whole c =
    let a = c.args in
    rw
    (ne_eqb _ _ c.if-item-eq0.false)
    (same_test
    _
    _
    (eq-decides a.gain.0 (c.whole-whole.result.0 - a.price.0))
    (reword
    (pair-decides (a.slack.q + a.slack.p) a.weight.0 a.price.0 a.withdrawn a.gain.0)
    (λ h. omega (arith, h.whole, c.whole-whole.ensures))
    (λ e. record { live = c.if-withdrawn.false; edge = omega arith; whole = omega (arith, c.whole-whole.ensures) })))

pub returns-else-price-whole : goal.returns-else-price-whole
returns-else-price-whole c =
    let a = c.args in
    rw
    (ne_eqb _ _ c.if-item-eq0.false)
    (same_test _ _ (le-decides a.price.0 c.whole-whole.result.0)
    (reword
    (pair-decides (a.slack.q + a.slack.p) a.weight.0 a.price.0 a.withdrawn a.gain.0)
    (λ h. omega (arith, h.whole, c.whole-whole.ensures))
    (λ e. absurd (omega arith))))
