-- `sound::places_alike` meets its contract: the places passed are as their items' first places.
use mathlib.Core.Path.{◌≡◌, sym, ◌∙◌}
use mathlib.Core.Bool.{true}
use native.Mathlib.Omega.{arith}
use borrow.Author.Count.{below_more}
use Rattle.duality.proofs.Decide.{true-decides, all-decides, all-fails, true-is}
use Rattle.supply.specs.SoundTest.{alike_test}
use Rattle.supply.proofs.SoundLaw.{first_read, alike_read}
use Rattle.supply.proofs.sound.places_alike.Goals as goal

pub bounds-starts-owner : goal.bounds-starts-owner
bounds-starts-owner c =
    let b = c.args.board.now in
    let r = first_read b.items b.market.items _ _ c.requires.laid c.starts_of-starts.ensures c.owners_of-owner.ensures c.loop-s.s (omega arith) in
    omega (arith, r.0, c.requires.laid.count.high)

pub place_alike-requires : goal.place_alike-requires
place_alike-requires c =
    let b = c.args.board.now in
    let r = first_read b.items b.market.items _ _ c.requires.laid c.starts_of-starts.ensures c.owners_of-owner.ensures c.loop-s.s (omega arith) in
    record { s = omega (arith, c.requires.items); t = omega (arith, r.1, r.2, c.requires.items); arrived = c.requires.arrived }

pub returns-then-not-place_alike : goal.returns-then-not-place_alike
returns-then-not-place_alike c =
    let b = c.args.board.now in
    let r = first_read b.items b.market.items _ _ c.requires.laid c.starts_of-starts.ensures c.owners_of-owner.ensures c.loop-s.s (omega arith) in
    all-fails _ c.loop-s.s (alike_test b) (omega arith) (alike_read b c.loop-s.s _ r.1 ∙ sym c.place_alike.ensures ∙ c.if-not-place_alike.true)

pub loop-s-preserved : goal.loop-s-preserved
loop-s-preserved c =
    let b = c.args.board.now in
    let r = first_read b.items b.market.items _ _ c.requires.laid c.starts_of-starts.ensures c.owners_of-owner.ensures c.loop-s.s (omega arith) in
    below_more _ _ c.loop-s.invariant (alike_read b c.loop-s.s _ r.1 ∙ sym c.place_alike.ensures ∙ c.if-not-place_alike.false)

pub returns : goal.returns
returns c =
    let b = c.args.board.now in
    true-is (all-decides _ (alike_test b) (λ j. alike_test b j ≡ true) (λ j. true-decides _)) (λ j l. c.loop-s.invariant j (omega arith))
