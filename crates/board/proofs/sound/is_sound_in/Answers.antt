-- `sound::is_sound_in` meets its contract: each part of the test in its turn.
use mathlib.Core.Path.{sym, ◌∙◌}
use borrow.Author.Rules.{rules}
use Rattle.duality.proofs.Decide.{false-is, same_test, reword, clash}
use Rattle.board.specs.Cells.{auction}
use Rattle.board.proofs.Numbers.{length-of-map}
use Rattle.board.proofs.SoundTests.{formed-decides, limits-decide, parts-decide}
use Rattle.board.proofs.sound.is_sound_in.Goals as goal

pub returns-then-not-within_limits : goal.returns-then-not-within_limits
returns-then-not-within_limits c =
    false-is _ (parts-decide _) (λ h. clash _ h.limits (sym c.within_limits.ensures ∙ c.if-not-within_limits.true))

pub placing_of-requires : goal.placing_of-requires
placing_of-requires c =
    let h = (limits-decide _ _ _ _).sound (sym c.within_limits.ensures ∙ c.if-not-within_limits.false) in
    record { items = h.items.high; arrived = h.arrived }

pub returns-in_default : goal.returns-in_default
returns-in_default c = false-is _ (parts-decide _) (λ h. clash _ h.holders c.in_default.ensures)

pub returns-then-not-items_hold : goal.returns-then-not-items_hold
returns-then-not-items_hold c =
    false-is _ (parts-decide _) (λ h. clash _ h.items (sym c.items_hold.ensures ∙ c.if-not-items_hold.true))

pub returns-then-not-edges_hold : goal.returns-then-not-edges_hold
returns-then-not-edges_hold c =
    false-is _ (parts-decide _)
    (λ h. clash _ (c.edges_hold.ensures.complete (λ i l. (h.bidders i l).0)) c.if-not-edges_hold.true)

pub returns : goal.returns
returns c =
    same_test _ _ c.places_hold.ensures
    (reword (parts-decide (auction c.args.market c.args.weights.now c.args.state))
    (λ h i l. (h.bidders i l).1)
    (λ h. record {
      formed = (formed-decides _).complete (record {
        prices = search (rules, length-of-map);
        holders = search (rules, length-of-map);
        flags = search (rules, length-of-map);
        gains = search (rules, length-of-map);
        rows = c.told-weights;
      });
      limits = sym c.within_limits.ensures ∙ c.if-not-within_limits.false;
      holders = c.in-Some.ensures.apart;
      items = sym c.items_hold.ensures ∙ c.if-not-items_hold.false;
      bidders = λ i l. (c.edges_hold.ensures.sound c.if-not-edges_hold.false i l, h i l);
    }))
