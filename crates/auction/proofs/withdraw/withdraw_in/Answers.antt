-- `withdraw::withdraw_in` meets its contract: refused in the order of the checks, else released.
use Rattle.std.specs.Prelude.{Ok}
use mathlib.Core.Path.{◌≡◌, sym, ap, ◌∙◌}
use Prim.Native.Nat.{ℕ}
use lib.ListN.{length}
use Rattle.duality.specs.Lists.{cells}
use Rattle.board.specs.Cells.{auction}
use Rattle.supply.specs.declared.record.Board.{Board}
use Rattle.refusals.specs.Demand1.{first_of, Verdict}
use Rattle.supply.specs.ByItem.{withdrawn_at}
use Rattle.auction.specs.Items.{items_checks}
use mathlib.Core.List.{List}
use Rattle.supply.specs.Spread.{Listable}
use Rattle.refusals.proofs.Verdicts.{refused_up}
use Rattle.supply.proofs.SoundLaw.{sound-decides}
use Rattle.supply.proofs.Shaping.{sound-located, sound-fits}
use Rattle.bidding.specs.Rule.{done, after_chain}
use Rattle.auction.specs.Withdraw.{withdrawal}
use Rattle.auction.proofs.ItemsLaw.{served-items}
use Rattle.auction.proofs.CallVerdicts.{withdraw-refused, withdraw-left}
use Rattle.auction.proofs.Naming.{places-listed}
use Rattle.auction.proofs.withdraw.withdraw_in.Goals as goal

-- What the sheet's tests say, of the board that it is of
tested : {s b : Board} (items : List ℕ) {v w : Verdict} → s ≡ b → v ≡ first_of (items_checks s.items.count (withdrawn_at s) (cells items) 0 (length items)) → v ≡ w →
    first_of (items_checks b.items.count (withdrawn_at b) (cells items) 0 (length items)) ≡ w
tested items e f g = rw e at (sym f ∙ g)

-- Items that passed their tests can be listed
listable : (b : Board) (items : List ℕ) → first_of (items_checks b.items.count (withdrawn_at b) (cells items) 0 (length items)) ≡ Ok tt →
    Listable b.items (cells items) (length items)
listable b items e = let a = served-items _ _ _ _ e in record { within = a.known; rising = a.rising }

-- ---- The needs
pub new-requires : goal.new-requires
new-requires c = sound-located c.args.board.now _ c.requires.sound c.starts_of-starts.ensures

pub spread_items-places-requires : goal.spread_items-places-requires
spread_items-places-requires c =
    record {
      fits = sound-fits c.args.board.now c.requires.sound;
      starts = c.starts_of-starts.ensures;
      listable = listable c.args.board.now c.args.items.now (tested _ c.new.ensures c.items_verdict.ensures c.in_ok-items_verdict.was);
    }

pub release-bids-requires : goal.release-bids-requires
release-bids-requires c = record {
  sound = c.requires.sound.auction;
  listed = rw c.spread_items-places.ensures.numbers (places-listed c.args.board.now c.args.items.now c.requires.sound (listable c.args.board.now c.args.items.now (tested _ c.new.ensures c.items_verdict.ensures c.in_ok-items_verdict.was)));
}

pub returns-clause-answers : goal.returns-clause-answers
returns-clause-answers c =
    withdraw-left c.args.board.now _ ((sound-decides _).complete c.requires.sound) (tested _ c.new.ensures c.items_verdict.ensures c.in_ok-items_verdict.was) _
    (after_chain (auction c.release-bids.new.market c.args.board.now.weights c.release-bids.new.state) c.release-bids.result)
    c.spread_items-places.ensures.numbers c.release-bids.ensures.withdrawn

pub returns-in_err-items_verdict-clause-answers : goal.returns-in_err-items_verdict-clause-answers
returns-in_err-items_verdict-clause-answers c =
    ap (λ a. done (withdrawal c.args.board.now a)) (refused_up c.from_residual.result c.from_residual.ensures.1) ∙ sym (withdraw-refused c.args.board.now _ ((sound-decides _).complete c.requires.sound) _ (tested _ c.new.ensures c.items_verdict.ensures c.in_err-items_verdict.was))
