-- The slow count tells what the exact level tells: both are the greatest weight.
use mathlib.Core.Path.{◌≡◌, refl, sym, ap, ◌∙◌}
use mathlib.Core.List.{◌++◌}
use Rattle.refusals.specs.Told.{served}
use Rattle.supply.specs.declared.record.Board.{Board}
use Rattle.supply.specs.Board.{places_at}
use Rattle.supply.specs.ByItem.{live, withdrawn_at, gain_at, price_at, matching_of, matching_weight}
use Rattle.supply.specs.Sound.{Sound}
use Rattle.hungarian.specs.Exact.{greatest_on}
use Rattle.hungarian.proofs.Exacts.{exact-is-best, exact-gives-demand-3}
use Rattle.counting.specs.Call.{count_on}
use Rattle.counting.specs.Demand1.{Takes}
use Rattle.counting.proofs.Counts.{count-is-greatest}
use Rattle.counting.proofs.Demand1.{count-takes}
use Rattle.history.specs.Output.{bidder_lines, item_lines, last_lines, sum_of, output_of}
use Rattle.history.proofs.Demand1.{sheets-demand-1}
use Rattle.guarantees.specs.BesideCount.{CountIsExact, CountPrinted}

-- On every board, sound or not
count-on : (b : Board) → count_on b ≡ greatest_on b
count-on b = count-is-greatest b.market.arrived b.items.count (places_at b) (live b)

taken : {b : Board} → Takes b → Sound b
taken t = t.sound

pub count-is-exact : CountIsExact
count-is-exact b before after answer t room o =
    let shown = (exact-gives-demand-3 b before after answer o).exact (taken t) room in
    (count-takes b (count_on b)).1 (t, refl) ∙ ap served (count-on b) ∙ sym (exact-is-best b before after answer shown).answers

pub count-printed : CountPrinted
unfolding output_of
count-printed s b entries bids t =
    (sheets-demand-1 s).plans b entries bids t
    ∙ ap (λ e. bidder_lines (matching_of b) (gain_at b) b.market.arrived ++ (item_lines (withdrawn_at b) (price_at b) b.items.count ++ last_lines (matching_weight b) (sum_of b) bids e))
    (sym (count-on b))
