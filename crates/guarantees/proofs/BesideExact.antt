-- A plan beside the one that the exact level leaves: by demand 3 that one is of greatest weight.
use mathlib.Core.Path.{◌≡◌, ◌∙◌}
use mathlib.Core.List.{List}
use Prim.Native.Nat.{ℕ, zero, suc, ◌+◌, ◌-◌, ◌<◌}
use native.Mathlib.Omega.{arith}
use lib.IntN.{pos, neg_ℤ}
use lib.ListN.{take}
use lib.Seq.{length-take-le}
use Rattle.duality.specs.Lists.{cells}
use Rattle.duality.proofs.Agree.{weight-as}
use Rattle.places.proofs.EqualExactlyWhenBestWith.{plan-as}
use Rattle.supply.specs.declared.record.Board.{Board}
use Rattle.supply.specs.ByItem.{live}
use Rattle.hungarian.specs.Exact.{greatest_on, Shows}
use Rattle.hungarian.specs.Demand3.{ShowsBest}
use Rattle.hungarian.proofs.Exacts.{exact-is-best, exact-gives-demand-3}
use Rattle.matching.specs.Plans.{PlanOn, weight_on}
use Rattle.comparison.specs.Compare.{difference_of}
use Rattle.comparison.proofs.Demand1.{compares-plans}
use Rattle.comparison.proofs.Differences.{difference-exact}
use Rattle.guarantees.specs.BesideExact.{NoDifferenceBest}
use Rattle.guarantees.proofs.Bounds.{cut-cell}

-- So much less, or none
fall : (b : Board) (first second : List ℕ) (d : ℕ) → weight_on b second ≡ weight_on b first + d → difference_of b first second ≡ neg_ℤ (pos d)
fall b first second zero e = (difference-exact b first second).none.1 (omega arith)
fall b first second (suc d) e = ((difference-exact b first second).less d).1 e

pub no-difference-best : NoDifferenceBest
no-difference-best b before after answer s room o plan on =
    record {
      told = (compares-plans b plan exact).1 (record { sound = s; first = on; second = left });
      short = fall b plan exact (greatest_on b - weight_on b plan) (omega (arith, weighs, best.greatest (cells plan) on.matches));
      best = (
        λ e other m. omega (arith, (difference-exact b plan exact).none.0 e, weighs, best.greatest other m),
        λ g. (difference-exact b plan exact).none.1 (omega (arith, g (cells exact) left.matches, weighs, best.greatest (cells plan) on.matches)),
      );
    }
  where
    exact : List ℕ
    exact = take b.market.arrived after.plan

    shown : Shows b before answer after
    shown = (exact-gives-demand-3 b before after answer o).exact s room

    best : ShowsBest b answer after
    best = exact-is-best b before after answer shown

    cell : (i : ℕ) → i < b.market.arrived → cells (take b.market.arrived after.plan) i ≡ cells after.plan i
    cell i l = cut-cell b.market.arrived after.plan i l

    weighs : weight_on b (take b.market.arrived after.plan) ≡ greatest_on b
    weighs = weight-as _ (live b) (cells after.plan) _ cell ∙ best.weight

    left : PlanOn b (take b.market.arrived after.plan)
    left =
        record {
          size = length-take-le b.market.arrived after.plan (omega (arith, shown.plan.size, room.plan));
          matches = plan-as cell shown.matches;
        }
