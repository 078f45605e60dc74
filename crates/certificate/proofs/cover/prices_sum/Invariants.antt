-- `cover::prices_sum`: the prices passed are added, each once per place.
use mathlib.Core.Path.{◌≡◌}
use Prim.Native.Nat.{◌*◌, ◌≤◌}
use Rattle.duality.specs.Lists.{cells}
use Rattle.duality.specs.Sums.{sum_to}
use Rattle.board.specs.Limits.{max_price}
use Rattle.supply.specs.Board.{places_at}
use Rattle.certificate.proofs.cover.prices_sum.Given as goal

abbrev pub invariant-loop-k : goal.invariant-loop-k
invariant-loop-k l =
    (l.total ≡ sum_to l.k (λ j. places_at l.sheet j * cells l.prices j)) × (l.total ≤ l.k * (256 * max_price))
