-- `cover::row_covered`: the edges passed are covered.
use Prim.Native.Nat.{ℕ, ◌+◌, ◌-◌, ◌*◌, ◌≤◌, ◌<◌}
use Rattle.duality.specs.Lists.{cells}
use Rattle.supply.specs.ByItem.{live}
use Rattle.certificate.proofs.cover.row_covered.Given as goal

abbrev pub invariant-loop-k : goal.invariant-loop-k
invariant-loop-k l = (j : ℕ) → j < l.k → (l.slack.q - l.slack.p) * live l.sheet l.bidder j ≤ l.gain + cells l.prices j
