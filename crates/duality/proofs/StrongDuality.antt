-- (d) Strong duality: settle all bidders at a power of 2 above every matching's weight, and round.
use Prim.Native.Nat.{ℕ, zero, suc, ◌*◌, ◌^◌, ◌<◌}
use native.Mathlib.Nat.{two-pow-succ}
use native.Mathlib.Omega.{arith}
use Rattle.duality.specs.Sums.{sum_to}
use Rattle.duality.specs.Matching.{weight_of}
use Rattle.duality.specs.Cover.{total}
use Rattle.duality.specs.StrongDuality.{StrongDuality}
use Rattle.duality.proofs.Sums.{sum_to-term}
use Rattle.duality.proofs.WeakDuality.{weak-duality}
use Rattle.duality.proofs.Tightness.{tightness}
use Rattle.duality.proofs.Settlement.{settlement}
use Rattle.duality.proofs.Rounding.{rounded}

below_power : (r : ℕ) → r < 2 ^ r
below_power zero = omega arith
below_power (suc r) = omega (arith, below_power r, two-pow-succ r)

pub strong-duality : StrongDuality
strong-duality n m w =
    -- no matching weighs more than r, since gains of whole rows cover
    let r = total n m (λ k. 0) (λ i. sum_to m (w i)) in
    let (matching, p, g, matches, tight, covers) = settlement n m w (2 ^ r) in
    let light = weak-duality n m w 1 matching (λ k. 0) (λ i. sum_to m (w i)) matches (λ i k l lk hw. omega (arith, sum_to-term m k (w i) lk)) in
    let near : total n m p g < 2 ^ r * suc (weight_of n w matching) = omega (arith, tightness n m w (suc (2 ^ r)) matching p g matches tight, below_power r) in
    let (price, gain, covered, below) = rounded n m w r (suc (weight_of n w matching)) (p, g, covers, near) in
    (matching, price, gain, record { matches = matches; covers = covered; same = omega (arith, weak-duality n m w 1 matching price gain matches covered) })
