-- No plan of a sound board weighs more than 64 edges of the greatest weight.
use mathlib.Core.Path.{◌≡◌, refl}
use Prim.Native.Nat.{ℕ, zero, suc, ◌*◌, ◌≤◌}
use native.Mathlib.Nat.{mul-le-mul, le_refl}
use native.Mathlib.Omega.{arith}
use Rattle.duality.specs.Sums.{sum_to}
use Rattle.duality.specs.Lists.{cells}
use Rattle.duality.proofs.Sums.{sum_to-zero}
use Rattle.places.proofs.WeakDualityWith.{weak-duality-with}
use Rattle.board.specs.Limits.{max_items, max_weight}
use Rattle.board.proofs.Light.{live-within}
use Rattle.supply.specs.Board.{auction_of, places_at, all_places, start_in}
use Rattle.supply.specs.ByItem.{live}
use Rattle.supply.proofs.Shaping.{sound-fits}
use Rattle.matching.specs.Plans.{PlansWithin}

-- One price at every place
sum_alike : (m x : ℕ) (count : ℕ → ℕ) → sum_to m (λ k. count k * x) ≡ sum_to m count * x
sum_alike zero x count = omega arith
sum_alike (suc m) x count = omega (arith, sum_alike m x count)

-- Prices of the greatest weight, and gains of 0, cover the live edges: no plan weighs more than they total, a price counted once per place
pub plans-within : PlansWithin
plans-within b plan s on =
    let n = b.market.arrived in
    let m = b.items.count in
    let below = weak-duality-with n m (places_at b) (live b) 1 (cells plan) (λ k. max_weight) (λ i. 0) on.matches
    (λ i k li lk e. omega (arith, live-within (auction_of b) s.auction i (start_in b.items k))) in
    let places : all_places b.items * max_weight ≤ max_items * max_weight = mul-le-mul (sound-fits b s).all (le_refl max_weight) in
    omega (arith, below, sum_alike m max_weight (places_at b), sum_to-zero n (λ i. 0) (λ i l. refl), places)
