-- `sound::places_alike`: the places passed are as their items' first places.
use mathlib.Core.Path.{◌≡◌}
use mathlib.Core.Bool.{true}
use Prim.Native.Nat.{ℕ, ◌<◌}
use Rattle.supply.specs.SoundTest.{alike_test}
use Rattle.supply.proofs.sound.places_alike.Given as goal

abbrev pub invariant-loop-s : goal.invariant-loop-s
invariant-loop-s l = (j : ℕ) → j < l.s → alike_test l.board j ≡ true
