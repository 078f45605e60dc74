-- `sound::places_hold` meets its contract: the places of the bidders passed hold.
use mathlib.Core.Path.{◌≡◌}
use mathlib.Core.Bool.{true}
use Prim.Native.Nat.{ℕ, ◌<◌}
use Rattle.board.specs.Cells.{auction}
use Rattle.board.specs.Live.{matching_of}
use Rattle.board.specs.SoundTest.{place_test}
use Rattle.board.proofs.sound.places_hold.Given as goal

abbrev pub invariant-loop-i : goal.invariant-loop-i
invariant-loop-i l =
    (j : ℕ) → j < l.i → place_test (auction l.market l.weights l.state) j (matching_of (auction l.market l.weights l.state) j) ≡ true
