-- Laws of the line at a position of a text, where the text may be too short for it.
use mathlib.Core.Path.{◌≡◌, refl, sym, ap}
use Prim.Native.Nat.{ℕ}
use mathlib.Core.List.{List, [], ◌∷◌}
use lib.ListN.{length}
use Rattle.layout.specs.Limits.{line_bytes, feed}
use Rattle.layout.specs.Page.{padded, heading, next_heading}

pub heading-bytes : 66 ∷ 65 ∷ 84 ∷ 32 ∷ 75 ∷ 84 ∷ 32 ∷ 32 ∷ 32 ∷ 87 ∷ 79 ∷ 82 ∷ 84 ∷ 72 ∷ 32 ∷ 32 ∷ 32 ∷ 32 ∷ 32 ∷ 32 ∷ 32 ∷ 71 ∷ 65 ∷ 73 ∷ 78 ∷ 10 ∷ [] ≡ heading
unfolding heading padded
heading-bytes = refl

pub next-bytes : 12 ∷ 66 ∷ 65 ∷ 84 ∷ 32 ∷ 75 ∷ 84 ∷ 32 ∷ 32 ∷ 32 ∷ 87 ∷ 79 ∷ 82 ∷ 84 ∷ 72 ∷ 32 ∷ 32 ∷ 32 ∷ 32 ∷ 32 ∷ 32 ∷ 32 ∷ 71 ∷ 65 ∷ 73 ∷ 78 ∷ 10 ∷ [] ≡ next_heading
next-bytes = ap (λ (l : List ℕ). feed ∷ l) heading-bytes

pub heading-length : length heading ≡ line_bytes
heading-length = sym (ap length heading-bytes)
