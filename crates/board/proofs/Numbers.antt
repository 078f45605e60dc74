-- Facts on numbers that the code's types ask for.
use mathlib.Core.Path.{◌≡◌, sym, ◌∙◌}
use mathlib.Core.List.{List, map}
use Prim.Native.Nat.{ℕ}
use lib.ListN.{length, length-map}

-- An array of structs has the length that its machine values have
pub length-of-map : (X Y : Type 0) (f : X → Y) (l : List X) (n : ℕ) → length (map f l) ≡ n → length l ≡ n
length-of-map X Y f l n e = sym (length-map l f) ∙ e
