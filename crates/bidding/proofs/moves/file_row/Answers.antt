-- `moves::file_row` meets its contract: the part of the weights is the row.
use mathlib.Core.Path.{◌≡◌, refl}
use mathlib.Core.List.{List, append_assoc}
use Prim.Native.Nat.{ℕ, ◌+◌, ◌≤◌}
use native.Mathlib.Omega.{arith}
use lib.ListN.{length}
use lib.Seq.{sets}
use borrow.Rule.Slice.PartMut.{put_mid}
use Rattle.std.proofs.lemmas.List.{drop-drop}
use Rattle.std.proofs.lemmas.List.Edits.{sets-eq}
use Rattle.bidding.proofs.moves.file_row.Goals as goal

put-sets : (a k : ℕ) (xs ys zs : List ℕ) → ys ≡ zs → k ≡ length zs → a + length zs ≤ length xs → put_mid a k xs ys ≡ sets xs a zs
put-sets a k xs ys zs e n l = rw (e, n, sets-eq zs xs a l, append_assoc, drop-drop) refl

pub returns : goal.returns
returns c = put-sets _ _ _ _ _ c.copy_from_slice.ensures.after (omega arith) (omega arith)
