-- The first place of an item, as code reads it, and the live weight that stands there.
use mathlib.Core.Path.{◌≡◌, sym, ◌∙◌}
use mathlib.Core.List.{List}
use Prim.Native.Nat.{ℕ, ◌+◌, ◌*◌, ◌<◌}
use native.Mathlib.Omega.{arith}
use lib.ListN.{get_or}
use Rattle.board.specs.Limits.{max_items}
use Rattle.board.proofs.SoundLaw.{live_on}
use Rattle.board.proofs.Filed.{row-cell}
use Rattle.board.proofs.Tests.{flag_off}
use Rattle.supply.specs.declared.record.Items.{Items}
use Rattle.supply.specs.Board.{start_in}
use Rattle.supply.specs.ByItem.{live_by}
use Rattle.supply.specs.Shape.{Located}

module _ {items : Items} {starts : List ℕ} (h : Located items starts) (k : ℕ) (l : k < items.count) where
  pub first_below : get_or starts k 0 < max_items
  first_below = omega (arith, h.first k l, h.below k l)

  -- An edge that is live weighs what stands at its first place
  pub live-cell : (withdrawn weights : List ℕ) (i w : ℕ) → get_or withdrawn (get_or starts k 0) 0 ≡ 0 → w ≡ get_or weights (i * max_items + get_or starts k 0) 0 →
      w ≡ live_by items withdrawn weights i k
  live-cell withdrawn weights i w e is =
      let on : get_or withdrawn (start_in items k) 0 ≡ 0 = rw (h.first k l) at e in
      let cell : w ≡ get_or weights (i * max_items + start_in items k) 0 = rw (h.first k l) at is in
      cell ∙ sym (live_on _ _ (flag_off _ on) ∙ row-cell weights i (start_in items k) (h.below k l))
