-- The first 65 items decide a withdrawal.
use mathlib.Core.Path.{◌≡◌, refl, sym, ap, ◌∙◌}
use mathlib.Core.Bool.{Bool, true, false}
use mathlib.Core.List.{List}
use Prim.Native.Nat.{ℕ, ◌<◌}
use native.Mathlib.Omega.{arith}
use lib.ListN.{length, take}
use lib.Dec.{ltb}
use lib.Seq.{length-take-le, get_or-take, take_all}
use borrow.Author.Tests.{ltb-true, ltb-false}
use Rattle.duality.specs.Lists.{cells}
use Rattle.supply.specs.declared.record.Board.{Board}
use Rattle.board.specs.Limits.{max_edges}
use Rattle.supply.specs.ByItem.{withdrawn_at}
use Rattle.supply.specs.SoundTest.{sound_test}
use Rattle.supply.proofs.SoundLaw.{sound-decides}
use Rattle.refusals.specs.Demand1.{first_of}
use Rattle.auction.specs.Withdraw.{withdraw_of}
use Rattle.auction.specs.EnoughItems.{EnoughItems}
use Rattle.auction.proofs.CallVerdicts.{withdraw-spoilt, withdraw-refused}
use Rattle.auction.proofs.ItemsLaw.{first-refused, items-first, items_as}

module _ (b : Board) (items : List ℕ) where
  by_first : sound_test b ≡ true → max_edges < length items → withdraw_of b items ≡ withdraw_of b (take max_edges items)
  by_first s h =
      let few = ((sound-decides b).sound s).laid.count.high in
      let (r, e) = first-refused b.items.count (withdrawn_at b) (cells items) few in
      let same = items_as b.items.count (withdrawn_at b) (cells (take max_edges items)) (cells items) max_edges (λ j k. get_or-take max_edges items j 0 k) in
      withdraw-refused b items s r (items-first b.items.count (withdrawn_at b) (cells items) few (length items) h ∙ e)
      ∙ sym (withdraw-refused b (take max_edges items) s r (rw (length-take-le max_edges items (omega arith)) (ap first_of same ∙ e)))

  by_length : sound_test b ≡ true → (t : Bool) → ltb max_edges (length items) ≡ t → withdraw_of b items ≡ withdraw_of b (take max_edges items)
  by_length s true e = by_first s (ltb-true _ _ e)
  by_length s false e = ap (withdraw_of b) (sym (take_all max_edges items (ltb-false _ _ e)))

  by-soundness : (t : Bool) → sound_test b ≡ t → withdraw_of b items ≡ withdraw_of b (take max_edges items)
  by-soundness true e = by_length e (ltb max_edges (length items)) refl
  by-soundness false e = withdraw-spoilt b items e ∙ sym (withdraw-spoilt b (take max_edges items) e)

pub enough-items : EnoughItems
enough-items b items = by-soundness b items (sound_test b) refl
