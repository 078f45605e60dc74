-- The first 65 edges decide an arrival.
use mathlib.Core.Path.{◌≡◌, refl, sym, ap, ◌∙◌}
use mathlib.Core.Bool.{Bool, true, false}
use mathlib.Core.List.{List}
use Prim.Native.Nat.{◌<◌}
use native.Mathlib.Omega.{arith}
use lib.ListN.{length, take}
use lib.Dec.{leb, ltb}
use lib.Seq.{length-take-le, get_or-take, take_all}
use borrow.Author.Tests.{leb-true, leb-false, ltb-true, ltb-false}
use Rattle.supply.specs.declared.record.Board.{Board}
use Rattle.board.specs.declared.record.Edge.{Edge}
use Rattle.board.specs.Limits.{max_bidders, max_edges}
use Rattle.board.specs.Cells.{edge}
use Rattle.supply.specs.ByItem.{withdrawn_at}
use Rattle.supply.specs.SoundTest.{sound_test}
use Rattle.refusals.specs.Demand1.{first_of}
use Rattle.auction.specs.Edges.{item_in, weight_in, edges_checks}
use Rattle.auction.specs.Arrive.{arrive_of}
use Rattle.auction.specs.EnoughEdges.{EnoughEdges}
use Rattle.supply.proofs.SoundLaw.{sound-decides}
use Rattle.refusals.proofs.Verdicts.{unserved}
use Rattle.refusals.proofs.Each.{each_first}
use Rattle.auction.proofs.ItemsLaw.{too_many}
use Rattle.auction.proofs.EdgesLaw.{edges-items, served-edges}
use Rattle.auction.proofs.CallVerdicts.{arrive-spoilt, arrive-full, arrive-refused}
use Rattle.auction.proofs.Buffers.{edges-as}

module _ (b : Board) (edges : List Edge) where
  by_first : sound_test b ≡ true → b.market.arrived < max_bidders → max_edges < length edges → arrive_of b edges ≡ arrive_of b (take max_edges edges)
  by_first s l h =
      let (r, e) = unserved (edges_checks b.items.count (withdrawn_at b) (item_in edges) (weight_in edges) 0 max_edges)
      (λ e. too_many (edges-items (served-edges _ _ _ _ _ e)) ((sound-decides b).sound s).laid.count.high (omega arith)) in
      let same = edges-as b.items.count (withdrawn_at b) (item_in (take max_edges edges)) (item_in edges) (weight_in (take max_edges edges)) (weight_in edges) max_edges
      (λ j k. ap (λ (e : Edge). e.item) (get_or-take max_edges edges j (edge 0 0) k))
      (λ j k. ap (λ (e : Edge). e.weight.0) (get_or-take max_edges edges j (edge 0 0) k)) in
      arrive-refused b edges s l r (each_first _ max_edges (length edges) r (omega arith) e)
      ∙ sym (arrive-refused b (take max_edges edges) s l r (rw (length-take-le max_edges edges (omega arith)) (ap first_of same ∙ e)))

  by_length : sound_test b ≡ true → b.market.arrived < max_bidders → (t : Bool) → ltb max_edges (length edges) ≡ t → arrive_of b edges ≡ arrive_of b (take max_edges edges)
  by_length s l true e = by_first s l (ltb-true _ _ e)
  by_length s l false e = ap (arrive_of b) (sym (take_all max_edges edges (ltb-false _ _ e)))

  by-room : sound_test b ≡ true → (t : Bool) → leb max_bidders b.market.arrived ≡ t → arrive_of b edges ≡ arrive_of b (take max_edges edges)
  by-room s true e = arrive-full b edges s (leb-true _ _ e) ∙ sym (arrive-full b (take max_edges edges) s (leb-true _ _ e))
  by-room s false e = by_length s (leb-false _ _ e) (ltb max_edges (length edges)) refl

  by-soundness : (t : Bool) → sound_test b ≡ t → arrive_of b edges ≡ arrive_of b (take max_edges edges)
  by-soundness true e = by-room e (leb max_bidders b.market.arrived) refl
  by-soundness false e = arrive-spoilt b edges e ∙ sym (arrive-spoilt b (take max_edges edges) e)

pub enough-edges : EnoughEdges
enough-edges b edges = by-soundness b edges (sound_test b) refl
