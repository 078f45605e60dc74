-- A line's numbers are edges or items, all of them.
use mathlib.Core.Path.{◌≡◌, refl, sym, ap, ◌∙◌}
use mathlib.Core.Bool.{Bool, true, false}
use mathlib.Core.List.{List}
use Prim.Native.Nat.{ℕ, zero, suc, ◌+◌, ◌*◌, ◌/◌, ◌%◌, ◌≤◌, ◌<◌, min}
use native.Mathlib.Nat.{zero-add, zero-min, le_refl}
use native.Mathlib.Omega.{arith}
use lib.ListN.{length, get_or, take, replicate, length-append, length-replicate}
use lib.Seq.{sets, length-sets, take-nil, take-append-le, take_all, length-take-le, get_or-take, ext_get_or}
use lib.Dec.{leb}
use borrow.Author.Tests.{leb-true, leb-false, eq-eqb, lt-ltb}
use Rattle.text.specs.Limits.{kept}
use Rattle.text.specs.Line.{line_at}
use Rattle.text.proofs.Forms.{line-complete}
use Rattle.board.specs.Limits.{max_edges}
use Rattle.auction.specs.Arrive.{arrive_of}
use Rattle.auction.specs.Withdraw.{withdraw_of}
use Rattle.replay.specs.Replay.{pairs_of, after_arrival, after_withdrawal, carry_out}
use Rattle.replay.specs.ReplayLaws.{LineEdges, LineItems}
use Rattle.board.proofs.Filed.{sets-in}
use Rattle.auction.proofs.EnoughEdges.{enough-edges}
use Rattle.auction.proofs.EnoughItems.{enough-items}
use Rattle.replay.proofs.ReplayForms.{is_arrival, is_withdrawal, edges_said, items_said, carries-arrival, carries-withdrawal}

pairs-length : (ns : List ℕ) (n : ℕ) → length (pairs_of ns n) ≡ n
unfolding pairs_of
pairs-length ns zero = refl
pairs-length ns (suc n) = simp length-append (omega (arith, pairs-length ns n))

-- The first pairs of n are those of the lesser number
pairs_first : (ns : List ℕ) (m n : ℕ) → take m (pairs_of ns n) ≡ pairs_of ns (min n m)
unfolding pairs_of
pairs_first ns m zero = simp (take-nil, zero-min)
pairs_first ns m (suc n) = go (leb m n) refl (pairs_first ns m n)
  where
    go : (t : Bool) → leb m n ≡ t → take m (pairs_of ns n) ≡ pairs_of ns (min n m) → take m (pairs_of ns (suc n)) ≡ pairs_of ns (min (suc n) m)
    go true q e =
        let l = leb-true m n q in
        let a : min (suc n) m ≡ min n m = omega arith in
        rw a (take-append-le m (pairs_of ns n) _ (rw (pairs-length ns n) l) ∙ e)
    go false q e =
        let l = leb-false m n q in
        let a : min (suc n) m ≡ suc n = omega arith in
        rw a (take_all m (pairs_of ns (suc n)) (rw (pairs-length ns (suc n)) l))

-- The kept numbers are the first, and give the same first pairs
kept-cell : (ns : List ℕ) (j : ℕ) → j < kept → j < length ns → get_or (sets (replicate kept 0) 0 ns) j 0 ≡ get_or ns j 0
kept-cell ns j h l = let e = sets-in (replicate kept 0) ns 0 j (omega arith) l in rw (zero-add j) at e

pairs-kept : (ns : List ℕ) (n : ℕ) → 2 * n ≤ kept → 2 * n ≤ length ns → pairs_of (sets (replicate kept 0) 0 ns) n ≡ pairs_of ns n
unfolding pairs_of
pairs-kept ns zero h l = refl
pairs-kept ns (suc n) h l =
    rw (pairs-kept ns n (omega arith) (omega arith), kept-cell ns (2 * n) (omega arith) (omega arith), kept-cell ns (2 * n + 1) (omega arith) (omega arith))

pub line-edges : LineEdges
unfolding carry_out
line-edges s at ns next w a even rest n b bids =
    let l = line-complete s at ns next w in
    let m = min (length ns / 2) max_edges in
    let t : is_arrival (line_at s at) ≡ true = rw (l, eq-eqb (get_or s at 0) 65 a, eq-eqb (length ns % 2) 0 even) in
    let same : edges_said (line_at s at) ≡ take max_edges (pairs_of ns (length ns / 2)) =
    rw l (pairs-kept ns m (omega arith) (omega arith) ∙ sym (pairs_first ns max_edges (length ns / 2))) in
    carries-arrival (line_at s at) rest n b bids t ∙ ap (after_arrival rest n bids) (ap (arrive_of b) same ∙ sym (enough-edges b (pairs_of ns (length ns / 2))))

-- ---- A withdrawal's items
kept-first : (ns : List ℕ) (m : ℕ) → m ≤ kept → m ≤ length ns → take m (sets (replicate kept 0) 0 ns) ≡ take m ns
kept-first ns m h l =
    let size : length (sets (replicate kept 0) 0 ns) ≡ kept = length-sets (replicate kept 0) 0 ns ∙ length-replicate {A = ℕ} kept 0 in
    let long : length (take m (sets (replicate kept 0) 0 ns)) ≡ m = length-take-le m _ (omega arith) in
    ext_get_or 0 _ _ (long ∙ sym (length-take-le m ns l))
    (λ j k. get_or-take m _ j 0 (omega arith) ∙ (kept-cell ns j (omega arith) (omega arith) ∙ sym (get_or-take m ns j 0 (omega arith))))

-- The first of a list, as many as there are
take-least : (ns : List ℕ) (m : ℕ) → take (min (length ns) m) ns ≡ take m ns
take-least ns m = go (leb (length ns) m) refl
  where
    go : (t : Bool) → leb (length ns) m ≡ t → take (min (length ns) m) ns ≡ take m ns
    go true q =
        let l = leb-true (length ns) m q in
        let a : min (length ns) m ≡ length ns = omega arith in
        rw a (take_all (length ns) ns (le_refl _) ∙ sym (take_all m ns l))
    go false q = let l = leb-false (length ns) m q in let a : min (length ns) m ≡ m = omega arith in rw a refl

pub line-items : LineItems
unfolding carry_out
line-items s at ns next w a some rest n b bids =
    let l = line-complete s at ns next w in
    let m = min (length ns) max_edges in
    let t : is_withdrawal (line_at s at) ≡ true = rw (l, eq-eqb (get_or s at 0) 87 a, lt-ltb 0 (length ns) some) in
    let same : items_said (line_at s at) ≡ take max_edges ns = rw l (kept-first ns m (omega arith) (omega arith) ∙ take-least ns max_edges) in
    carries-withdrawal (line_at s at) rest n b bids t ∙ ap (after_withdrawal rest n bids) (ap (withdraw_of b) same ∙ sym (enough-items b ns))
