use Rattle.std.proofs.Common.{◌≡◌, ℕ, ◌+◌, ◌≤◌, List, ◌++◌, Option, rules, arith, length, take, sym, ap, ◌∙◌, subst, le_refl, drop_at, length-take-le}
use Rattle.std.proofs.lemmas.Slice.{take-put_mid_below}
use Rattle.std.specs.Io.KnownBytes.{Consumes}
use Rattle.std.proofs.KnownBytes.{Consumes-nil, Consumes-trans, Consumes-kept}
use borrow.Rule.Slice.PartMut.{put_mid, post_of}
use lib.Seq.{take-add, take-append-le}
use Rattle.input.proofs.read_text.Goals as goal

-- What a read gave stands behind what was counted before.
put_behind : (n k m : ℕ) (xs ys : List ℕ) → n ≤ length xs → m ≤ length ys → take n xs ++ take m ys ≡ take (n + m) (put_mid n k xs ys)
put_behind n k m xs ys within fits =
    let front = take-put_mid_below n k xs ys n (le_refl n) within in
    let rest = drop_at (take n xs) (ys ++ post_of n k xs) n (length-take-le n xs within) in
    ap (λ l. l ++ take m ys) (sym front)
    ∙ ap (λ l. take n (put_mid n k xs ys) ++ l) (sym (take-append-le m ys (post_of n k xs) fits) ∙ ap (take m) (sym rest))
    ∙ sym (take-add n m (put_mid n k xs ys))

-- After a read of m bytes, those counted are still the first that the reader had.
read_on : (a b c : Option (List ℕ)) (n k m t : ℕ) (xs ys : List ℕ) → n ≤ length xs → m ≤ length ys → Consumes a b (take n xs) → Consumes b c (take m ys)
    → n + m ≡ t → Consumes a c (take t (put_mid n k xs ys))
read_on a b c n k m t xs ys within fits before read counted =
    subst (Consumes a c) (put_behind n k m xs ys within fits ∙ ap (λ i. take i (put_mid n k xs ys)) counted) (Consumes-trans a b c _ _ before read)

pub loop-n-init : goal.loop-n-init
loop-n-init g c = (search rules, Consumes-nil _)

pub returns-in_default-clause-in_order : goal.returns-in_default-clause-in_order
returns-in_default-clause-in_order g c =
    subst (Consumes _ _) (sym (take-put_mid_below _ _ _ _ _ (le_refl _) c.loop-n.invariant.0)) (Consumes-kept _ _ _ _ c.loop-n.invariant.1 c.in_default.ensures.bytes)

pub returns-then-more-eq0-clause-in_order : goal.returns-then-more-eq0-clause-in_order
returns-then-more-eq0-clause-in_order g c =
    read_on _ _ _ _ _ _ _ _ _ c.loop-n.invariant.0 c.in-Ok.ensures.bound.0 c.loop-n.invariant.1 c.in-Ok.ensures.bytes.0 (omega (arith, c.if-more-eq0.true))

pub loop-n-preserved : goal.loop-n-preserved
loop-n-preserved g c =
    (search rules, read_on _ _ _ _ _ _ _ _ _ c.loop-n.invariant.0 c.in-Ok.ensures.bound.0 c.loop-n.invariant.1 c.in-Ok.ensures.bytes.0 (omega arith))

pub returns-clause-counted : goal.returns-clause-counted
returns-clause-counted g c = (c.loop-n.invariant.0, sym (length-take-le _ _ c.loop-n.invariant.0))

pub returns-clause-in_order : goal.returns-clause-in_order
returns-clause-in_order g c = c.loop-n.invariant.1
