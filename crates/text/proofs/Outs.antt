-- Laws of what a writer puts, one after the other. Assumes nothing.
use Rattle.std.proofs.Common.{◌≡◌, ℕ, suc, ◌+◌, ◌≤◌, Bool, true, false, List, [], ◌∷◌, ◌++◌, length, refl, sym, ◌∙◌, ap, arith}
use lib.Seq.{set_out, length-sets}
use lib.ListN.{length-append}
use lib.Dec.{leb}
use borrow.Author.Tests.{leb-true, leb-false}
use Rattle.std.proofs.lemmas.List.Edits.{sets}
use Rattle.text.specs.Print.{Put}
use Rattle.text.specs.Out.{Puts, last_position}
use Rattle.text.specs.declared.print.Out.{Out}
use Rattle.text.proofs.Puts.{sets-append}

-- past the end nothing is set
sets-past : (ys l : List ℕ) (at : ℕ) → length l ≤ at → sets l at ys ≡ l
sets-past [] l at h = refl
sets-past (y ∷ ys) l at h = let e = set_out l at y h in ap (λ (m : List ℕ). sets m (suc at) ys) e ∙ sets-past ys l (suc at) (omega arith)

-- nothing
pub puts_none : (o : Out) → Puts o o []
puts_none o = let h : o.at ≤ last_position = omega (arith, o.in_range) in record { same_reference = refl; wrote = λ f. refl; moved = omega arith }

-- one after the other
pub puts_then : {a b c : Out} {xs ys : List ℕ} → Puts a b xs → Puts b c ys → Puts a c (xs ++ ys)
puts_then {a} {b} {c} {xs} {ys} p q =
    record {
      same_reference = q.same_reference ∙ p.same_reference;
      wrote = λ h.
          let n : length b.bytes.now ≡ length a.bytes.now = ap length (p.wrote h) ∙ length-sets a.bytes.now a.at xs in
          q.wrote (omega arith)
          ∙ (go (leb (a.at + length xs) last_position) refl (omega arith)
          ∙ (ap (λ (z : List ℕ). sets z (a.at + length xs) ys) (p.wrote h) ∙ sym (sets-append xs ys a.bytes.now a.at)));
      moved = rw length-append (omega (arith, p.moved, q.moved));
    }
  where
    go : (t : Bool) → leb (a.at + length xs) last_position ≡ t → length b.bytes.now ≤ last_position
        → sets b.bytes.now b.at ys ≡ sets b.bytes.now (a.at + length xs) ys
    go true h n = let z : b.at ≡ a.at + length xs = omega (arith, p.moved, leb-true (a.at + length xs) last_position h) in rw z
    go false h n =
        let k = leb-false (a.at + length xs) last_position h in
        sets-past ys b.bytes.now b.at (omega (arith, p.moved)) ∙ sym (sets-past ys b.bytes.now (a.at + length xs) (omega arith))

-- the same bytes, said otherwise
pub puts_as : {a b : Out} {xs ys : List ℕ} → xs ≡ ys → Puts a b xs → Puts a b ys
puts_as e p = rw e at p

-- what a writer put from the front of the list that it was lent, once the list is handed back
pub put_back : {l m : List ℕ} {a b : Out} {bs : List ℕ} → Puts a b bs → length l ≤ last_position → length bs ≤ last_position
    → a.bytes.now ≡ l → a.at ≡ 0 → m ≡ b.bytes.now → Put l m 0 bs b.at
put_back {l} {m} {a} {b} {bs} p f g el ea em =
    let h : length a.bytes.now ≤ last_position = rw el f in
    record { wrote = em ∙ (p.wrote h ∙ rw (el, ea)); moved = omega (arith, p.moved) }
