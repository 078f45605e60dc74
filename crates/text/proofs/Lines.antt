-- Laws of fields and lines. Assumes nothing.
use mathlib.Core.Path.{◌≡◌, refl, ap}
use Prim.Native.Nat.{ℕ, zero, suc, ◌+◌}
use mathlib.Core.Bool.{Bool, cond}
use mathlib.Core.List.{List, []}
use lib.ListN.{get_or}
use borrow.Author.Tests.{eq-eqb, ne_eqb}
use Rattle.text.specs.Bytes.{tab, newline}
use Rattle.text.specs.Number.{field_at}
use Rattle.text.specs.Line.{all, bad, follow, fields_from}
use Rattle.text.specs.Reader.{tabbed_at}
use Rattle.std.proofs.Common.{None}

-- what stands at a position decides the fields from there on
pub at-newline : (k : ℕ) (s : List ℕ) (i : ℕ) → get_or s i 0 ≡ newline → fields_from (suc k) s i ≡ all [] (i + 1)
at-newline k s i e = rw e

pub at-tab : (k : ℕ) (s : List ℕ) (i : ℕ) → get_or s i 0 ≡ tab → fields_from (suc k) s i ≡ follow (field_at s (i + 1)) (λ n. fields_from k s n)
at-tab k s i e = rw e

pub at_other : (k : ℕ) (s : List ℕ) (i : ℕ) → (get_or s i 0 ≡ newline → ⊥) → (get_or s i 0 ≡ tab → ⊥) → fields_from k s i ≡ bad
at_other zero s i h g = refl
at_other (suc k) s i h g = rw (ne_eqb (get_or s i 0) newline h, ne_eqb (get_or s i 0) tab g)

-- the field at a position, by the byte there
pub tab-here : (s : List ℕ) (i : ℕ) → get_or s i 0 ≡ tab → tabbed_at s i ≡ field_at s (i + 1)
tab-here s i e = ap (λ (t : Bool). cond t (field_at s (i + 1)) None) (eq-eqb (get_or s i 0) tab e)

pub no-tab : (s : List ℕ) (i : ℕ) → (get_or s i 0 ≡ tab → ⊥) → tabbed_at s i ≡ None
no-tab s i h = ap (λ (t : Bool). cond t (field_at s (i + 1)) None) (ne_eqb (get_or s i 0) tab h)
