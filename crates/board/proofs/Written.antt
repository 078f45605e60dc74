-- Laws of a list whose first cells are written.
use mathlib.Core.Path.{◌≡◌, refl, ◌∙◌}
use mathlib.Core.List.{List, ◌++◌, append_assoc}
use Prim.Native.Nat.{ℕ, zero, suc, ◌+◌, ◌≤◌, ◌<◌}
use native.Mathlib.Numerals.{add-one}
use native.Mathlib.Omega.{arith}
use lib.ListN.{length, get_or, set, length-set}
use Rattle.std.proofs.Common.{take, drop, drop-cons, length-take}
use Rattle.std.proofs.Math.Seq.{take-suc, set-append_seam}
use lib.Seq.{get_or-set_same, get_or-set_other}
use Rattle.duality.proofs.Below.{one_more}
use Rattle.board.specs.Lent.{written, lists}

pub written-length : (n : ℕ) (f : ℕ → ℕ) (l : List ℕ) → length (written n f l) ≡ length l
unfolding written
written-length zero f l = refl
written-length (suc n) f l = simp length-set (written-length n f l)

-- One cell more
pub written_next : (n v : ℕ) (f : ℕ → ℕ) (l m : List ℕ) → m ≡ written n f l → v ≡ f n → set m n v ≡ written (n + 1) f l
unfolding written
written_next n v f l m e h = rw (add-one, e, h)

pub written_start : (f : ℕ → ℕ) (l : List ℕ) → l ≡ written 0 f l
unfolding written
written_start f l = refl

pub written-end : (i n : ℕ) (f : ℕ → ℕ) (l m : List ℕ) → i ≡ n → m ≡ written i f l → m ≡ written n f l
written-end i n f l m e h = rw e at h

-- A written cell, and one past them
pub written_in : (n : ℕ) (f : ℕ → ℕ) (l : List ℕ) → n ≤ length l → (i : ℕ) → i < n → get_or (written n f l) i 0 ≡ f i
unfolding written
written_in zero f l h i m = absurd (omega arith)
written_in (suc n) f l h i m =
    one_more n (λ i. get_or (written (suc n) f l) i 0 ≡ f i)
    (λ i m. get_or-set_other (written n f l) n i (f n) 0 (omega arith) ∙ written_in n f l (omega arith) i m)
    (get_or-set_same (written n f l) n (f n) 0 (omega (arith, written-length n f l)))
    i m

pub written-past : (n : ℕ) (f : ℕ → ℕ) (l : List ℕ) (i : ℕ) → n ≤ i → get_or (written n f l) i 0 ≡ get_or l i 0
unfolding written
written-past zero f l i m = refl
written-past (suc n) f l i m = get_or-set_other (written n f l) n i (f n) 0 (omega arith) ∙ written-past n f l i (omega arith)

-- Equal numbers are written alike
pub written_as : (n : ℕ) (f g : ℕ → ℕ) (l : List ℕ) → ((i : ℕ) → i < n → f i ≡ g i) → written n f l ≡ written n g l
unfolding written
written_as zero f g l e = refl
written_as (suc n) f g l e = rw (written_as n f g l (λ i m. e i (omega arith)), e n (omega arith))

-- Three lists, list by list
pub lists-as : {plan plan' prices prices' gains gains' : List ℕ} → plan ≡ plan' → prices ≡ prices' → gains ≡ gains' →
    lists plan prices gains ≡ lists plan' prices' gains'
lists-as e f g = rw (e, f, g)

-- The first numbers of a list, copied
pub written-copied : (n : ℕ) (xs l : List ℕ) → n ≤ length xs → n ≤ length l → take n xs ++ drop n l ≡ written n (λ k. get_or xs k 0) l
unfolding written
written-copied zero xs l a b = refl
written-copied (suc n) xs l a b =
    let seam = set-append_seam (take n xs) (get_or l n 0) (drop (suc n) l) (get_or xs n 0) in
    let size : length (take n xs) ≡ n = omega (arith, length-take n xs) in
    rw (take-suc xs n 0 (omega arith), append_assoc, ← seam, size, ← drop-cons l n 0 (omega arith), written-copied n xs l (omega arith) (omega arith)) refl

pub written-front : (n : ℕ) (xs ys l : List ℕ) → ys ≡ take n xs → n ≤ length xs → n ≤ length l → ys ++ drop n l ≡ written n (λ k. get_or xs k 0) l
written-front n xs ys l e a b = rw e (written-copied n xs l a b)
