-- The difference of two weights, as a whole number.
use mathlib.Core.Path.{◌≡◌, sym, ap}
use mathlib.Core.Logic.{◌↔◌, by_cases}
use Prim.Native.Nat.{ℕ, zero, suc, ◌+◌, ◌-◌, ◌≤◌, ◌<◌}
use native.Mathlib.Decide.{dec_lt}
use native.Mathlib.Omega.{arith}
use lib.IntN.{ℤ, pos, negsuc, neg_ℤ, nat_abs, ◌-ℤ◌, pos-ne-negsuc}
use lib.Dec.{ltb→lt, lt→ltb}
use lib.Signed.{◌<ℤ◌, lt_z_yes}
use borrow.Author.Tests.{lt-ltb, le-ltb}
use Rattle.matching.specs.Plans.{weight_on}
use Rattle.matching.proofs.Plans.{plans-within}
use Rattle.comparison.specs.DifferenceLaws.{DifferenceExact, DifferenceWithin}

-- So much more, or so much less
data Apart (x y : ℕ) : ℤ → Type 0 where
  more : (d : ℕ) → x ≡ y + d → Apart x y (pos d)
  less : (d : ℕ) → y ≡ x + suc d → Apart x y (negsuc d)

apart : (x y : ℕ) → Apart x y (pos x -ℤ pos y)
apart x zero = more (x + 0) (omega arith)
apart x (suc y) =
    by_cases (dec_lt x (suc y))
    (λ l. rw (lt-ltb x (suc y) l) (less (suc y - suc x) (omega arith)))
    (λ f. let g : suc y ≤ x = omega arith in rw (le-ltb x (suc y) g) (more (x - suc y) (omega arith)))

module _ (x y : ℕ) where
  is-more : (d : ℕ) → (pos x -ℤ pos y ≡ pos d) ↔ (x ≡ y + d)
  is-more d = (λ e. go (apart x y) e, λ e. back (apart x y) e)
    where
      go : {z : ℤ} → Apart x y z → z ≡ pos d → x ≡ y + d
      go (more c e) q = let s : c ≡ d = ap nat_abs q in omega arith
      go (less c e) q = absurd (pos-ne-negsuc d c (sym q))

      back : {z : ℤ} → Apart x y z → x ≡ y + d → z ≡ pos d
      back (more c e) q = let s : c ≡ d = omega arith in ap pos s
      back (less c e) q = absurd (omega arith)

  is-less : (d : ℕ) → (pos x -ℤ pos y ≡ negsuc d) ↔ (y ≡ x + suc d)
  is-less d = (λ e. go (apart x y) e, λ e. back (apart x y) e)
    where
      go : {z : ℤ} → Apart x y z → z ≡ negsuc d → y ≡ x + suc d
      go (more c e) q = absurd (pos-ne-negsuc c d q)
      go (less c e) q = let s : suc c ≡ suc d = ap nat_abs q in omega arith

      back : {z : ℤ} → Apart x y z → y ≡ x + suc d → z ≡ negsuc d
      back (more c e) q = absurd (omega arith)
      back (less c e) q = let s : c ≡ d = omega arith in ap negsuc s

  below-zero : ((pos x -ℤ pos y) <ℤ pos 0) ↔ (x < y)
  below-zero = (λ e. go (apart x y) e, λ l. back (apart x y) l)
    where
      go : {z : ℤ} → Apart x y z → z <ℤ pos 0 → x < y
      go (more c e) q = absurd (omega (arith, ltb→lt c 0 q.lt))
      go (less c e) q = omega arith

      back : {z : ℤ} → Apart x y z → x < y → z <ℤ pos 0
      back (more c e) l = absurd (omega arith)
      back (less c e) l = lt_z_yes tt

  above_zero : (pos 0 <ℤ (pos x -ℤ pos y)) ↔ (y < x)
  above_zero = (λ e. go (apart x y) e, λ l. back (apart x y) l)
    where
      go : {z : ℤ} → Apart x y z → pos 0 <ℤ z → y < x
      go (more c e) q = omega (arith, ltb→lt 0 c q.lt)
      go (less c e) q = absurd q.lt

      back : {z : ℤ} → Apart x y z → y < x → pos 0 <ℤ z
      back (more c e) l = lt_z_yes (lt→ltb 0 c (omega arith))
      back (less c e) l = absurd (omega arith)

  turned_round : pos y -ℤ pos x ≡ neg_ℤ (pos x -ℤ pos y)
  turned_round = go (apart x y) (apart y x)
    where
      go : {z t : ℤ} → Apart x y z → Apart y x t → t ≡ neg_ℤ z
      go (more zero e) (more c f) = let s : c ≡ 0 = omega arith in ap pos s
      go (more (suc d) e) (more c f) = absurd (omega arith)
      go (more zero e) (less c f) = absurd (omega arith)
      go (more (suc d) e) (less c f) = let s : c ≡ d = omega arith in ap negsuc s
      go (less d e) (more c f) = let s : c ≡ suc d = omega arith in ap pos s
      go (less d e) (less c f) = absurd (omega arith)

  pub between : (most : ℕ) → x ≤ most → y ≤ most → nat_abs (pos x -ℤ pos y) ≤ most
  between most l m = go (apart x y)
    where
      go : {z : ℤ} → Apart x y z → nat_abs z ≤ most
      go (more c e) = omega arith
      go (less c e) = omega arith

-- ---- Of plans

pub difference-exact : DifferenceExact
difference-exact b first second =
    let x = weight_on b first in
    let y = weight_on b second in
    record {
      more = is-more x y;
      less = is-less x y;
      none = (λ e. omega (arith, (is-more x y 0).0 e), λ e. (is-more x y 0).1 (omega arith));
      negative = below-zero x y;
      positive = above_zero x y;
      swapped = turned_round x y;
    }

pub difference-within : DifferenceWithin
difference-within b first second h =
    between (weight_on b first) (weight_on b second) 64000000 (plans-within b first h.sound h.first) (plans-within b second h.sound h.second)
