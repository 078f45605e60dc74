-- Floors: an edge is open exactly when its weight is over the floor of its item; so the weights over their floors are the open ones.
use mathlib.Core.Path.{◌≡◌, refl, ap}
use mathlib.Core.Bool.{Bool, true, false, cond}
use mathlib.Core.List.{List}
use Prim.Native.Nat.{ℕ, ◌+◌, ◌-◌, ◌*◌, ◌/◌, ◌<◌, ◌≤◌, min}
use native.Mathlib.Nat.{div-lt_iff_lt-mul, le-div_iff_mul-le, div-mul-le_self, mul-le-mul}
use native.Mathlib.Omega.{arith}
use lib.ListN.{get_or}
use lib.Dec.{ltb}
use borrow.Author.Tests.{le-ltb}
use Rattle.duality.specs.Steps.{utility}
use Rattle.duality.proofs.Decide.{same_test, reword, lt-decides}
use Rattle.board.specs.Limits.{max_weight}
use Rattle.board.specs.Cells.{flag_at}
use Rattle.board.specs.Live.{live_in}
use Rattle.bidding.specs.Floors.{floor_of, pence_of, Least, Weighs}
use Rattle.bidding.specs.Slides.{test_open}
use Rattle.bidding.specs.SlideLaws.{OpenAboveFloor, RoundedUp}

pub open-above-floor : OpenAboveFloor
open-above-floor p q w y l h =
    let less : p + (q - p) ≡ q = omega arith in
    let whole : (p + (q - p)) * w ≡ q * w = ap (λ f. f * w) less in
    let d = div-lt_iff_lt-mul {k = q - p} {x = y} {y = w} (omega arith) in
    (λ f. let below : y < w * (q - p) = d.0 (omega arith) in omega arith, λ o. let below : y / (q - p) < w = d.1 (omega arith) in omega arith)

-- A price in whole pence is no more than the floor, live or not
pub pence-below : (p q y : ℕ) (t : Bool) → p < q → pence_of q y ≤ cond t max_weight (floor_of p q y)
pence-below p q y true l = omega arith
pence-below p q y false l =
    let less : (y / q) * (q - p) ≤ (y / q) * q = mul-le-mul {n₂ = y / q} {m₂ = q} (omega arith) (omega arith) in
    let d : y / q ≤ y / (q - p) = (le-div_iff_mul-le {k = q - p} {x = y / q} {y = y} (omega arith)).1 (omega (arith, less, div-mul-le_self y q)) in
    omega arith

-- d is the price y in whole pence, and s + 1 what is left of the weight
round_by : (q d s y : ℕ) → d * q ≤ y → y < (d + 1) * q → (q * s < utility q (d + (s + 1)) y) × (utility q (d + (s + 1)) y ≤ q * (s + 1)) × (0 < s + 1)
round_by q d s y a b = (omega arith, omega arith, omega arith)

pub rounded-up : RoundedUp
rounded-up q w y lq lw l =
    let d : y / q < w = (div-lt_iff_lt-mul {k = q} {x = y} {y = w} lq).1 (omega arith) in
    let m : min (y / q) max_weight ≡ y / q = omega arith in
    let s : w - y / q ≡ w - y / q - 1 + 1 = omega arith in
    let e : y / q + (w - y / q - 1 + 1) ≡ w = omega arith in
    let r = round_by q (y / q) (w - y / q - 1) y (div-mul-le_self y q) ((div-lt_iff_lt-mul {k = q} {x = y} {y = y / q + 1} lq).0 (omega arith)) in
    let t : (q * (w - y / q - 1) < utility q w y) × (utility q w y ≤ q * (w - y / q - 1 + 1)) × (0 < w - y / q - 1 + 1) = rw e at r in
    rw m (t.0, omega (arith, t.1, ap (λ x. q * x) s), omega (arith, s))

-- The test by the floor and that by the utility
same-open : (p q w y : ℕ) → p < q → w ≤ max_weight → ltb (floor_of p q y) w ≡ ltb (p * w) (utility q w y)
same-open p q w y l h =
    let t = open-above-floor p q w y l h in
    same_test (ltb (floor_of p q y) w) (ltb (p * w) (utility q w y)) (reword (lt-decides (floor_of p q y) w) t.0 t.1) (lt-decides (p * w) (utility q w y))

-- A weight over the floor of its item, live or not
above_floor : (p q w y : ℕ) (t : Bool) → p < q → w ≤ max_weight →
    let f = cond t max_weight (floor_of p q y) in
    let v = cond t 0 w in
    cond (ltb f w) w 0 ≡ cond (ltb (p * v) (utility q v y)) v 0
above_floor p q w y true l h = rw (le-ltb max_weight w h, le-ltb (p * 0) (utility q 0 y) (omega arith)) refl
above_floor p q w y false l h = rw (same-open p q w y l h) refl

-- Item by item
pub above-floors : (p q m : ℕ) (row floors withdrawn : List ℕ) (y : ℕ → ℕ) → p < q → Weighs m row → Least p q withdrawn y m floors →
    (k : ℕ) → k < m → cond (ltb (get_or floors k 0) (get_or row k 0)) (get_or row k 0) 0 ≡ test_open p q (live_in row withdrawn) y k
unfolding test_open
above-floors p q m row floors withdrawn y l h f k lk =
    rw (f k lk) (above_floor p q (get_or row k 0) (y k) (flag_at withdrawn k) l (h k lk))
