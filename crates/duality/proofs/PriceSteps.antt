-- (h) The steps of a price.
use Prim.Native.Nat.{ℕ, ◌+◌, ◌*◌, ◌/◌, ◌≤◌, ◌<◌}
use native.Mathlib.Nat.{add-div_right, le-div_iff_mul-le, lt_of_mul-lt-mul_right, div-mul-le_self, mul-pos, le_trans}
use native.Mathlib.Omega.{arith}
use Rattle.duality.specs.Steps.{Open, most}
use Rattle.duality.specs.PriceSteps.{PriceSteps}

div_mono : (s x y : ℕ) → 0 < s → x ≤ y → x / s ≤ y / s
div_mono s x y h l = (le-div_iff_mul-le h).1 (le_trans (div-mul-le_self x s) l)

-- Where the edge is open there is room for one step more
room : (p q w y : ℕ) → 0 < p → 0 < w → Open p q w y → y / (p * w) + 1 ≤ most p q
room p q w y hp hw o =
    let fits : (y / (p * w) + 1) * p * w < q * w = omega (arith, div-mul-le_self y (p * w)) in
    (le-div_iff_mul-le hp).1 (omega (arith, lt_of_mul-lt-mul_right w fits))

pub price-steps : PriceSteps
price-steps p q w hp hw =
    let s : 0 < p * w = mul-pos hp hw in
    record {
      within = λ y. omega arith;
      rising = λ y z l. omega (arith, div_mono (p * w) y z s l);
      counted = λ y z o l. omega (arith, room p q w y hp hw o, add-div_right y s, div_mono (p * w) (y + p * w) z s l);
    }
